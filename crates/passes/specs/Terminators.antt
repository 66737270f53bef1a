-- Finding the first terminator of a subtree.
use Rattle.std.specs.Prelude.{◌≡◌, Bool, cond, List, [], ◌∷◌, Some, None, Option, Result}
use Rattle.result.specs.declared.refusal.Refusal.{Refusal}
use Rattle.result.specs.Rows.{Answered}
use Rattle.orders.specs.declared.walk_result.WalkResult.{WalkResult}
use Rattle.orders.specs.declared.walk_result.WalkResult.TheVariants.{Advance, Break}
use Rattle.orders.specs.Logs.{Whole}
use Rattle.records.specs.declared.handles.OpPtr.{OpPtr}
use Rattle.records.specs.declared.ir_node.IRNode.{IRNode}
use Rattle.records.specs.declared.ir_node.IRNode.TheVariants as node
use Rattle.records.specs.declared.operation.Operation.{Operation}
use Rattle.records.specs.Children.{Lists}
use Rattle.records.specs.Models.{operation_at}
use Rattle.records.specs.Nodes.{is, parent}
use Rattle.ir.specs.declared.context.Context.{Context}
use Rattle.ir.specs.Stores.{nodes}
use Rattle.walkers.specs.declared.config.TheConstants.{WALKCONFIG_PREORDER_FORWARD}
use Rattle.walkers.specs.Children.{directed_children}
use Rattle.walkers.specs.Configs.{early}
use Rattle.walkers.specs.Walks.{root_rows}

-- the operation is a terminator; a dead one is none
abbrev pub is_terminator : Context → OpPtr → Bool
is_terminator s op = is (λ (o : Operation). o.kind.terminator) (operation_at (nodes s) op)

-- a terminator ends the walk, which then says it
abbrev pub seeking_answer : Context → IRNode → WalkResult OpPtr
seeking_answer s (node.Operation op) = cond (is_terminator s op) (Break op) Advance
seeking_answer s (node.BasicBlock block) = Advance
seeking_answer s (node.Region region) = Advance

-- the first of the nodes that is a terminator
abbrev pub first_terminator : Context → List IRNode → Option OpPtr
first_terminator s [] = None
first_terminator s (node.Operation op ∷ ns) = cond (is_terminator s op) (Some op) (first_terminator s ns)
first_terminator s (node.BasicBlock block ∷ ns) = first_terminator s ns
first_terminator s (node.Region region ∷ ns) = first_terminator s ns

-- The node root and all that lies within it, each once and each before what lies below it, in the order of the lists l: what was found
-- is the first terminator among these.
pub record FirstIn (s : Context) (l : Lists (nodes s)) (root : IRNode) (found : Option OpPtr) : Type 0 where
  pub order : List IRNode
  pub whole : Whole (parent (nodes s)) (early WALKCONFIG_PREORDER_FORWARD) (directed_children WALKCONFIG_PREORDER_FORWARD (nodes s) l) root order
  pub first : found ≡ first_terminator s order

-- finding the first terminator of a subtree: whatever lists the links of the store describe
abbrev pub FirstTerminatorCall : Context → OpPtr → Result (Option OpPtr) Refusal → Type 0
FirstTerminatorCall s root r = Answered (root_rows s (node.Operation root)) (λ found u. (l : Lists (nodes s)) → FirstIn s l (node.Operation root) found) s r s
