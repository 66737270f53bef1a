-- What numbering the operations of a subtree leaves.
use Rattle.std.specs.Prelude.{◌≡◌, ℕ, suc, List, [], ◌∷◌, ◌++◌, Result}
use Rattle.linked_list.specs.Links.{In}
use Rattle.result.specs.declared.refusal.Refusal.{Refusal}
use Rattle.result.specs.Rows.{Answered}
use Rattle.orders.specs.declared.walk_result.WalkResult.{WalkResult}
use Rattle.orders.specs.declared.walk_result.WalkResult.TheVariants.{Advance}
use Rattle.records.specs.declared.handles.OpPtr.{OpPtr}
use Rattle.records.specs.declared.ir_node.IRNode.{IRNode}
use Rattle.records.specs.declared.ir_node.IRNode.TheVariants as node
use Rattle.ir.specs.declared.context.Context.{Context}
use Rattle.ir.specs.Stores.{nodes}
use Rattle.walkers.specs.declared.config.TheConstants.{WALKCONFIG_PREORDER_FORWARD}
use Rattle.walkers.specs.Notes.{OnlyNotes, note_of}
use Rattle.walkers.specs.Walks.{WholeIn, root_rows}

-- how many of the nodes are operations
abbrev pub operations_in : List IRNode → ℕ
operations_in [] = 0
operations_in (node.Operation op ∷ ns) = suc (operations_in ns)
operations_in (node.BasicBlock block ∷ ns) = operations_in ns
operations_in (node.Region region ∷ ns) = operations_in ns

-- The nodes of the subtree, each once, in the order of a walk: the note of each operation of it is how many operations come before it,
-- and that of any other stays, as all else does. No answer ended the walk.
pub record Numbered (s : Context) (root : OpPtr) (say : WalkResult (Unit {0})) (t : Context) : Type 0 where
  pub order : List IRNode
  pub whole : WholeIn s WALKCONFIG_PREORDER_FORWARD (node.Operation root) order
  pub numbers : (op : OpPtr) (before after : List IRNode) → order ≡ before ++ (node.Operation op ∷ after) → note_of (nodes t) op ≡ operations_in before
  pub others : (op : OpPtr) → (In (node.Operation op) order → ⊥) → note_of (nodes t) op ≡ note_of (nodes s) op
  pub only : OnlyNotes s t
  pub says : say ≡ Advance

-- numbering the operations of a subtree; a refusal changes nothing
abbrev pub NumberCall : Context → OpPtr → Result (WalkResult (Unit {0})) Refusal → Context → Type 0
NumberCall s root r t = Answered (root_rows s (node.Operation root)) (λ say u. Numbered s root say u) s r t
