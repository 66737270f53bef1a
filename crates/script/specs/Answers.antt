-- What a walk of a script is answered to each node.
use Rattle.std.specs.Prelude.{◌≡◌, ◌==◌, ◌&&◌, Bool, false, cond, List, [], ◌∷◌, Some, None, Option}
use Rattle.arena.specs.declared.handle.Handle.{Handle}
use Rattle.orders.specs.declared.walk_result.WalkResult.{WalkResult}
use Rattle.orders.specs.declared.walk_result.WalkResult.TheVariants.{Advance, Skip, Break}
use Rattle.orders.specs.Logs.{Shown}
use Rattle.records.specs.declared.ir_node.IRNode.{IRNode}
use Rattle.records.specs.declared.ir_node.IRNode.TheVariants as node
use Rattle.ir.specs.declared.context.Context.{Context}
use Rattle.walkers.specs.Operations.{answered}
use Rattle.walkers.specs.Walks.{always}

-- the handles have one place and one version
abbrev pub same_handle : Handle → Handle → Bool
same_handle h k = h.place == k.place && h.version == k.version

-- the nodes are of one kind, and their handles are the same
abbrev pub same_node : IRNode → IRNode → Bool
same_node (node.Operation a) (node.Operation b) = same_handle a.handle b.handle
same_node (node.Operation a) (node.BasicBlock b) = false
same_node (node.Operation a) (node.Region b) = false
same_node (node.BasicBlock a) (node.Operation b) = false
same_node (node.BasicBlock a) (node.BasicBlock b) = same_handle a.handle b.handle
same_node (node.BasicBlock a) (node.Region b) = false
same_node (node.Region a) (node.Operation b) = false
same_node (node.Region a) (node.BasicBlock b) = false
same_node (node.Region a) (node.Region b) = same_handle a.handle b.handle

-- the node is the one that there may be
abbrev pub is_at : Option IRNode → IRNode → Bool
is_at None n = false
is_at (Some m) n = same_node m n

-- Break at the node end, else Skip at the node skip, and Advance at all others
abbrev pub answer_at : Option IRNode → Option IRNode → IRNode → WalkResult (Unit {0})
answer_at skip end n = cond (is_at end n) (Break tt) (cond (is_at skip n) Skip Advance)

-- the answer where a table is walked: Skip at a table, which is nested there, and Advance at all others
abbrev pub answer_in_table : Context → IRNode → WalkResult (Unit {0})
answer_in_table s n = answered {V = Unit {0}} always tt s n

-- each node of the log was answered so
abbrev pub AnsweredBy : (IRNode → WalkResult (Unit {0})) → List (Shown IRNode (Unit {0})) → Type 0
AnsweredBy answer [] = Unit {0}
AnsweredBy answer (s ∷ log) = (s.answer ≡ answer s.node) × AnsweredBy answer log

-- the same of a walk that is to answer Skip and Break at a node each
abbrev pub Steered : Option IRNode → Option IRNode → List (Shown IRNode (Unit {0})) → Type 0
Steered skip end log = AnsweredBy (answer_at skip end) log
