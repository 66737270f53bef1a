-- How operations alone are shown to a visitor, and no table among them.
use Rattle.std.specs.Prelude.{ℕ, cond}
use Rattle.orders.specs.declared.walk_result.WalkResult.{WalkResult}
use Rattle.orders.specs.declared.walk_result.WalkResult.TheVariants.{Advance, Skip}
use Rattle.records.specs.declared.handles.OpPtr.{OpPtr}
use Rattle.records.specs.declared.ir_node.IRNode.{IRNode}
use Rattle.records.specs.declared.ir_node.IRNode.TheVariants as node
use Rattle.records.specs.Nodes.{is_table}
use Rattle.ir.specs.declared.context.Context.{Context}
use Rattle.ir.specs.Stores.{nodes}
use Rattle.walkers.specs.declared.operations_only.OperationsOnly.{OperationsOnly}
use Rattle.walkers.specs.Notes.{note_of}

-- the answer to a node: that of the visitor inside to an operation, and to skip where it is a table
abbrev pub answered : {V B : Type 0} → (V → Context → IRNode → WalkResult B) → V → Context → IRNode → WalkResult B
answered answer v s (node.Operation op) = cond (is_table (nodes s) op) Skip (answer v s (node.Operation op))
answered answer v s (node.BasicBlock block) = Advance
answered answer v s (node.Region region) = Advance

-- the visitor inside after a node: all but operations, and of these the tables, leave it as it was
abbrev pub moved : {V : Type 0} → (V → Context → IRNode → V) → V → Context → IRNode → V
moved next v s (node.Operation op) = cond (is_table (nodes s) op) v (next v s (node.Operation op))
moved next v s (node.BasicBlock block) = v
moved next v s (node.Region region) = v

-- the same of the visitor that shows the one inside operations alone: its answer to a node, and the visitor after it
abbrev pub only_answer : {V B : Type 0} → (V → Context → IRNode → WalkResult B) → OperationsOnly V → Context → IRNode → WalkResult B
only_answer answer v s n = answered answer v.inner s n

abbrev pub only_next : {V : Type 0} → (V → Context → IRNode → V) → OperationsOnly V → Context → IRNode → OperationsOnly V
only_next next v s n = record { inner = moved next v.inner s n }

-- the note of each operation after a node: what is not shown to the visitor inside leaves all notes
abbrev pub left : {V : Type 0} → (V → Context → IRNode → OpPtr → ℕ) → V → Context → IRNode → OpPtr → ℕ
left notes v s (node.Operation op) = cond (is_table (nodes s) op) (note_of (nodes s)) (notes v s (node.Operation op))
left notes v s (node.BasicBlock block) = note_of (nodes s)
left notes v s (node.Region region) = note_of (nodes s)
