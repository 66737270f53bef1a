-- Numbering the operations that are shown.
use Rattle.std.specs.Prelude.{ℕ, ◌+◌, ◌==◌, cond}
use Rattle.orders.specs.declared.walk_result.WalkResult.{WalkResult}
use Rattle.orders.specs.declared.walk_result.WalkResult.TheVariants.{Advance, Break}
use Rattle.records.specs.declared.handles.OpPtr.{OpPtr}
use Rattle.records.specs.declared.ir_node.IRNode.{IRNode}
use Rattle.records.specs.declared.ir_node.IRNode.TheVariants as node
use Rattle.ir.specs.declared.context.Context.{Context}
use Rattle.ir.specs.Stores.{nodes}
use Rattle.walkers.specs.Notes.{note_of, with_note}

-- the last number that a note can be
abbrev pub last_number : ℕ
last_number = 4294967295

-- an operation that gets the last number ends the walk
abbrev pub numbering_answer : ℕ → IRNode → WalkResult (Unit {0})
numbering_answer count (node.Operation op) = cond (count == last_number) (Break tt) Advance
numbering_answer count (node.BasicBlock block) = Advance
numbering_answer count (node.Region region) = Advance

-- the count once a node was shown
abbrev pub numbered : ℕ → IRNode → ℕ
numbered count (node.Operation op) = cond (count == last_number) count (count + 1)
numbered count (node.BasicBlock block) = count
numbered count (node.Region region) = count

-- an operation's note is its number
abbrev pub numbering_notes : ℕ → Context → IRNode → OpPtr → ℕ
numbering_notes count s (node.Operation op) = with_note s op count
numbering_notes count s (node.BasicBlock block) = note_of (nodes s)
numbering_notes count s (node.Region region) = note_of (nodes s)
