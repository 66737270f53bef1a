-- Notes as the digits of a number.
use Rattle.std.specs.Prelude.{ℕ, ◌+◌, ◌*◌, ◌%◌, ◌^◌}
use Rattle.records.specs.declared.ir_node.IRNode.{IRNode}
use Rattle.records.specs.declared.ir_node.IRNode.TheVariants as node
use Rattle.ir.specs.declared.context.Context.{Context}
use Rattle.ir.specs.Stores.{nodes}
use Rattle.walkers.specs.Notes.{note_of}

-- the number with an operation's note as one digit more; other nodes give none
abbrev pub with_digit : Context → ℕ → IRNode → ℕ
with_digit s k (node.Operation op) = (k * 10 % 2 ^ 64 + note_of (nodes s) op) % 2 ^ 64
with_digit s k (node.BasicBlock block) = k
with_digit s k (node.Region region) = k
