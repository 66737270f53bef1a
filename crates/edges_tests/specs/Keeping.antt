-- Keeping nodes in an array.
use Rattle.std.specs.Prelude.{ℕ, nat_lt, cond, List, length, Some, Option, set}
use Rattle.records.specs.declared.ir_node.IRNode.{IRNode}

-- the nodes with one more at an index, where it is not past the last
abbrev pub kept : List (Option IRNode) → ℕ → IRNode → List (Option IRNode)
kept ns i n = cond (nat_lt i (length ns)) (set ns i (Some n)) ns
