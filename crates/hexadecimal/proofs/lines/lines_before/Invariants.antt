use Rattle.std.proofs.Common.{◌≡◌, ◌≤◌, take}
use Rattle.hexadecimal.specs.Texts.{lines_in}
use Rattle.hexadecimal.proofs.lines.lines_before.Given as goal

abbrev pub invariant-loop-byte : goal.invariant-loop-byte
invariant-loop-byte l = (l.lines ≡ lines_in (take l.byte-index l.byte-items)) × (l.lines ≤ l.byte-index)
