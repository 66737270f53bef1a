use Rattle.std.proofs.Common.{◌≡◌, ℕ, ◌-◌, List, length}
use Rattle.std.specs.Io.KnownBytes.{Appends}
use Rattle.script.specs.Transcripts.{Lines}
use Rattle.irscript.proofs.lines.print_lines.Given as goal

abbrev pub invariant-fields : goal.invariant-fields
invariant-fields g l =
    (length l.out ≡ 8192)
    × ((bytes : List ℕ) × Lines l.script l.session.state l.place bytes × Appends (g.W.Write.contents l.initial.writer) (g.W.Write.contents l.writer) bytes)

abbrev pub decreases-fields : goal.decreases-fields
decreases-fields g l = length l.script - l.place
