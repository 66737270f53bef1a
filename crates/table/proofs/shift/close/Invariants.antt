use Rattle.std.proofs.Common.{length}
use Rattle.table.proofs.Moving.{Moves}
use Rattle.table.proofs.Nearing.{distance}
use Rattle.table.proofs.shift.close.Given as goal

abbrev pub invariant-moves : goal.invariant-moves
invariant-moves g l = Moves g.K.Key.hashes l.initial.entries l.initial.hole l.entries l.hole

abbrev pub decreases-moves : goal.decreases-moves
decreases-moves g l = distance g.K.Key.hashes (length l.initial.entries) 0 l.entries
