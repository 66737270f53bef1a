use Rattle.std.proofs.Common.{◌≡◌, ℕ, ◌-◌, List, length}
use Rattle.script.specs.Transcripts.{Lines}
use Rattle.replay.proofs.Passing.{Front}
use Rattle.replay.proofs.compare.compare_lines.Given as goal

abbrev pub invariant-fields : goal.invariant-fields
invariant-fields l = (length l.out ≡ 8192) × ((bytes : List ℕ) × Lines l.script l.session.state l.place bytes × Front l.initial.rest bytes l.rest)

abbrev pub decreases-fields : goal.decreases-fields
decreases-fields l = length l.script - l.place
