-- What comparing two truth values tells, and which refusal is handed on. Assumes nothing.
use Rattle.std.proofs.Common.{◌≡◌, Bool, true, false, Ok, Err, Result, refl, ap}
use mathlib.Core.Bool.{beq, not}
use Rattle.std.specs.Prelude.{IsErrAnd}
use Rattle.forest.proofs.Listed.{clash}

-- truth values that are not told apart are equal
pub equal_bools : (a b : Bool) → not (beq a b) ≡ false → a ≡ b
equal_bools true true e = refl
equal_bools true false e = absurd (clash e)
equal_bools false true e = absurd (clash e)
equal_bools false false e = refl

-- a refusal handed on is the refusal
pub handed_on : {X E : Type 0} (r : Result X E) (e : E) → IsErrAnd r (λ x. x ≡ e) → r ≡ Err e
handed_on (Ok x) e h = absurd h
handed_on (Err x) e h = ap Err h
