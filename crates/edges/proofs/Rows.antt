-- What a call answers where it is known which row fits, or that none does. Assumes nothing.
use Rattle.std.proofs.Common.{◌≡◌, List, Ok, Err, Result, refl, ap}
use Rattle.result.specs.Rows.{Answered, NoRow, Uppermost}
use Rattle.result.proofs.Rows.{no_row, one_row}

module _ {S X E : Type 0} (rows : List (E × Type 0)) (done : X → S → Type 0) (s : S) where
  pub refused : (r : Result X E) (t : S) (e : E) → Uppermost rows e → Answered rows done s r t → (r ≡ Err e) × (t ≡ s)
  refused (Ok x) t e u a = absurd (no_row rows e a.0 u)
  refused (Err f) t e u a = (ap Err (one_row rows f e a.0 u), a.1)

  pub passed : (r : Result X E) (t : S) → NoRow rows → Answered rows done s r t → (x : X) × (r ≡ Ok x) × done x t
  passed (Ok x) t n a = (x, refl, a.1)
  passed (Err e) t n a = absurd (no_row rows e n a.0)
