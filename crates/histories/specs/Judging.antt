-- When rows of refusals, each with its condition, tell whether a call is denied.
use Rattle.std.specs.Prelude.{◌≡◌, List, Ok, Err, Result}
use Rattle.result.specs.Rows.{NoRow, Uppermost}

-- A call is denied by a row exactly where that is the uppermost whose condition holds, and is granted only where none does.
pub record Judged {X E : Type 0} (rows : List (E × Type 0)) (r : Result X E) : Type 0 where
  pub by_row : (e : E) → r ≡ Err e → Uppermost rows e
  pub denied : (e : E) → Uppermost rows e → r ≡ Err e
  pub granted : (x : X) → r ≡ Ok x → NoRow rows
