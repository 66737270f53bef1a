-- What stands where in a list.
use Rattle.std.specs.Prelude.{◌≡◌, ℕ, ◌<◌, List, length, slice_index_or}

-- x stands at the place i of the list, counted from 0
pub record Stands {X : Type 0} (xs : List X) (i : ℕ) (x : X) : Type 0 where
  pub within : i < length xs
  pub is : (d : X) → slice_index_or xs i d ≡ x

-- x stands nowhere in the list
abbrev pub Absent : {X : Type 0} → List X → X → Type 0
Absent xs x = (i : ℕ) → Stands xs i x → ⊥
