-- What a call answers where its refusals stand in rows, each with its condition, in the order in which they are tested.
use Rattle.std.specs.Prelude.{◌≡◌, ◌⊎◌, List, [], ◌∷◌, Ok, Err, Result}

-- e is the refusal of the uppermost row whose condition holds: its own condition holds, and that of no row above it
abbrev pub Uppermost : {E : Type 0} → List (E × Type 0) → E → Type 0
Uppermost [] e = ⊥
Uppermost (d ∷ ds) e = ((e ≡ d.0) × d.1) ⊎ ((d.1 → ⊥) × Uppermost ds e)

-- no row's condition holds
abbrev pub NoRow : {E : Type 0} → List (E × Type 0) → Type 0
NoRow [] = Unit {0}
NoRow (d ∷ ds) = (d.1 → ⊥) × NoRow ds

-- The answer of a call on a state s, which is t afterwards: Ok x where no row's condition holds, and then done says what
-- x and t are; or else the refusal of the uppermost row whose condition holds, and then the state is as it was.
abbrev pub Answered : {S X E : Type 0} → List (E × Type 0) → (X → S → Type 0) → S → Result X E → S → Type 0
Answered rows done s (Ok x) t = NoRow rows × done x t
Answered rows done s (Err e) t = Uppermost rows e × (t ≡ s)
