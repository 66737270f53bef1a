-- The names held, and what each call answers and leaves.
use Rattle.std.specs.Prelude.{◌≡◌, ℕ, ◌<◌, ◌≤◌, ◌⊎◌, List, [], ◌∷◌, ◌++◌, map, length, Some, None, vec_items, Option}
use Rattle.identifier.specs.declared.identifier.Identifier.{Identifier}
use Rattle.identifier.specs.Identifiers.{text}
use Rattle.names.specs.Places.{Stands, Absent}
use Rattle.names.specs.declared.names.Names.{Names}

-- the texts of the names held, in the order of their numbers
abbrev pub held : Names → List (List ℕ)
held s = map text (vec_items s.list)

-- the number of a name is the place of its text; there is none where the text is not held
abbrev pub Finds : Names → Identifier → Option ℕ → Type 0
Finds s n (Some i) = Stands (held s) i (text n)
Finds s n None = Absent (held s) (text n)

-- the name was held already, and nothing changes
pub record Known (s : Names) (n : Identifier) (i : ℕ) (t : Names) : Type 0 where
  pub number : Stands (held s) i (text n)
  pub same : t ≡ s

-- the name is new, and comes after all names held
pub record Added (s : Names) (n : Identifier) (i : ℕ) (t : Names) : Type 0 where
  pub new : Absent (held s) (text n)
  pub room : length (held s) < 256
  pub number : i ≡ length (held s)
  pub list : held t ≡ held s ++ text n ∷ []

-- the name is new where 256 are held, and nothing changes
pub record Denied (s : Names) (n : Identifier) (t : Names) : Type 0 where
  pub new : Absent (held s) (text n)
  pub full : length (held s) ≡ 256
  pub same : t ≡ s

-- what holding a name answers and leaves
abbrev pub Holds : Names → Identifier → Option ℕ → Names → Type 0
Holds s n (Some i) t = Known s n i t ⊎ Added s n i t
Holds s n None t = Denied s n t

-- the name that has a number
abbrev pub Reads : Names → ℕ → Option Identifier → Type 0
Reads s i (Some n) = Stands (held s) i (text n)
Reads s i None = length (held s) ≤ i

-- no text is held twice, and at most 256 are held
pub record Once (s : Names) : Type 0 where
  pub one : (i j : ℕ) (name : List ℕ) → Stands (held s) i name → Stands (held s) j name → i ≡ j
  pub few : length (held s) ≤ 256

-- names have one number each
abbrev pub OneNumber : Type 0
OneNumber = (s : Names) → Once s
