-- What it means that a script prints the lines that are wanted.
use Rattle.std.specs.Prelude.{◌≡◌, ◌⊎◌, ℕ, ◌≢◌, List, [], ◌∷◌, ◌++◌}
use Rattle.script.specs.Transcripts.{Transcript}

-- a line was given where it is wanted, and the rest is wanted after it; the last line may want the byte that ends it
abbrev pub Passed : List ℕ → List ℕ → List ℕ → Type 0
Passed wanted given rest = (wanted ≢ []) × ((wanted ≡ given ++ rest) ⊎ ((rest ≡ []) × (given ≡ wanted ++ 10 ∷ [])))

-- the lines of the whole script are those that are wanted; the last of these may want the byte that ends it
abbrev pub Passes : List ℕ → List ℕ → Type 0
Passes script wanted = (bytes : List ℕ) × Transcript script bytes × ((bytes ≡ wanted) ⊎ (bytes ≡ wanted ++ 10 ∷ []))
