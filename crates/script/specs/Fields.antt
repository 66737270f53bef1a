-- The field that stands at a place of a script.
use Rattle.std.specs.Prelude.{◌≡◌, ℕ, ◌+◌, ◌*◌, ◌<◌, List, length, take, drop, slice_index}
use Rattle.result.specs.declared.refusal.Refusal.{Refusal}
use Rattle.result.specs.declared.refusal.Refusal.TheVariants.{ScriptCut}

-- the field's first byte
abbrev pub tag_at : List ℕ → ℕ → ℕ
tag_at script place = slice_index script place

-- the number whose two bytes start at a place, high byte first
abbrev pub number_at : List ℕ → ℕ → ℕ
number_at bytes place = slice_index bytes place * 256 + slice_index bytes (place + 1)

-- the length that the field's second and third byte give
abbrev pub size_at : List ℕ → ℕ → ℕ
size_at script place = number_at script (place + 1)

-- so many bytes after the first three
abbrev pub value_at : List ℕ → ℕ → List ℕ
value_at script place = take (size_at script place) (drop (place + 3) script)

-- the place after the field
abbrev pub next_at : List ℕ → ℕ → ℕ
next_at script place = place + 3 + size_at script place

-- the field runs past the script's end, by its first three bytes or by its value
abbrev pub Cut : List ℕ → ℕ → Type 0
Cut script place = length script < next_at script place

-- a whole field stands there: its tag, its value and the place after it
pub record Stands (script : List ℕ) (place tag : ℕ) (value : List ℕ) (next : ℕ) : Type 0 where
  pub whole : Cut script place → ⊥
  pub tagged : tag ≡ tag_at script place
  pub valued : value ≡ value_at script place
  pub follows : next ≡ next_at script place

-- the field is cut off, and that is the refusal
pub record FieldCutOff (script : List ℕ) (place : ℕ) (e : Refusal) : Type 0 where
  pub cut : Cut script place
  pub refusal : e ≡ ScriptCut
