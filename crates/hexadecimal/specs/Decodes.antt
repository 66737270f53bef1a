-- What decoding does with the bytes that are there.
use Rattle.std.specs.Prelude.{◌≡◌, ℕ, ◌+◌, ◌<◌, List, ◌∷◌, Ok, Err, Result}
use Rattle.std.specs.Option.{option_to_list}
use Rattle.hexadecimal.specs.declared.state.State.{State}
use Rattle.hexadecimal.specs.declared.state.State.TheVariants.{Between, Comment, Half}
use Rattle.hexadecimal.specs.declared.state.Step.{Step}
use Rattle.hexadecimal.specs.declared.error.HexError.{HexError}
use Rattle.hexadecimal.specs.declared.error.HexError.TheVariants.{NotHex, HalfByte, NoMemory}
use Rattle.hexadecimal.specs.Texts.{reads, after, decoded}

-- the error is the one that the text has, unless memory was wanting
abbrev pub Tells : Result (List ℕ) HexError → HexError → Type 0
Tells meaning NoMemory = Unit {0}
Tells meaning (NotHex place) = meaning ≡ Err (NotHex place)
Tells meaning (HalfByte place) = meaning ≡ Err (HalfByte place)

-- the bytes of a text stand behind the old ones; or the old ones stay, and the error is told
abbrev pub Decodes : {X : Type 0} → List ℕ → List ℕ → Result X HexError → List ℕ → Type 0
Decodes text old (Ok x) new = after old (decoded text) ≡ Ok new
Decodes text old (Err e) new = (new ≡ old) × Tells (decoded text) e

-- where memory was wanting, this holds
abbrev pub Wanting : {X : Type 0} → Result X HexError → Type 0 → Type 0
Wanting (Ok x) P = Unit {0}
Wanting (Err NoMemory) P = P
Wanting (Err (NotHex place)) P = Unit {0}
Wanting (Err (HalfByte place)) P = Unit {0}

-- the first digit of a pair is a digit
abbrev pub Small : State → Type 0
Small Between = Unit {0}
Small Comment = Unit {0}
Small (Half high first) = high < 16

-- one byte of the text is taken in: the byte decoded, if one is, comes first, and then what the rest means in the next state
abbrev pub Stepped : State → ℕ → ℕ → Result Step HexError → Type 0
Stepped state place byte (Ok s) =
    Small s.next × ((rest : List ℕ) → reads state place (byte ∷ rest) ≡ after (option_to_list s.byte) (reads s.next (place + 1) rest))
Stepped state place byte (Err e) = Wanting {X = Step} (Err e) ⊥ × ((rest : List ℕ) → reads state place (byte ∷ rest) ≡ Err e)

-- the bytes of a text stand behind the old ones, or the error is told
abbrev pub ReadIn : {X : Type 0} → List ℕ → List ℕ → Result X HexError → List ℕ → Type 0
ReadIn text old (Ok x) new = after old (decoded text) ≡ Ok new
ReadIn text old (Err e) new = Tells (decoded text) e
