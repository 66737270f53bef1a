-- What a text means.
use Rattle.std.specs.Prelude.{ℕ, ◌+◌, ◌*◌, cond, List, [], ◌∷◌, ◌++◌, Ok, Err, Result, ◌==◌, count_by}
use Rattle.hexadecimal.specs.declared.state.State.{State}
use Rattle.hexadecimal.specs.declared.state.State.TheVariants.{Between, Comment, Half}
use Rattle.hexadecimal.specs.declared.error.HexError.{HexError}
use Rattle.hexadecimal.specs.declared.error.HexError.TheVariants.{NotHex, HalfByte}
use Rattle.hexadecimal.specs.Classes.{class_of, by_class}

-- these bytes first, then what follows
abbrev pub after : List ℕ → Result (List ℕ) HexError → Result (List ℕ) HexError
after bs (Ok cs) = Ok (bs ++ cs)
after bs (Err e) = Err e

-- What the text from a place on means, to a reader in a state. Parting bytes are skipped, a comment goes to the end of its
-- line, and two digits side by side are a byte, the high one first.
unfoldable pub reads : State → ℕ → List ℕ → Result (List ℕ) HexError
reads Between place [] = Ok []
reads Comment place [] = Ok []
reads (Half high first) place [] = Err (HalfByte first)
reads Between place (c ∷ cs) =
    by_class
    (reads Between (place + 1) cs)
    (reads Comment (place + 1) cs)
    (λ high. reads (Half high place) (place + 1) cs)
    (Err (NotHex place))
    (class_of c)
reads Comment place (c ∷ cs) = cond (c == 10) (reads Between (place + 1) cs) (reads Comment (place + 1) cs)
reads (Half high first) place (c ∷ cs) =
    by_class
    (Err (HalfByte first))
    (Err (HalfByte first))
    (λ low. after ((high * 16 + low) ∷ []) (reads Between (place + 1) cs))
    (Err (HalfByte first))
    (class_of c)

-- the bytes that a text means, or where it goes wrong
abbrev pub decoded : List ℕ → Result (List ℕ) HexError
decoded text = reads Between 0 text

-- how many lines end in a text, each by a line feed
abbrev pub lines_in : List ℕ → ℕ
lines_in text = count_by (λ c. c == 10) text
