-- How far a text is read, and what one more byte of it does.
use Rattle.std.proofs.Common.{◌≡◌, ℕ, ◌+◌, ◌⊎◌, inl, inr, ◌≤◌, List, [], length, take, drop, Ok, Err, Result, refl, ap, ◌∙◌, arith}
use Rattle.std.proofs.lemmas.List.{append-nil, drop_all}
use Rattle.hexadecimal.specs.declared.state.State.{State}
use Rattle.hexadecimal.specs.declared.state.State.TheVariants.{Between, Comment, Half}
use Rattle.hexadecimal.specs.declared.error.HexError.{HexError}
use Rattle.hexadecimal.specs.declared.error.HexError.TheVariants.{HalfByte}
use Rattle.hexadecimal.specs.Texts.{reads, after, decoded}
use Rattle.hexadecimal.specs.Decodes.{Small}

-- the text is read up to a place: the bytes that are there, and then what the rest means, are what the text means
pub record Sofar (text old : List ℕ) (len cap : ℕ) (state : State) (place : ℕ) (new : List ℕ) (len' cap' : ℕ) : Type 0 where
  pub small : Small state
  pub means : after old (decoded text) ≡ after new (reads state place (drop place text))
  pub front : take len new ≡ old
  pub low : len ≤ len'
  pub high : len' ≤ len + place
  pub capacity : cap ≤ cap'

-- nothing before leaves all as it is
pub after_none : (r : Result (List ℕ) HexError) → after [] r ≡ r
after_none (Ok cs) = refl
after_none (Err e) = refl

-- an error stays behind any bytes
pub after_err : (xs : List ℕ) (r : Result (List ℕ) HexError) (e : HexError) → after xs r ≡ Err e → r ≡ Err e
after_err xs (Ok cs) e h = absurd (let z : ◌≡◌ {A = ℕ} 0 1 = cc in omega arith)
after_err xs (Err f) e h = h

-- all of the text is read
pub sofar_all : (text old new : List ℕ) (len cap len' cap' : ℕ) (state : State) (place : ℕ) → length text ≤ place
    → Sofar text old len cap state place new len' cap' → after old (decoded text) ≡ after new (reads state place [])
sofar_all text old new len cap len' cap' state place le p = p.means ∙ ap (λ z. after new (reads state place z)) (drop_all place text le)

-- the reader may end between pairs and in a comment, and not in the middle of a pair
pub ends_whole : (new : List ℕ) (place : ℕ) (state : State) → (state ≡ Between) ⊎ (state ≡ Comment) → after new (reads state place []) ≡ Ok new
unfolding reads
ends_whole new place Between h = ap Ok (append-nil new)
ends_whole new place Comment h = ap Ok (append-nil new)
ends_whole new place (Half high first) (inl h) = cc
ends_whole new place (Half high first) (inr h) = cc

pub ends_half : (new : List ℕ) (place high first : ℕ) (state : State) → state ≡ Half high first → after new (reads state place []) ≡ Err (HalfByte first)
unfolding reads
ends_half new place high first state is = ap (λ s. after new (reads s place [])) is
