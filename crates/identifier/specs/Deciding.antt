-- That `==` tells whether two identifiers are one: an identifier is its text, and the rest of it are facts about that.
use Rattle.std.specs.Prelude.{◌≡◌, ℕ, ◌-◌, ◌≤◌, Bool, true, ◌&&◌, ◌==◌, List, ◌++◌, length, take, replicate, Decides, nat_eq}
use Rattle.std.proofs.Common.{subst, sym, ap, ◌∙◌}
use mathlib.Core.Bool.{Bool-set}
use mathlib.Core.List.{is_set}
use native.Mathlib.Nat.{ℕ_set}
use native.Mathlib.Bridge.{le_prop}
use Rattle.std.specs.Cmp.Lexicographic.{pointwise, bytes_decides}
use Rattle.std.specs.Ordering.{on}
use Rattle.std.proofs.lemmas.Bool.Decides.{Decides-and, Decides-eqb, Decides-like, same_from_decides}
use Rattle.std.proofs.lemmas.List.{length-take-le}
use Rattle.identifier.specs.Names.{valid_name}
use Rattle.identifier.specs.Identifiers.{EqDecides, text}
use Rattle.identifier.specs.declared.identifier.Identifier.{Identifier}

-- an identifier is its length and its bytes: the rest of it are facts about them
same_parts : (a b : Identifier) → a.len ≡ b.len → a.bytes ≡ b.bytes → a ≡ b
same_parts a b p q =
    let P : ℕ → List ℕ → Type 0 = λ n bs. (l : length bs ≡ 32) (w : n ≤ 32) (v : valid_name (take n bs) ≡ true) (d : bs ≡ take n bs ++ replicate (32 - n) 0) → ◌≡◌ {A = Identifier} (record { len = n; bytes = bs; long = l; within = w; valid = v; padded = d }) b in
    let base : P b.len b.bytes = λ l w v d.
    ap (λ (o : length b.bytes ≡ 32). record { len = b.len; bytes = b.bytes; long = o; within = w; valid = v; padded = d }) (ℕ_set _ _ l b.long)
    ∙ ap (λ (o : b.len ≤ 32). record { len = b.len; bytes = b.bytes; long = b.long; within = o; valid = v; padded = d }) (le_prop w b.within)
    ∙ ap (λ (o : valid_name (take b.len b.bytes) ≡ true). record { len = b.len; bytes = b.bytes; long = b.long; within = b.within; valid = o; padded = d }) (Bool-set _ _ v b.valid)
    ∙ ap (λ (o : b.bytes ≡ take b.len b.bytes ++ replicate (32 - b.len) 0). record { len = b.len; bytes = b.bytes; long = b.long; within = b.within; valid = b.valid; padded = o }) (is_set ℕ_set _ _ d b.padded) in
    subst (λ (n : ℕ). P n a.bytes) (sym p) (subst (P b.len) (sym q) base) a.long a.within a.valid a.padded

pub text_length : (a : Identifier) → length (text a) ≡ a.len
text_length a = length-take-le a.len a.bytes (subst (λ (n : ℕ). a.len ≤ n) (sym a.long) a.within)

-- identifiers with one text are one identifier
pub same_text : (a b : Identifier) → text a ≡ text b → a ≡ b
same_text a b e =
    let lens : a.len ≡ b.len = sym (text_length a) ∙ ap length e ∙ text_length b in
    same_parts a b lens
    (a.padded
    ∙ ap (λ (xs : List ℕ). xs ++ replicate (32 - a.len) 0) e
    ∙ ap (λ (n : ℕ). text b ++ replicate (32 - n) 0) lens
    ∙ sym b.padded)

-- `==`, as it is derived
abbrev pub equal : Identifier → Identifier → Bool
equal a b = (a.len == b.len) && pointwise nat_eq a.bytes b.bytes

-- `==` tells whether two identifiers are one, which is what a map asks of its keys
pub told : (a b : Identifier) → Decides (equal a b) (a ≡ b)
told a b =
    Decides-like (equal a b)
    (λ e. same_parts a b e.0 e.1)
    (λ e. (ap (λ (n : Identifier). n.len) e, ap (λ (n : Identifier). n.bytes) e))
    (Decides-and (a.len == b.len) (pointwise nat_eq a.bytes b.bytes) (Decides-eqb a.len b.len) (bytes_decides a.bytes b.bytes))

-- so does comparing their texts
pub compared : EqDecides
compared a b = Decides-like (on text (pointwise nat_eq) a b) (same_text a b) (ap text) (bytes_decides (text a) (text b))

-- so both answer alike
pub as_texts : (a b : Identifier) → equal a b ≡ on text (pointwise nat_eq) a b
as_texts a b = same_from_decides (equal a b) (on text (pointwise nat_eq) a b) (told a b) (compared a b)
