-- One step of the hash, and what `==` says of two identifiers at each of its answers.
use Rattle.std.proofs.Common.{◌≡◌, Bool, MatchBool, ℕ, ◌+◌, ◌<◌, ◌≤◌, List, length, get_or, take, fold, sym, ap, ◌∙◌, subst}
use Rattle.std.proofs.lemmas.Bool.{cases_from_iff}
use Rattle.std.proofs.lemmas.Bool.Decides.{Decides-at}
use Rattle.std.proofs.lemmas.List.{take_all}
use Rattle.std.proofs.lemmas.List.Sums.{fold_more}
use Rattle.identifier.specs.declared.identifier.Identifier.{Identifier}
use Rattle.identifier.specs.Deciding.{equal, told}
use Rattle.identifier.specs.Identifiers.{fnv_step}

pub mixed : (xs ys : List ℕ) (i s h b : ℕ) → xs ≡ ys → i < length xs → b ≡ get_or xs i 0 → h ≡ fold fnv_step s (take i ys) → fnv_step h b ≡ fold fnv_step s (take (i + 1) ys)
mixed xs ys i s h b same lt byte so_far =
    let inner : i < length ys = subst (λ (zs : List ℕ). i < length zs) same lt in
    let here : b ≡ get_or ys i 0 = byte ∙ ap (λ (zs : List ℕ). get_or zs i 0) same in
    ap (λ (m : ℕ). fnv_step m b) so_far ∙ ap (fnv_step (fold fnv_step s (take i ys))) here ∙ sym (fold_more fnv_step s ys i 0 inner)

pub mixed_all : (xs ys : List ℕ) (i s h : ℕ) → xs ≡ ys → length xs ≤ i → h ≡ fold fnv_step s (take i ys) → h ≡ fold fnv_step s ys
mixed_all xs ys i s h same past so_far =
    so_far ∙ ap (fold fnv_step s) (take_all i ys (subst (λ (zs : List ℕ). length zs ≤ i) same past))

-- what `==` says at each of its answers
pub told_apart : (a b : Identifier) (r : Bool) → r ≡ equal a b → MatchBool r (a ≡ b) (a ≡ b → ⊥)
told_apart a b r e = cases_from_iff (Decides-at r (equal a b) e (told a b))
