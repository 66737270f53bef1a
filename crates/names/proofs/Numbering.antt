-- The map goes on following the list: at first, and when a new name comes.
use Rattle.std.proofs.Common.{◌≡◌, ℕ, zero, suc, ◌+◌, true, false, ◌⊎◌, List, [], ◌∷◌, ◌++◌, length, replicate, Some, None, Option, unwrap_or, sym, refl, ap, ◌∙◌, subst, inl, inr, ⊎_elim, arith}
use Rattle.std.specs.Str.{bytes_eq}
use Rattle.std.proofs.lemmas.Slice.Eq.{bytes_eq-Decides}
use Rattle.std.proofs.lemmas.Bool.Decides.{not_from_Decides}
use Rattle.std.proofs.lemmas.List.{length_push}
use Rattle.std.proofs.lemmas.Bool.{cases_Bool}
use Rattle.table.specs.Maps.{MapEntry, entry_at, used, fresh, Maps, Probed, Put, Updated}
use Rattle.table.proofs.Entries.{not_free}
use Rattle.table.proofs.Laws.{unused_probed, unused_used}
use Rattle.identifier.specs.declared.identifier.Identifier.{Identifier}
use Rattle.identifier.specs.Identifiers.{text, identifier_hash}
use Rattle.identifier.specs.Deciding.{same_text}
use Rattle.names.specs.Places.{Stands, Absent}
use Rattle.names.specs.Numbering.{Numbered}
use Rattle.names.proofs.Standing.{stands_more, stands_last, stood_or_came, look}

abbrev Entries : Type 0
Entries = List (MapEntry Identifier ℕ)

pub decide : (a b : Identifier) → (a ≡ b) ⊎ (a ≡ b → ⊥)
decide a b =
    let d = bytes_eq-Decides (text a) (text b) in
    ⊎_elim
    (λ (t : bytes_eq (text a) (text b) ≡ true). inl (same_text a b (d.0 t)))
    (λ (t : bytes_eq (text a) (text b) ≡ false). inr (λ e. not_from_Decides (bytes_eq (text a) (text b)) d t (ap text e)))
    (cases_Bool (bytes_eq (text a) (text b)))

same_value : (n : Identifier) (i j : ℕ) (e f : MapEntry Identifier ℕ) → e ≡ f → e ≡ Some (n, i) → f ≡ Some (n, j) → i ≡ j
same_value n i j e f p q r = ap (λ (x : MapEntry Identifier ℕ). (unwrap_or x (n, i)).1) (sym q ∙ p ∙ r)

-- a key has one value
pub one_number : (es : Entries) (n : Identifier) (i j : ℕ) → Probed identifier_hash es → Maps es n (Some i) → Maps es n (Some j) → i ≡ j
one_number es n i j p a b = same_value n i j _ _ (ap (entry_at es) (p.apart a.0 b.0 n i j a.1 b.1)) a.1 b.1

-- what the map has for an identifier, by whether it stands in the list
module _ (list : List Identifier) (es : Entries) (h : Numbered list es) where
  pub unmapped : (n : Identifier) → Absent list n → Maps es n None
  unmapped n out = λ k v e. out v (h.tells n v (k, e))

  pub absent : (n : Identifier) → Maps es n None → Absent list n
  absent n none i s = let m = h.told n i s in none m.0 i m.1

  pub one_place : (n : Identifier) (i j : ℕ) → Stands list i n → Stands list j n → i ≡ j
  one_place n i j s t = one_number es n i j h.probed (h.told n i s) (h.told n j t)

old_is : (es : Entries) (n : Identifier) (old : Option ℕ) → Maps es n None → Maps es n old → old ≡ None
old_is es n None none m = refl
old_is es n (Some v) none m = absurd (none m.0 v m.1)

-- a new name comes after the others, and is mapped to its place
module _ (list : List Identifier) (es fs : Entries) (n : Identifier) (h : Numbered list es) (new : Maps es n None) (u : Updated identifier_hash es n None (Some (length list)) fs) where
  tells_other : (m : Identifier) (i : ℕ) → (m ≡ n → ⊥) → Maps fs m (Some i) → Stands list i m
  tells_other m i other maps =
      ⊎_elim
      (λ (p : (j : ℕ) × Stands list j m).
      let same : p.0 ≡ i = one_number fs m p.0 i u.probed (u.others.others m (Some p.0) other (h.told m p.0 p.1)) maps in
      subst (λ (k : ℕ). Stands list k m) same p.1)
      (λ (out : Absent list m). absurd (u.others.others m None other (unmapped list es h m out) maps.0 i maps.1))
      (look decide list m)

  tells_more : (m : Identifier) (i : ℕ) → Maps fs m (Some i) → Stands (list ++ n ∷ []) i m
  tells_more m i maps =
      ⊎_elim
      (λ (e : m ≡ n).
      let mine : Maps fs n (Some i) = subst (λ (q : Identifier). Maps fs q (Some i)) e maps in
      let last : length list ≡ i = one_number fs n (length list) i u.probed u.is mine in
      subst (λ (k : ℕ). Stands (list ++ n ∷ []) k m) last (subst (Stands (list ++ n ∷ []) (length list)) (sym e) (stands_last list n)))
      (λ (other : m ≡ n → ⊥). stands_more list n i m (tells_other m i other maps))
      (decide m n)

  told_more : (m : Identifier) (i : ℕ) → Stands (list ++ n ∷ []) i m → Maps fs m (Some i)
  told_more m i s =
      ⊎_elim
      (λ (stood : Stands list i m).
      let other : m ≡ n → ⊥ = λ e. absent list es h n new i (subst (Stands list i) e stood) in
      u.others.others m (Some i) other (h.told m i stood))
      (λ (came : (i ≡ length list) × (n ≡ m)).
      subst (λ (k : ℕ). Maps fs m (Some k)) (sym came.0) (subst (λ (q : Identifier). Maps fs q (Some (length list))) came.1 u.is))
      (stood_or_came list n i m s)

  pub numbered_more : used fs ≡ used es + 1 → Numbered (list ++ n ∷ []) fs
  numbered_more count = record {
    probed = u.probed;
    counted = let before = h.counted in let long = length_push list n in omega arith;
    tells = tells_more;
    told = told_more;
  }

pub grown : (list : List Identifier) (es fs : Entries) (n : Identifier) (old : Option ℕ) → Numbered list es → Maps es n None → Put identifier_hash es n (length list) old fs → Numbered (list ++ n ∷ []) fs
grown list es fs n old h new put =
    let u = put.map h.probed in
    let none : old ≡ None = old_is es n old new u.was in
    numbered_more list es fs n h new
    (subst (λ (o : Option ℕ). Updated identifier_hash es n o (Some (length list)) fs) none u)
    (subst (λ (o : Option ℕ). used fs ≡ used es + fresh o) none put.counts)

-- an unused entry is free
free : (k i : ℕ) → entry_at {K = Identifier} {V = ℕ} (replicate k None) i ≡ None
free zero i = refl
free (suc k) zero = refl
free (suc k) (suc i) = free k i

pub none_numbered : (k : ℕ) → Numbered [] (replicate k None)
none_numbered k = record {
  probed = unused_probed identifier_hash k;
  counted = unused_used Identifier ℕ k;
  tells = λ n i m. absurd (not_free n i (entry_at (replicate k None) m.0) (free k m.0) m.1);
  told = λ n i s. absurd (let lt = s.within in omega arith);
}
