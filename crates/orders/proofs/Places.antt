-- Distinct numbers below a bound are no more than the bound; so distinct live nodes are no more than the places.
use Rattle.std.proofs.Common.{◌≡◌, refl, sym, ap, subst, ◌∙◌, List, [], ◌∷◌, map, ◌⊎◌, inl, inr, Bool, true, false, cond, ℕ, zero, suc, ◌<◌, ◌≤◌, arith, length, eqb, eqb-true}
use borrow.Author.Tests.{eqb-false}
use Rattle.linked_list.specs.Links.{In, Apart}
use Rattle.orders.proofs.Lists.{All}

-- xs less each m
abbrev without : ℕ → List ℕ → List ℕ
without m [] = []
without m (x ∷ xs) = cond (eqb x m) (without m xs) (x ∷ without m xs)

module _ (m : ℕ) where
  step_in : (y x : ℕ) (ys : List ℕ) (b : Bool) → In y (cond b ys (x ∷ ys)) → (y ≡ x) ⊎ In y ys
  step_in y x ys true i = inr i
  step_in y x ys false i = i

  without_in : (y : ℕ) (xs : List ℕ) → In y (without m xs) → In y xs
  without_in y [] i = i
  without_in y (x ∷ xs) i = elim (step_in y x (without m xs) (eqb x m) i) [ inl e ↦ inl e | inr j ↦ inr (without_in y xs j) ]

  step_apart : (x : ℕ) (ys : List ℕ) (b : Bool) → (In x ys → ⊥) → Apart ys → Apart (cond b ys (x ∷ ys))
  step_apart x ys true h a = a
  step_apart x ys false h a = (h, a)

  without_apart : (xs : List ℕ) → Apart xs → Apart (without m xs)
  without_apart [] a = tt
  without_apart (x ∷ xs) a = step_apart x (without m xs) (eqb x m) (λ i. a.0 (without_in x xs i)) (without_apart xs a.1)

  step_less : (x : ℕ) (ys : List ℕ) (b : Bool) → eqb x m ≡ b → x < suc m → All (λ y. y < m) ys → All (λ y. y < m) (cond b ys (x ∷ ys))
  step_less x ys true e h a = a
  step_less x ys false e h a = (let n = eqb-false x m e in let k : x < m = omega (arith, n) in k, a)

  without_less : (xs : List ℕ) → All (λ y. y < suc m) xs → All (λ y. y < m) (without m xs)
  without_less [] a = tt
  without_less (x ∷ xs) a = step_less x (without m xs) (eqb x m) refl a.0 (without_less xs a.1)

  step_same : (x : ℕ) (xs : List ℕ) (b : Bool) → eqb x m ≡ b → (x ≡ m → ⊥) → cond b (without m xs) (x ∷ without m xs) ≡ x ∷ without m xs
  step_same x xs true e h = absurd (h (eqb-true x m e))
  step_same x xs false e h = refl

  -- where m is not there, nothing goes
  without_none : (xs : List ℕ) → (In m xs → ⊥) → without m xs ≡ xs
  without_none [] h = refl
  without_none (x ∷ xs) h = step_same x xs (eqb x m) refl (λ e. h (inl (sym e))) ∙ ap (λ l. x ∷ l) (without_none xs (λ i. h (inr i)))

  step_long : (x : ℕ) (xs : List ℕ) (b : Bool) → eqb x m ≡ b → (In x xs → ⊥) → length xs ≤ suc (length (without m xs)) → suc (length xs) ≤ suc (length (cond b (without m xs) (x ∷ without m xs)))
  step_long x xs true e h l = let q = ap length (without_none xs (λ i. h (subst (λ y. In y xs) (sym (eqb-true x m e)) i))) in omega (arith, q)
  step_long x xs false e h l = omega (arith, l)

  without_long : (xs : List ℕ) → Apart xs → length xs ≤ suc (length (without m xs))
  without_long [] a = omega arith
  without_long (x ∷ xs) a = step_long x xs (eqb x m) refl a.0 (without_long xs a.1)

pub few : (m : ℕ) (xs : List ℕ) → Apart xs → All (λ y. y < m) xs → length xs ≤ m
few zero [] a l = omega arith
few zero (x ∷ xs) a l = omega (arith, l.0)
few (suc m) xs a l = let h = few m (without m xs) (without_apart m xs a) (without_less m xs l) in let k = without_long m xs a in omega (arith, h, k)

module _ {N : Type 0} (live : N → Bool) (place : N → ℕ) (limit : ℕ)
    (placed : (n : N) → live n ≡ true → place n < limit)
    (sole : (n m : N) → live n ≡ true → live m ≡ true → place n ≡ place m → n ≡ m) where
  in_map : (x : N) (xs : List N) → live x ≡ true → All (λ y. live y ≡ true) xs → In (place x) (map place xs) → In x xs
  in_map x [] h l i = i
  in_map x (y ∷ ys) h l (inl e) = inl (sole x y h l.0 e)
  in_map x (y ∷ ys) h l (inr i) = inr (in_map x ys h l.1 i)

  apart_map : (xs : List N) → All (λ y. live y ≡ true) xs → Apart xs → Apart (map place xs)
  apart_map [] l a = tt
  apart_map (x ∷ xs) l a = (λ i. a.0 (in_map x xs l.0 l.1 i), apart_map xs l.1 a.1)

  less_map : (xs : List N) → All (λ y. live y ≡ true) xs → All (λ y. y < limit) (map place xs)
  less_map [] l = tt
  less_map (x ∷ xs) l = (placed x l.0, less_map xs l.1)

  length_same : (xs : List N) → length (map place xs) ≡ length xs
  length_same [] = refl
  length_same (x ∷ xs) = ap suc (length_same xs)

  -- a list of distinct live nodes is no longer than the number of places
  pub pigeonhole : (xs : List N) → All (λ y. live y ≡ true) xs → Apart xs → length xs ≤ limit
  pigeonhole xs l a = let h = few limit (map place xs) (apart_map xs l a) (less_map xs l) in let k = length_same xs in omega (arith, h, k)
