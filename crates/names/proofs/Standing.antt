-- What stands where in a list, when a function is applied to all of it and when one more comes after it.
use Rattle.std.proofs.Common.{◌≡◌, ℕ, zero, suc, ◌<◌, ◌≤◌, ◌⊎◌, List, [], ◌∷◌, ◌++◌, map, length, get_or, sym, refl, ap, ◌∙◌, inl, inr, ⊎_elim, arith}
use Rattle.std.proofs.lemmas.List.{length-map, get_or-map, length_push, get_or_push, get_or_append_left}
use Rattle.std.proofs.lemmas.Bool.{cases_lt}
use Rattle.names.specs.Places.{Stands, Absent}

module _ {X : Type 0} where
  pub one_value : (xs : List X) (i : ℕ) (x y : X) → Stands xs i x → Stands xs i y → x ≡ y
  one_value xs i x y p q = sym (p.is x) ∙ q.is x

  pub stands_more : (xs : List X) (y : X) (i : ℕ) (x : X) → Stands xs i x → Stands (xs ++ y ∷ []) i x
  stands_more xs y i x s = record {
    within = let long = length_push xs y in let lt = s.within in omega arith;
    is = λ d. get_or_append_left xs (y ∷ []) d i s.within ∙ s.is d;
  }

  pub stands_last : (xs : List X) (y : X) → Stands (xs ++ y ∷ []) (length xs) y
  stands_last xs y = record { within = let long = length_push xs y in omega arith; is = λ d. get_or_push xs y d (length xs) refl }

  -- what stands in the longer list stood there, or is what came
  pub stood_or_came : (xs : List X) (y : X) (i : ℕ) (x : X) → Stands (xs ++ y ∷ []) i x → Stands xs i x ⊎ ((i ≡ length xs) × (y ≡ x))
  stood_or_came xs y i x s =
      ⊎_elim
      (λ (lt : i < length xs). inl (record { within = lt; is = λ d. sym (get_or_append_left xs (y ∷ []) d i lt) ∙ s.is d }))
      (λ (ge : length xs ≤ i).
      let long = length_push xs y in
      let lt = s.within in
      let here : length xs ≡ i = omega arith in
      inr (sym here, sym (get_or_push xs y y i here) ∙ s.is y))
      (cases_lt i (length xs))

  nowhere : (y : X) (ys : List X) (x : X) → (y ≡ x → ⊥) → Absent ys x → Absent (y ∷ ys) x
  nowhere y ys x n out zero s = n (s.is x)
  nowhere y ys x n out (suc i) s = out i (record { within = let lt = s.within in omega arith; is = s.is })

  -- where equality can be decided, so can whether x stands in the list
  pub look : ((a b : X) → (a ≡ b) ⊎ (a ≡ b → ⊥)) → (xs : List X) (x : X) → ((i : ℕ) × Stands xs i x) ⊎ Absent xs x
  look decide [] x = inr (λ i s. let lt = s.within in omega arith)
  look decide (y ∷ ys) x =
      ⊎_elim
      (λ (e : y ≡ x). inl (0, record { within = omega arith; is = λ d. e }))
      (λ (n : y ≡ x → ⊥).
      ⊎_elim
      (λ (p : (i : ℕ) × Stands ys i x). inl (suc p.0, record { within = let lt = p.1.within in omega arith; is = p.1.is }))
      (λ (out : Absent ys x). inr (nowhere y ys x n out))
      (look decide ys x))
      (decide y x)

module _ {X Y : Type 0} (f : X → Y) where
  pub stands_map : (xs : List X) (i : ℕ) (x : X) → Stands xs i x → Stands (map f xs) i (f x)
  stands_map xs i x s = record {
    within = let long = length-map xs f in let lt = s.within in omega arith;
    is = λ e. get_or-map f xs i x e s.within ∙ ap f (s.is x);
  }

  pub stands_unmap : ((a b : X) → f a ≡ f b → a ≡ b) → (xs : List X) (i : ℕ) (x : X) → Stands (map f xs) i (f x) → Stands xs i x
  stands_unmap one xs i x s =
      let long = length-map xs f in
      let lt : i < length xs = let h = s.within in omega arith in
      record { within = lt; is = λ d. one (get_or xs i d) x (sym (get_or-map f xs i d (f x) lt) ∙ s.is (f x)) }

  -- what stands in the mapped list comes from what stands there in the list
  pub stands_from : (xs : List X) (i : ℕ) (y : Y) → Stands (map f xs) i y → (x : X) × Stands xs i x × (f x ≡ y)
  stands_from [] i y s = absurd (let lt = s.within in omega arith)
  stands_from (x ∷ xs) zero y s = (x, record { within = omega arith; is = λ d. refl }, s.is y)
  stands_from (x ∷ xs) (suc i) y s =
      let p = stands_from xs i y (record { within = let lt = s.within in omega arith; is = s.is }) in
      (p.0, record { within = let lt = p.1.within in omega arith; is = p.1.is }, p.2)
