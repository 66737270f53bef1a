-- The order has one answer, joins, and can be turned about.
use Rattle.std.proofs.Common.{◌≡◌, refl, sym, ap, subst, ◌∙◌, List, [], ◌∷◌, ◌++◌, append_assoc, append-nil, reverse, Bool, true, false, not, true≢false}
use mathlib.Core.List.{reverse-cons, reverse-append}
use Rattle.orders.specs.Order.{Orders, none, first, last}

both : {b : Bool} → b ≡ true → b ≡ false → ⊥
both p q = true≢false (sym p ∙ q)

module _ {N : Type 0} {early : N → Bool} {children : N → List N} where
  -- the nodes determine what is shown
  pub one : {ns xs ys : List N} → Orders early children ns xs → Orders early children ns ys → xs ≡ ys
  one none none = refl
  one (first {n} {ys = a} p k t) (first {xs = b} q l u) = ap (λ z. n ∷ (z ++ a)) (one k l) ∙ ap (λ z. n ∷ (b ++ z)) (one t u)
  one (first p k t) (last q l u) = absurd (both p q)
  one (last p k t) (first q l u) = absurd (both q p)
  one (last {n} {ys = a} p k t) (last {xs = b} q l u) = ap (λ z. z ++ (n ∷ a)) (one k l) ∙ ap (λ z. b ++ (n ∷ z)) (one t u)

  -- more nodes after the first
  pub join : {ns xs : List N} (ms ys : List N) → Orders early children ns xs → Orders early children ms ys → Orders early children (ns ++ ms) (xs ++ ys)
  join ms ys none u = u
  join ms ys (first {n} {ns} {xs} {ys = zs} p k t) u =
      subst (λ z. Orders early children (n ∷ (ns ++ ms)) (n ∷ z)) (sym (append_assoc xs zs ys)) (first p k (join ms ys t u))
  join ms ys (last {n} {ns} {xs} {ys = zs} p k t) u =
      subst (λ z. Orders early children (n ∷ (ns ++ ms)) z) (sym (append_assoc xs (n ∷ zs) ys)) (last p k (join ms ys t u))

module _ {N : Type 0} (early late : N → Bool) (children back : N → List N)
    (other : (n : N) → late n ≡ not (early n)) (turns : (n : N) → back n ≡ reverse (children n)) where
  -- with every order and every list of children the other way, the reverse is shown
  pub turn : {ns xs : List N} → Orders early children ns xs → Orders late back (reverse ns) (reverse xs)
  turn none = none
  turn (first {n} {ns} {xs} {ys} p k t) =
      let k' = subst (λ z. Orders late back z (reverse xs)) (sym (turns n)) (turn k) in
      let m = join (n ∷ []) (reverse xs ++ (n ∷ [])) (turn t) (last (other n ∙ ap not p) k' none) in
      let e : reverse ys ++ (reverse xs ++ (n ∷ [])) ≡ reverse (n ∷ (xs ++ ys)) =
      sym (append_assoc (reverse ys) (reverse xs) (n ∷ [])) ∙ ap (λ l. l ++ (n ∷ [])) (sym (reverse-append xs ys)) ∙ sym (reverse-cons n (xs ++ ys)) in
      subst (λ l. Orders late back l (reverse (n ∷ (xs ++ ys)))) (sym (reverse-cons n ns)) (subst (Orders late back (reverse ns ++ (n ∷ []))) e m)
  turn (last {n} {ns} {xs} {ys} p k t) =
      let k' = subst (λ z. Orders late back z (reverse xs)) (sym (turns n)) (turn k) in
      let m = join (n ∷ []) (n ∷ (reverse xs ++ [])) (turn t) (first (other n ∙ ap not p) k' none) in
      let e : reverse ys ++ (n ∷ (reverse xs ++ [])) ≡ reverse (xs ++ (n ∷ ys)) =
      ap (λ l. reverse ys ++ (n ∷ l)) (append-nil (reverse xs)) ∙ sym (append_assoc (reverse ys) (n ∷ []) (reverse xs)) ∙ ap (λ l. l ++ reverse xs) (sym (reverse-cons n ys)) ∙ sym (reverse-append xs (n ∷ ys)) in
      subst (λ l. Orders late back l (reverse (xs ++ (n ∷ ys)))) (sym (reverse-cons n ns)) (subst (Orders late back (reverse ns ++ (n ∷ []))) e m)

  pub mirrored : {ns xs ys : List N} → Orders early children ns xs → Orders late back (reverse ns) ys → ys ≡ reverse xs
  mirrored t u = one u (turn t)
