-- The order in which nodes end: each node of it is a root or a child of another, and orders are joined. Assumes nothing.
use Rattle.std.proofs.Common.{◌≡◌, true, List, ◌∷◌, ◌++◌, ◌⊎◌, Some, Option, sym, refl, subst, inl, inr, ⊎_elim, append_assoc}
use Rattle.linked_list.specs.Links.{In}
use Rattle.linked_list.proofs.Lists.{in_left, in_parts, in_right}
use Rattle.orders.specs.Order.{Orders, none, first, last}
use Rattle.orders.specs.Places.{never}
use Rattle.orders.proofs.Climbs.{within_join, within_parent}
use Rattle.trees.specs.Climbs.{Within, self}

module _ {N : Type 0} where
  no_early : (n : N) → never n ≡ true → ⊥
  no_early n e = cc

  -- a node of the order is one of the roots, or a child of a node of the order
  pub parent_ends : (K : N → List N) {ns xs : List N} → Orders never K ns xs → (x : N) → In x xs → In x ns ⊎ ((c : N) × In c xs × In x (K c))
  parent_ends K none x i = elim i [ ]
  parent_ends K (first {n} e a b) x i = absurd (no_early n e)
  parent_ends K (last {n} {ns} {xs} {ys} e a b) x i =
      ⊎_elim
      (λ j. ⊎_elim
      (λ k. inr (n, in_right n xs (n ∷ ys) (inl refl), k))
      (λ w. inr (w.0, in_left w.0 xs (n ∷ ys) w.1, w.2))
      (parent_ends K a x j))
      (⊎_elim
      (λ q. inl (inl q))
      (λ j. ⊎_elim
      (λ k. inl (inr k))
      (λ w. inr (w.0, in_right w.0 xs (n ∷ ys) (inr w.1), w.2))
      (parent_ends K b x j)))
      (in_parts x xs (n ∷ ys) i)

  -- all roots end
  pub roots_end : (K : N → List N) {ns xs : List N} → Orders never K ns xs → (x : N) → In x ns → In x xs
  roots_end K none x i = elim i [ ]
  roots_end K (first {n} e a b) x i = absurd (no_early n e)
  roots_end K (last {n} {ns} {xs} {ys} e a b) x (inl q) = in_right x xs (n ∷ ys) (inl q)
  roots_end K (last {n} {ns} {xs} {ys} e a b) x (inr i) = in_right x xs (n ∷ ys) (inr (roots_end K b x i))

  -- all children of what ends end
  pub children_end : (K : N → List N) {ns xs : List N} → Orders never K ns xs → (c x : N) → In c xs → In x (K c) → In x xs
  children_end K none c x i j = elim i [ ]
  children_end K (first {n} e a b) c x i j = absurd (no_early n e)
  children_end K (last {n} {ns} {xs} {ys} e a b) c x i j =
      ⊎_elim
      (λ k. in_left x xs (n ∷ ys) (children_end K a c x k j))
      (⊎_elim
      (λ q. in_left x xs (n ∷ ys) (roots_end K a x (subst (λ (z : N). In x (K z)) q j)))
      (λ k. in_right x xs (n ∷ ys) (inr (children_end K b c x k j))))
      (in_parts c xs (n ∷ ys) i)

  pub order_join : (K : N → List N) {ns ms xs ys : List N} → Orders never K ns xs → Orders never K ms ys → Orders never K (ns ++ ms) (xs ++ ys)
  order_join K none o = o
  order_join K (first {n} e a b) o = absurd (no_early n e)
  order_join K {ys = zs} (last {n} {ns} {xs} {ys} e a b) o =
      subst (Orders never K (n ∷ (ns ++ _))) (sym (append_assoc xs (n ∷ ys) zs)) (last e a (order_join K b o))

  -- the same order for children that are the same below
  pub order_same : (K H : N → List N) {ns xs : List N} → Orders never K ns xs → ((x : N) → In x xs → H x ≡ K x) → Orders never H ns xs
  order_same K H none h = none
  order_same K H (first {n} e a b) h = absurd (no_early n e)
  order_same K H (last {n} {ns} {xs} {ys} e a b) h =
      last e
      (subst (λ (ks : List N). Orders never H ks xs) (sym (h n (in_right n xs (n ∷ ys) (inl refl)))) (order_same K H a (λ x i. h x (in_left x xs (n ∷ ys) i))))
      (order_same K H b (λ x i. h x (in_right x xs (n ∷ ys) (inr i))))

  -- where a child's parent is the node whose child it is, what ends lies within a root
  pub roots_hold : (K : N → List N) (p : N → Option N) → ((c x : N) → In x (K c) → p x ≡ Some c) → {ns xs : List N} → Orders never K ns xs → (x : N) → In x xs → (r : N) × In r ns × Within p r x
  roots_hold K p h none x i = elim i [ ]
  roots_hold K p h (first {n} e a b) x i = absurd (no_early n e)
  roots_hold K p h (last {n} {ns} {xs} {ys} e a b) x i =
      ⊎_elim
      (λ j. let w = roots_hold K p h a x j in (n, inl refl, within_join (within_parent (h n w.0 w.1)) w.2))
      (⊎_elim
      (λ q. (n, inl refl, self q))
      (λ j. let w = roots_hold K p h b x j in (w.0, inr w.1, w.2)))
      (in_parts x xs (n ∷ ys) i)
