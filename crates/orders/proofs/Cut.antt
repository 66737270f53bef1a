-- The order that leaves out what lies below the skipped nodes is the whole order less the hidden nodes.
use Rattle.std.proofs.Common.{◌≡◌, refl, sym, ap, subst, ◌∙◌, List, [], ◌∷◌, ◌++◌, append-nil, ◌⊎◌, inl, inr, Bool, true, false, cond, ℕ, zero, suc, ◌-◌, arith, Some}
use Rattle.linked_list.specs.Links.{In, Apart}
use Rattle.linked_list.proofs.Lists.{some_same}
use Rattle.trees.specs.Climbs.{Within, self, below}
use Rattle.orders.specs.Order.{Less, done, keep, drop, Inside}
use Rattle.orders.specs.Places.{Links, depth, kids, flat, before, after, inner, order, Regular, never}
use Rattle.orders.proofs.Climbs.{within_join, within_parent}
use Rattle.orders.proofs.Lists.{in_all}
use Rattle.orders.proofs.Moves.{kids_up, order_is, within_depth}
use Rattle.orders.proofs.Once.{in_flat, within}

-- x lies below an early node of the walk from root that S tells
pub record Skipped {N : Type 0} (L : Links N) (root : N) (S : N → Bool) (x : N) : Type 0 where
  pub by : N
  pub first : L.early by ≡ true
  pub skipped : S by ≡ true
  pub walked : Within L.up root by
  pub inside : Inside L.up by x

true_false : {b : Bool} → b ≡ true → b ≡ false → ⊥
true_false p q = subst (λ b. cond b (Unit {0}) ⊥) (sym p ∙ q) tt

module _ {N : Type 0} (P : N → Type 0) where
  less_join : {xs ys : List N} (us vs : List N) → Less P xs ys → Less P us vs → Less P (xs ++ us) (ys ++ vs)
  less_join us vs done f = f
  less_join us vs (keep h t) f = keep h (less_join us vs t f)
  less_join us vs (drop h t) f = drop h (less_join us vs t f)

  less_flat : (g h : N → List N) (ns : List N) → ((c : N) → In c ns → Less P (g c) (h c)) → Less P (flat g ns) (flat h ns)
  less_flat g h [] k = done
  less_flat g h (n ∷ ns) k = less_join (flat g ns) (flat h ns) (k n (inl refl)) (less_flat g h ns (λ c i. k c (inr i)))

  all_dropped : (xs : List N) → ((x : N) → In x xs → P x → ⊥) → Less P xs []
  all_dropped [] h = done
  all_dropped (x ∷ xs) h = drop (h x (inl refl)) (all_dropped xs (λ y i. h y (inr i)))

  -- one node's part; K: the whole of its children, M: what is left of it
  part : (b s : Bool) (n : N) (K M : List N) → P n → (b ≡ true → s ≡ true → Less P K []) → ((b ≡ true → s ≡ true → ⊥) → Less P K M)
      → Less P (before b n ++ (inner b false K ++ after b n)) (before b n ++ (inner b s M ++ after b n))
  part true true n K M p h k = keep p (subst (λ l. Less P l []) (sym (append-nil K)) (h refl refl))
  part true false n K M p h k = keep p (less_join [] [] (k (λ _ e. true_false e refl)) done)
  part false s n K M p h k = less_join (n ∷ []) (n ∷ []) (k (λ e _. true_false e refl)) (keep p done)

module _ {N : Type 0} (L : Links N) (sound : Regular L) (apart : (n : N) → Apart (kids L n)) (root : N) (S : N → Bool) where
  abbrev Seen : N → Type 0
  Seen x = Skipped L root S x → ⊥

  up_of : (n c : N) → In c (kids L n) → L.up c ≡ Some n
  up_of n c i = in_all (λ x. L.up x ≡ Some n) (kids L n) (kids_up L sound n) c i

  at_or_above : {a p : N} → Within L.up a p → (p ≡ a) ⊎ Inside L.up a p
  at_or_above (self e) = inl e
  at_or_above (below q e u) = inr (record { above = q; parent = e; under = u })

  -- a child is seen where its parent is, and does not hide
  kid_seen : (n c : N) → L.up c ≡ Some n → Seen n → (L.early n ≡ true → S n ≡ true → ⊥) → Seen c
  kid_seen n c u h k d =
      let q : d.inside.above ≡ n = some_same (sym d.inside.parent ∙ u) in
      elim (at_or_above (subst (Within L.up d.by) q d.inside.under)) [
        | inl e ↦ k (ap L.early e ∙ d.first) (ap S e ∙ d.skipped)
        | inr i ↦ h (record { by = d.by; first = d.first; skipped = d.skipped; walked = d.walked; inside = i })
      ]

  cut_at : (f : ℕ) (n : N) → suc L.limit - depth L n ≡ f → Within L.up root n → Seen n → Less Seen (order L never n) (order L S n)
  cut_at zero n e u h = absurd (omega (arith, sound.high n))
  cut_at (suc f) n e u h =
      let g : N → List N = order L never in
      let K : List N = flat g (kids L n) in
      let M : List N = flat (order L S) (kids L n) in
      subst (λ l. Less Seen l (order L S n)) (sym (order_is L sound never n))
      (subst (λ l. Less Seen (before (L.early n) n ++ (inner (L.early n) false K ++ after (L.early n) n)) l) (sym (order_is L sound S n))
      (part Seen (L.early n) (S n) n K M h
      (λ p q. all_dropped Seen K (λ x i seen. let w = in_flat g x (kids L n) i in
      seen (record { by = n; first = p; skipped = q; walked = u; inside = inside_of n w.0 x (up_of n w.0 w.1) (within L sound apart never w.0 x w.2) })))
      (λ k. less_flat Seen g (order L S) (kids L n) (λ c i.
      let v = up_of n c i in
      let d : suc L.limit - depth L c ≡ f = omega (arith, sound.deep c n v) in
      cut_at f c d (below n v u) (kid_seen n c v h k)))))
    where
      inside_of : (n c x : N) → L.up c ≡ Some n → Within L.up c x → Inside L.up n x
      inside_of n c x e (self s) = record { above = n; parent = ap L.up s ∙ e; under = self refl }
      inside_of n c x e (below p q v) = record { above = p; parent = q; under = within_join (within_parent e) v }

  root_seen : Seen root
  root_seen d = omega (arith, sound.deep root d.inside.above d.inside.parent, within_depth L sound d.inside.under, within_depth L sound d.walked)

  pub cut : Less Seen (order L never root) (order L S root)
  cut = cut_at (suc L.limit - depth L root) root refl (self refl) root_seen
