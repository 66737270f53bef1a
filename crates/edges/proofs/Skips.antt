-- What an answer Skip at one node leaves out. Assumes nothing.
use Rattle.std.proofs.Common.{◌≡◌, refl, sym, ap, subst, ◌∙◌, List, [], ◌∷◌, ◌++◌, append-nil, inl, inr, Bool, true, true≢false, Some, Option}
use Rattle.linked_list.specs.Links.{In}
use Rattle.linked_list.proofs.Lists.{in_parts, in_right, some_same}
use Rattle.trees.specs.Climbs.{Acyclic, Within, self, below}
use Rattle.trees.proofs.Climbing.{not_itself}
use Rattle.orders.specs.declared.walk_result.WalkResult.{WalkResult}
use Rattle.orders.specs.declared.walk_result.WalkResult.TheVariants.{Advance, Skip, Break}
use Rattle.orders.specs.Order.{Orders, none, first, last, Less, done, keep, drop, Inside}
use Rattle.orders.specs.Logs.{Shown, shown, nodes, GoesOn, Hidden, Ending, ended, broken, Walked}
use Rattle.orders.proofs.Climbs.{inside_up, within_join, within_parent}
use Rattle.orders.proofs.Orders.{one}
use Rattle.orders.proofs.Logs.{less_holds}
use Rattle.edges.specs.Examples.{OnlyAt}

module _ {N : Type 0} where
  -- the nodes alone determine what is left
  less_one : {P : N → Type 0} {xs ys zs : List N} → Less P xs ys → Less P xs zs → ys ≡ zs
  less_one done done = refl
  less_one (keep {x} h t) (keep g u) = ap (λ l. x ∷ l) (less_one t u)
  less_one (keep h t) (drop g u) = absurd (g h)
  less_one (drop h t) (keep g u) = absurd (h g)
  less_one (drop h t) (drop g u) = less_one t u

  -- a first part of which nothing is left
  dropped : {P : N → Type 0} {us vs : List N} (xs : List N) → ((x : N) → In x xs → P x → ⊥) → Less P us vs → Less P (xs ++ us) vs
  dropped [] h t = t
  dropped (x ∷ xs) h t = drop (h x (inl refl)) (dropped xs (λ y i. h y (inr i)) t)

module _ {N B : Type 0} where
  -- a node that was shown was answered
  pub answer_of : (x : N) (log : List (Shown N B)) → In x (nodes log) → (a : WalkResult B) × In (shown x a) log
  answer_of x [] i = absurd i
  answer_of x (s ∷ log) (inl e) = (s.answer, inl (ap (λ n. shown n s.answer) e))
  answer_of x (s ∷ log) (inr i) = let w = answer_of x log i in (w.0, inr w.1)

-- what an early node and others after it are shown as
record Parts {N : Type 0} (early : N → Bool) (children : N → List N) (n : N) (ns ws : List N) : Type 0 where
  xs : List N
  ys : List N
  is : ws ≡ n ∷ (xs ++ ys)
  under : Orders early children (children n) xs
  on : Orders early children ns ys

-- what lies within a node lies inside the node's parent
inside_of : {N : Type 0} {p : N → Option N} (n c x : N) → p c ≡ Some n → Within p c x → Inside p n x
inside_of {p} n c x e (self s) = record { above = n; parent = ap p s ∙ e; under = self refl }
inside_of n c x e (below m q v) = record { above = m; parent = q; under = within_join (within_parent e) v }

module _ {N : Type 0} {early : N → Bool} {children : N → List N} where
  parts : {n : N} {ns ws : List N} → early n ≡ true → Orders early children (n ∷ ns) ws → Parts early children n ns ws
  parts e (first {xs} {ys} q k t) = record { xs = xs; ys = ys; is = refl; under = k; on = t }
  parts e (last q k t) = absurd (true≢false (sym e ∙ q))

  module _ {p : N → Option N} (up : (n c : N) → In c (children n) → p c ≡ Some n) where
    -- what is shown lies within the nodes that are gone through
    within_one : {ns xs : List N} → Orders early children ns xs → (x : N) → In x xs → (n : N) × In n ns × Within p n x
    within_one none x i = absurd i
    within_one (first {n} q k t) x (inl e) = (n, inl refl, self e)
    within_one (first {n} {xs} {ys} q k t) x (inr i) =
        elim (in_parts x xs ys i) [
          | inl j ↦ (let w = within_one k x j in (n, inl refl, within_join (within_parent (up n w.0 w.1)) w.2))
          | inr j ↦ (let w = within_one t x j in (w.0, inr w.1, w.2))
        ]
    within_one (last {n} {xs} {ys} q k t) x i =
        elim (in_parts x xs (n ∷ ys) i) [
          | inl j ↦ (let w = within_one k x j in (n, inl refl, within_join (within_parent (up n w.0 w.1)) w.2))
          | inr j ↦ elim j [
            | inl e ↦ (n, inl refl, self e)
            | inr h ↦ (let w = within_one t x h in (w.0, inr w.1, w.2))
          ]
        ]

    -- what the children of a node are shown as lies inside it
    below_one : (n : N) {xs : List N} → Orders early children (children n) xs → (x : N) → In x xs → Inside p n x
    below_one n t x i = let w = within_one t x i in inside_of n w.0 x (up n w.0 w.1) w.2

module _ {N B : Type 0} (log : List (Shown N B)) (n : N) (only : OnlyAt n Skip log) where
  is_skip : (x : WalkResult B) → x ≡ Skip → GoesOn x
  is_skip x e = subst GoesOn (sym e) tt

  is_advance : (x : WalkResult B) → x ≡ Advance → GoesOn x
  is_advance x e = subst GoesOn (sym e) tt

  -- no answer ends the walk
  none_breaks : (m : N) (b : B) → In (shown m (Break b)) log → ⊥
  none_breaks m b i =
      is_advance (Break b) (only.elsewhere m (Break b) (λ e. is_skip (Break b) (only.here (Break b) (subst (λ z. In (shown z (Break b)) log) e i))) i)

  -- the answers hide what lies inside the node alone
  hidden_inside : (p : N → Option N) (early : N → Bool) (x : N) → (Inside p n x → ⊥) → Hidden p early log x → ⊥
  hidden_inside p early x h d =
      let e : ◌≡◌ {A = WalkResult B} Skip Advance = only.elsewhere d.by Skip (λ q. h (subst (λ z. Inside p z x) q d.inside)) d.skipped in cc

  -- the whole list was shown that the answers leave
  shows_all : (less : List N) (say : WalkResult B) → Ending log less say → (nodes log ≡ less) × (say ≡ Advance)
  shows_all less say (ended u e) = (e, refl)
  shows_all less say (broken before m b rest l u e) = absurd (none_breaks m b (subst (In (shown m (Break b))) (sym l) (in_right (shown m (Break b)) before (shown m (Break b) ∷ []) (inl refl))))

module _ {N B : Type 0} (p : N → Option N) (acyclic : Acyclic p) (early : N → Bool) (children : N → List N) (up : (n c : N) → In c (children n) → p c ≡ Some n)
    (log : List (Shown N B)) (say : WalkResult B) (r b0 b1 : N) (of_r : children r ≡ b0 ∷ (b1 ∷ [])) (of_b1 : children b1 ≡ [])
    (early_r : early r ≡ true) (early_0 : early b0 ≡ true) (early_1 : early b1 ≡ true)
    (w : Walked p early children r log say) (only : OnlyAt b0 Skip log) where
  not_inside : (n : N) → Inside p n n → ⊥
  not_inside n i = not_itself p acyclic n (record { above = i.above; parent = i.parent; inside = i.under })

  up_0 : p b0 ≡ Some r
  up_0 = up r b0 (subst (In b0) (sym of_r) (inl refl))

  up_1 : p b1 ≡ Some r
  up_1 = up r b1 (subst (In b1) (sym of_r) (inr (inl refl)))

  seen_r : Hidden p early log r → ⊥
  seen_r = hidden_inside log b0 only p early r (λ i. not_inside r (inside_up up_0 i))

  seen_0 : Hidden p early log b0 → ⊥
  seen_0 = hidden_inside log b0 only p early b0 (not_inside b0)

  seen_1 : Hidden p early log b1 → ⊥
  seen_1 =
      hidden_inside log b0 only p early b1
      (λ i. not_inside b0 (record { above = r; parent = up_0; under = subst (Within p b0) (some_same (sym i.parent ∙ up_1)) i.under }))

  -- the order: the node, the first child with all that lies inside it, and the second child
  order : (xs : List N) × Orders early children (children b0) xs × (w.whole ≡ r ∷ (b0 ∷ (xs ++ (b1 ∷ []))))
  order =
      let a = parts early_r w.is_whole.order in
      let b = parts early_0 (subst (λ z. Orders early children z a.xs) of_r a.under) in
      let c : Orders early children (b1 ∷ []) (b1 ∷ []) = first {xs = []} {ys = []} early_1 (subst (λ z. Orders early children z []) (sym of_b1) none) none in (
        b.xs,
        b.under,
        a.is ∙ ap (λ z. r ∷ (a.xs ++ z)) (one a.on none) ∙ ap (λ z. r ∷ z) (append-nil a.xs) ∙ ap (λ z. r ∷ z) b.is ∙ ap (λ z. r ∷ (b0 ∷ (b.xs ++ z))) (one b.on c),
      )

  pub keeps_the_next : (nodes log ≡ r ∷ (b0 ∷ (b1 ∷ []))) × (say ≡ Advance)
  keeps_the_next =
      let o = order in
      let all = shows_all log b0 only w.less say w.ending in
      let i : In b0 (nodes log) = subst (In b0) (sym all.0) (less_holds w.cut b0 (subst (In b0) (sym o.2) (inr (inl refl))) seen_0) in
      let a = answer_of b0 log i in
      let skipped : In (shown b0 Skip) log = subst (λ z. In (shown b0 z) log) (only.here a.0 a.1) a.1 in
      let cut : Less (λ x. Hidden p early log x → ⊥) (r ∷ (b0 ∷ (o.0 ++ (b1 ∷ [])))) (r ∷ (b0 ∷ (b1 ∷ []))) =
      keep seen_r (keep seen_0 (dropped o.0 (λ x j h. h (record { by = b0; first = early_0; skipped = skipped; inside = below_one up b0 o.1 x j })) (keep seen_1 done))) in
      (all.0 ∙ less_one (subst (λ z. Less (λ x. Hidden p early log x → ⊥) z w.less) o.2 w.cut) cut, all.1)
