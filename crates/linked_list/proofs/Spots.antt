-- The gap at a spot of a list: which container it lies in, where in the list, and that what stands on either side of it is live.
use Rattle.std.proofs.Common.{◌≡◌, Bool, true, List, [], ◌∷◌, ◌++◌, Some, None, Option, sym, refl, ap, ◌∙◌, subst, inl, inr, append_assoc, append-nil}
use mathlib.Core.Bool.{Bool-set}
use mathlib.Core.Logic.{∥∥₁_elim}
use Rattle.linked_list.specs.declared.spot.Spot.{Spot}
use Rattle.linked_list.specs.declared.spot.Spot.TheVariants.{AtFront, AtBack, Before, After}
use Rattle.linked_list.specs.Links.{View, Sound, In, last_or, Run, Chain, Holds}
use Rattle.linked_list.specs.Edits.{spot_live, spot_in, Puts}
use Rattle.linked_list.specs.Gaps.{Forward, Live?, before_spot, after_spot}
use Rattle.linked_list.proofs.Lists.{last_append, last_of_in, first_of_in, in_left, in_right, run_live, run_right}
use Rattle.linked_list.proofs.Relinks.{Place, forward_left}

module _ {N : Type 0} where
  pub cut : (m : N) (ns : List N) → In m ns → (xs : List N) × ((ys : List N) × (ns ≡ xs ++ (m ∷ ys)))
  cut m [] i = elim i [ ]
  cut m (n ∷ ns) (inl e) = ([], (ns, cc))
  cut m (n ∷ ns) (inr i) = let r = cut m ns i in (n ∷ r.0, (r.1.0, cc))

module _ {N C : Type 0} (v : View N C) where
  live_maybe : (o : Option N) → ((m : N) → o ≡ Some m → v.live m ≡ true) → Live? v o
  live_maybe None h = tt
  live_maybe (Some m) h = h m refl

  live_prop : (o : Option N) → IsProp (Live? v o)
  live_prop None = λ a b. refl
  live_prop (Some m) = Bool-set (v.live m) true

  live_same : (w : View N C) (o : Option N) → w.live ≡ v.live → Live? v o → Live? w o
  live_same w None e h = tt
  live_same w (Some m) e h = ap (λ (f : N → Bool). f m) e ∙ h

  module _ (L : C → List N) (c : C) (h : Holds v L) (k : v.held c ≡ true) where
    listed_live : (m : N) → In m (L c) → v.live m ≡ true
    listed_live m i = run_live v c None (L c) None (h.chains c k).run m i

    head_live : Live? v (v.head c)
    head_live = live_maybe (v.head c) (λ m e. listed_live m (first_of_in (L c) m (sym (h.chains c k).head ∙ e)))

    tail_live : Live? v (v.tail c)
    tail_live = live_maybe (v.tail c) (λ m e. listed_live m (last_of_in (L c) m (sym (h.chains c k).tail ∙ e)))

    -- the links from a node on tell its neighbours
    from_mark : (m : N) (xs ys : List N) → L c ≡ xs ++ (m ∷ ys) → Run v c (last_or xs None) (m ∷ ys) None
    from_mark m xs ys e = run_right v c None xs (m ∷ ys) None (subst (λ (z : List N). Chain v c z) e (h.chains c k)).run

    prev_live : (m : N) → In m (L c) → Live? v (v.prev m)
    prev_live m i =
        let (xs, (ys, e)) = cut m (L c) i in
        live_maybe (v.prev m) (λ z f.
        listed_live z (subst (In z) (sym e) (in_left z xs (m ∷ ys) (last_of_in xs z (sym (from_mark m xs ys e).0.prev ∙ f)))))

    next_live : (m : N) → In m (L c) → Live? v (v.next m)
    next_live m i =
        let (xs, (ys, e)) = cut m (L c) i in
        live_maybe (v.next m) (λ z f.
        listed_live z (subst (In z) (sym e) (in_right z xs (m ∷ ys) (inr (first_of_in ys z (sym (from_mark m xs ys e).0.next ∙ f))))))

  module _ (s : Sound v) (c : C) where
    -- the container that the spot lies in is held
    pub spot_held : (spot : Spot N C) → spot_live v spot ≡ true → spot_in v spot ≡ Some c → v.held c ≡ true
    spot_held (AtFront d) l i = cc
    spot_held (AtBack d) l i = cc
    spot_held (Before m) l i = ∥∥₁_elim s (Bool-set (v.held c) true) (λ h. (h.1.listed m c l i).0)
    spot_held (After m) l i = ∥∥₁_elim s (Bool-set (v.held c) true) (λ h. (h.1.listed m c l i).0)

    before_alive : (spot : Spot N C) → spot_live v spot ≡ true → spot_in v spot ≡ Some c → Live? v (before_spot v spot)
    before_alive (AtFront d) l i = tt
    before_alive (AtBack d) l i = ∥∥₁_elim s (live_prop (v.tail d)) (λ h. tail_live h.0 d h.1 l)
    before_alive (Before m) l i =
        ∥∥₁_elim s (live_prop (v.prev m)) (λ h. let k = h.1.listed m c l i in prev_live h.0 c h.1 k.0 m k.1)
    before_alive (After m) l i = l

    after_alive : (spot : Spot N C) → spot_live v spot ≡ true → spot_in v spot ≡ Some c → Live? v (after_spot v spot)
    after_alive (AtFront d) l i = ∥∥₁_elim s (live_prop (v.head d)) (λ h. head_live h.0 d h.1 l)
    after_alive (AtBack d) l i = tt
    after_alive (Before m) l i = l
    after_alive (After m) l i =
        ∥∥₁_elim s (live_prop (v.next m)) (λ h. let k = h.1.listed m c l i in next_live h.0 c h.1 k.0 m k.1)

    module _ (spot : Spot N C) (l : spot_live v spot ≡ true) (i : spot_in v spot ≡ Some c) where
      -- what stands before the gap is live
      pub before_live : (o : Option N) → o ≡ before_spot v spot → Live? v o
      before_live o e = subst (Live? v) (sym e) (before_alive spot l i)

      -- what stands after it is live, also once the other side points to something else
      module _ (w : View N C) (p x : Option N) (f : Forward v w c p x) where
        pub after_live : (o : Option N) → o ≡ after_spot v spot → Live? w o
        after_live o e = live_same w o (forward_left v w c p x f).0.live (subst (Live? v) (sym e) (after_alive spot l i))

        pub held_on : w.held c ≡ true
        held_on = ap (λ (h : C → Bool). h c) (forward_left v w c p x f).0.held ∙ spot_held spot l i

  -- a node put at the spot of the list stands in the gap
  module _ (L : C → List N) (c : C) (h : Holds v L) (k : v.held c ≡ true) (n : N) (ms : List N) where
    pub spot_place : (spot : Spot N C) → spot_in v spot ≡ Some c → Puts spot n (L c) ms
        → (xs : List N) × (ys : List N) × Place L c xs ys (before_spot v spot) (after_spot v spot) × (ms ≡ xs ++ (n ∷ ys))
    spot_place (AtFront d) i is =
        let e : d ≡ c = cc in
        ([], L c, record { parts = refl; before = refl; after = ap v.head e ∙ (h.chains c k).head }, is)
    spot_place (AtBack d) i is =
        let e : d ≡ c = cc in
        (L c, [], record { parts = sym (append-nil (L c)); before = ap v.tail e ∙ (h.chains c k).tail; after = refl }, is)
    spot_place (Before m) i (xs, ys, e, is) =
        (xs, m ∷ ys, record { parts = e; before = (from_mark L c h k m xs ys e).0.prev; after = refl }, is)
    spot_place (After m) i (xs, ys, e, is) = (
      xs ++ (m ∷ []),
      ys,
      record {
        parts = e ∙ sym (append_assoc xs (m ∷ []) ys);
        before = sym (last_append xs (m ∷ []) None);
        after = (from_mark L c h k m xs ys e).0.next;
      },
      is ∙ sym (append_assoc xs (m ∷ []) (n ∷ ys)),
    )
