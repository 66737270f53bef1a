-- What the lists of one kind of node give as children of nodes of any kind. Assumes nothing.
use Rattle.std.proofs.Common.{◌≡◌, Bool, true, false, List, [], map, reverse, Some, None, Option, sym, ap, ◌∙◌, subst, inl, inr}
use Rattle.std.specs.Option.{option_map}
use Rattle.linked_list.specs.Links.{Apart, Holds, In, View}
use Rattle.linked_list.proofs.Lists.{none_some, run_within, some_same}
use Rattle.orders.specs.Trees.{Linked}
use Rattle.forest.proofs.Listed.{decide}
use Rattle.walkers.proofs.Chains.{apart_map, in_map, linked_map, map_in, map_reverse, run_back, run_forth}

-- a node or container that the store does not hold has no links
pub record Blank {A C : Type 0} (v : View A C) : Type 0 where
  pub within : (x : A) → v.live x ≡ false → v.within x ≡ None
  pub head : (c : C) → v.held c ≡ false → v.head c ≡ None
  pub tail : (c : C) → v.held c ≡ false → v.tail c ≡ None

-- f: the nodes of this kind as nodes of any kind; K: the children of each container
module _ {A C N : Type 0} (v : View A C) (L : C → List A) (holds : Holds v L) (blank : Blank v) (f : A → N) (K : C → List N)
    (on : (c : C) → v.held c ≡ true → K c ≡ map f (L c)) (off : (c : C) → v.held c ≡ false → K c ≡ []) where
  module _ (next prev : N → Option N) (same_next : (x : A) → next (f x) ≡ option_map f (v.next x)) (same_prev : (x : A) → prev (f x) ≡ option_map f (v.prev x)) where
    pub forth : (c : C) → Linked next (option_map f (v.head c)) (K c)
    forth c =
        elim (decide (v.held c)) [
          | inl h ↦
              let w = holds.chains c h in
              subst (Linked next (option_map f (v.head c))) (sym (on c h)) (linked_map f v.next next same_next (v.head c) (L c) (run_forth v c None (v.head c) (L c) w.head w.run))
          | inr d ↦ subst (Linked next (option_map f (v.head c))) (sym (off c d)) (ap (option_map f) (blank.head c d))
        ]

    pub back : (c : C) → Linked prev (option_map f (v.tail c)) (reverse (K c))
    back c =
        elim (decide (v.held c)) [
          | inl h ↦
              let w = holds.chains c h in
              subst (Linked prev (option_map f (v.tail c))) (map_reverse f (L c) ∙ ap reverse (sym (on c h)))
              (linked_map f v.prev prev same_prev (v.tail c) (reverse (L c)) (run_back v c (v.tail c) (L c) w.tail w.run))
          | inr d ↦ subst (λ (ns : List N). Linked prev (option_map f (v.tail c)) (reverse ns)) (sym (off c d)) (ap (option_map f) (blank.tail c d))
        ]

  pub apart : ((x y : A) → f x ≡ f y → x ≡ y) → (c : C) → Apart (K c)
  apart inj c =
      elim (decide (v.held c)) [
        | inl h ↦ subst Apart (sym (on c h)) (apart_map f inj (L c) (holds.chains c h).apart)
        | inr d ↦ subst Apart (sym (off c d)) tt
      ]

  -- a child stands in its container
  pub contained : (c : C) (n : N) → In n (K c) → (x : A) × (n ≡ f x) × (v.within x ≡ Some c)
  contained c n i =
      elim (decide (v.held c)) [
        | inl h ↦
            let w = in_map f n (L c) (subst (In n) (on c h) i) in
            (w.0, w.1, run_within v c None (L c) None (holds.chains c h).run w.0 w.2)
        | inr d ↦ absurd (subst (In n) (off c d) i)
      ]

  -- what stands in a container is live, and is a child of it, which is live
  pub above : (g : C → N) (kids : N → List N) (alive : N → Bool) → ((c : C) → kids (g c) ≡ K c) → ((c : C) → alive (g c) ≡ v.held c)
      → (x : A) (p : N) (q : Option C) → v.within x ≡ q → option_map g q ≡ Some p → (v.live x ≡ true) × (alive p ≡ true) × In (f x) (kids p)
  above g kids alive kids_are lives x p None e u = absurd (none_some u)
  above g kids alive kids_are lives x p (Some c) e u =
      let live : v.live x ≡ true = elim (decide (v.live x)) [ inl t ↦ t | inr d ↦ absurd (none_some (sym (blank.within x d) ∙ e)) ] in
      let w = holds.listed x c live e in
      let is : g c ≡ p = some_same u in
      (live, subst (λ (z : N). alive z ≡ true) is (lives c ∙ w.0), subst (λ (z : N). In (f x) (kids z)) is (subst (In (f x)) (sym (kids_are c ∙ on c w.0)) (map_in f x (L c) w.1)))
