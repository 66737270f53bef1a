-- Which of two nodes comes first in an order in which every node comes before what lies below it. Assumes nothing.
use Rattle.std.proofs.Common.{◌≡◌, Bool, true, ◌⊎◌, List, [], ◌∷◌, ◌++◌, sym, ◌∙◌, subst, inl, inr, ⊎_elim}
use Rattle.linked_list.specs.Links.{Apart, In}
use Rattle.linked_list.proofs.Lists.{in_left, in_parts, in_right}
use Rattle.orders.specs.Order.{Less, Orders, done, drop, keep, none, first, last}
use Rattle.forest.proofs.Listed.{clash}
use Rattle.records.specs.declared.ir_node.IRNode.{IRNode}
use Rattle.histories.specs.Ledgers.{Below, Deeper, child, itself}

-- a stands in the list, and b after it
abbrev pub Before : {N : Type 0} → N → N → List N → Type 0
Before a b [] = ⊥
Before a b (x ∷ xs) = ((a ≡ x) × In b xs) ⊎ Before a b xs

module _ {N : Type 0} (a b : N) where
  before_in : (xs : List N) → Before a b xs → In b xs
  before_in [] w = w
  before_in (x ∷ xs) (inl w) = inr w.1
  before_in (x ∷ xs) (inr w) = inr (before_in xs w)

  before_left : (xs ys : List N) → Before a b xs → Before a b (xs ++ ys)
  before_left [] ys w = absurd w
  before_left (x ∷ xs) ys (inl w) = inl (w.0, in_left b xs ys w.1)
  before_left (x ∷ xs) ys (inr w) = inr (before_left xs ys w)

  before_right : (xs ys : List N) → Before a b ys → Before a b (xs ++ ys)
  before_right [] ys w = w
  before_right (x ∷ xs) ys w = inr (before_right xs ys w)

  -- what is taken out of a list does not change which comes first
  pub before_less : {P : N → Type 0} {xs ys : List N} → P a → P b → Less P xs ys → Before a b xs → Before a b ys
  before_less p q done w = w
  before_less {P} p q (keep h t) (inl w) = inl (w.0, in_less q t w.1)
    where
      in_less : {xs ys : List N} → P b → Less P xs ys → In b xs → In b ys
      in_less q done i = i
      in_less q (keep h t) (inl e) = inl e
      in_less q (keep h t) (inr i) = inr (in_less q t i)
      in_less q (drop h t) (inl e) = absurd (h (subst P e q))
      in_less q (drop h t) (inr i) = in_less q t i
  before_less p q (keep h t) (inr w) = inr (before_less p q t w)
  before_less {P} p q (drop h t) (inl w) = absurd (h (subst P w.0 p))
  before_less p q (drop h t) (inr w) = before_less p q t w

  -- where b is in a first part, so is what comes before it
  pub first_part : (xs ys : List N) → Apart (xs ++ ys) → Before a b (xs ++ ys) → In b xs → In a xs
  first_part [] ys d w i = absurd i
  first_part (x ∷ xs) ys d (inl w) i = inl w.0
  first_part (x ∷ xs) ys d (inr w) (inl e) = absurd (d.0 (subst (λ z. In z (xs ++ ys)) e (before_in (xs ++ ys) w)))
  first_part (x ∷ xs) ys d (inr w) (inr i) = inr (first_part xs ys d.1 w i)

module _ {early : IRNode → Bool} {children : IRNode → List IRNode} where
  roots_in : {ns xs : List IRNode} (m : IRNode) → Orders early children ns xs → In m ns → In m xs
  roots_in m none i = i
  roots_in m (first e o p) (inl q) = inl q
  roots_in m (first {xs = xs} {ys = ys} e o p) (inr i) = inr (in_right m xs ys (roots_in m p i))
  roots_in m (last {n} {xs = xs} {ys = ys} e o p) (inl q) = in_right m xs (n ∷ ys) (inl q)
  roots_in m (last {n} {xs = xs} {ys = ys} e o p) (inr i) = in_right m xs (n ∷ ys) (inr (roots_in m p i))

  module _ (always : (n : IRNode) → early n ≡ true) where
    -- the children of what is in the order are in it
    children_in : {ns xs : List IRNode} (c m : IRNode) → Orders early children ns xs → In c xs → In m (children c) → In m xs
    children_in c m none i j = absurd i
    children_in c m (first {n} {xs = xs} {ys = ys} e o p) (inl q) j = inr (in_left m xs ys (roots_in m o (subst (λ z. In m (children z)) q j)))
    children_in c m (first {n} {xs = xs} {ys = ys} e o p) (inr i) j =
        inr (⊎_elim (λ k. in_left m xs ys (children_in c m o k j)) (λ k. in_right m xs ys (children_in c m p k j)) (in_parts c xs ys i))
    children_in c m (last {n} e o p) i j = absurd (clash (sym (always n) ∙ e))

    below_in : {n c : IRNode} {xs : List IRNode} → Orders early children (children n) xs → Below children n c → (m : IRNode) → In m (children c) → In m xs
    below_in o itself m j = roots_in m o j
    below_in o (child {c = d} {m = c} w i) m j = children_in c m o (below_in o w c i) j

    -- a node comes before all that lies below it
    pub before_below : {ns xs : List IRNode} (a b : IRNode) → Orders early children ns xs → In a xs → Deeper children a b → Before a b xs
    before_below a b none i d = i
    before_below a b (first {n} {xs = xs} {ys = ys} e o p) (inl q) d =
        inl (q, in_left b xs ys (below_in o (subst (λ z. Below children z d.0) q d.1) b d.2))
    before_below a b (first {n} {xs = xs} {ys = ys} e o p) (inr i) d =
        inr (⊎_elim (λ k. before_left a b xs ys (before_below a b o k d)) (λ k. before_right a b xs ys (before_below a b p k d)) (in_parts a xs ys i))
    before_below a b (last {n} e o p) i d = absurd (clash (sym (always n) ∙ e))
