-- From what a store promises of its links to all that a walk over them needs and is.
use Rattle.std.proofs.Common.{◌≡◌, refl, sym, ap, subst, List, [], ◌∷◌, ◌++◌, reverse, ◌⊎◌, inl, inr, ⊎_elim, Bool, true, false, not, suc, Some}
use mathlib.Core.Logic.{∥∥₁_elim, ∥∥₁_map}
use mathlib.Core.HLevel.{×_prop, ¬_prop, hedberg}
use mathlib.Core.List.{reverse-reverse, is_set}
use native.Mathlib.Nat.{ℕ_set}
use Rattle.trees.proofs.Climbing.{option_set, all_end}
use Rattle.linked_list.specs.Links.{In, Apart}
use Rattle.orders.specs.declared.place.At.{At}
use Rattle.orders.specs.declared.place.At.TheVariants.{Ended}
use Rattle.orders.specs.declared.walk_result.WalkResult.{WalkResult}
use Rattle.orders.specs.Logs.{Shown, GoesOn, Walked, Left, Next}
use Rattle.orders.specs.Places.{Links, kids, siblings, depth, goes, remaining, shows, node_at, Fit, Begun}
use Rattle.orders.specs.Runs.{closed, Going, answered, Held}
use Rattle.orders.specs.Trees.{Raw, Family, Tree, Reading, Agrees, read, turned, ways, opposite}
use Rattle.orders.proofs.Derive.{high_any, shape, kids_are, tree_sound, turned_apart, in_turned}
use Rattle.orders.proofs.Stands.{Grown}
use Rattle.orders.proofs.Logs.{skips}
use Rattle.orders.proofs.Runs.{going_ends, going_left}
use Rattle.orders.proofs.Holding.{held_step}

opposite_way : {N : Type 0} (b : Bool) (xs : List N) → turned (not b) xs ≡ reverse (turned b xs)
opposite_way true xs = sym (reverse-reverse xs)
opposite_way false xs = refl

-- where every order and every direction is the other way, so are the children, and a child is left as its parent was entered
pub opposite_ways : {N : Type 0} (k : Reading N) (children : N → List N) (n : N) → ways (opposite k) children n ≡ reverse (ways k children n)
opposite_ways k children n = opposite_way (k.turn_in n) (children n)

pub opposite_agrees : {N : Type 0} (R : Raw N) (k : Reading N) → Agrees R k → Agrees R (opposite k)
opposite_agrees R k agrees p c u = ap not (agrees p c u)

module _ {N : Type 0} (same : (a b : N) → (a ≡ b) ⊎ (a ≡ b → ⊥)) where
  set : IsSet N
  set = hedberg (λ a b. ⊎_elim (λ e. yes e) (λ ne. no ne) (same a b))

  lists : IsSet (List N)
  lists = is_set set

  in_prop : (c : N) (xs : List N) → Apart xs → IsProp (In c xs)
  in_prop c [] a i j = absurd i
  in_prop c (x ∷ xs) a (inl e) (inl q) = ap inl (set c x e q)
  in_prop c (x ∷ xs) a (inl e) (inr j) = absurd (a.0 (subst (λ y. In y xs) e j))
  in_prop c (x ∷ xs) a (inr i) (inl q) = absurd (a.0 (subst (λ y. In y xs) q i))
  in_prop c (x ∷ xs) a (inr i) (inr j) = ap inr (in_prop c xs a.1 i j)

  apart_prop : (xs : List N) → IsProp (Apart xs)
  apart_prop [] a b = refl
  apart_prop (x ∷ xs) a b = ×_prop ¬_prop (apart_prop xs) a b

  -- the children that the links give are those that they describe, in the direction in which they are gone through
  kids_ways : (R : Raw N) (k : Reading N) (agrees : Agrees R k) (t : Tree R) → kids (read R k) ≡ ways k t.children
  kids_ways R k agrees t = λ i n. kids_are (read R k) (ways k t.children) R.live R.place (shape R k agrees t) n i

  module _ (R : Raw N) (k : Reading N) (agrees : Agrees R k) (t : ∥ Tree R ∥₁) where
    abbrev L : Links N
    L = read R k

    part : {P : Type 0} → IsProp P → (Tree R → P) → P
    part h f = ∥∥₁_elim t h f

    kid : (n c : N) → L.first n ≡ Some c → (kids L n ≡ c ∷ siblings L c) × (L.up c ≡ Some n)
    kid n c e = part (×_prop (lists (kids L n) (c ∷ siblings L c)) (option_set same (L.up c) (Some n))) (λ x. (tree_sound R k agrees x).kid n c e)

    sibling : (n p s : N) → L.up n ≡ Some p → L.next n ≡ Some s → (siblings L n ≡ s ∷ siblings L s) × (L.up s ≡ Some p)
    sibling n p s u e = part (×_prop (lists (siblings L n) (s ∷ siblings L s)) (option_set same (L.up s) (Some p))) (λ x. (tree_sound R k agrees x).sibling n p s u e)

    deep : (n p : N) → L.up n ≡ Some p → depth L n ≡ suc (depth L p)
    deep n p e = part (ℕ_set (depth L n) (suc (depth L p))) (λ x. (tree_sound R k agrees x).deep n p e)

    apart : (n : N) → Apart (kids L n)
    apart n = part (apart_prop (kids L n)) (λ x. subst (λ (c : N → List N). Apart (c n)) (sym (kids_ways R k agrees x)) (turned_apart (k.turn_in n) (x.children n) (x.family.apart n)))

    listed : (n c : N) → L.up c ≡ Some n → In c (kids L n)
    unfolding read
    listed n c e = part (in_prop c (kids L n) (apart n)) (λ x.
        subst (λ (g : N → List N). In c (g n)) (sym (kids_ways R k agrees x)) (in_turned (k.turn_in n) c (x.children n) (x.family.listed n c e)))

    -- what the store promises of its links gives all that a walk needs
    pub grown : Grown (read R k)
    grown = record {
      sound = record { kid = kid; sibling = sibling; deep = deep; high = λ n. high_any L n };
      apart = apart;
      listed = listed;
    }

    -- the children that the links give, for any children that they describe
    pub ways_are : (children : N → List N) → Family R children → kids (read R k) ≡ ways k children
    ways_are children f = kids_ways R k agrees (record { children = children; family = f; ends = all_end R.up (option_set same) (∥∥₁_map t (λ x. x.ends)) })

    module _ {B : Type 0} (root : N) (at : At N) (log : List (Shown N B)) (children : N → List N) (f : Family R children) where
      -- a step that gives none ends the walk
      pub walk_ends : (a : WalkResult B) → Going (read R k) root at a log → (to : At N) → ((S : N → Bool) → goes (read R k) root S at a ≡ remaining (read R k) root S to) → to ≡ Ended
          → (r : WalkResult B) → r ≡ closed a → Walked R.up k.early (ways k children) root log r
      unfolding read
      walk_ends a w to left e r c =
          subst (λ (g : N → List N). Walked R.up k.early g root log r) (ways_are children f) (going_ends same L grown root at a log w to left e r c)

      -- what is still to come once the newest node was answered
      pub walk_left : (a : WalkResult B) → Going (read R k) root at a log → GoesOn a → Left R.up k.early (ways k children) root log (goes (read R k) root (skips same log) at a)
      unfolding read
      walk_left a w o =
          subst (λ (g : N → List N). Left R.up k.early g root log (goes L root (skips same log) at a)) (ways_are children f) (going_left same L grown root at a log w o)

      -- what a step of a held walk gives
      pub walk_next : (a : WalkResult B) → Held (read R k) root at log → (to : At N) → ((S : N → Bool) → goes (read R k) root S at a ≡ shows to ++ remaining (read R k) root S to) → Fit (read R k) root to → Begun to
          → Next R.up k.early (ways k children) root (answered at log a) (node_at to)
      unfolding read
      walk_next a h to left fits b =
          subst (λ (g : N → List N). Next R.up k.early g root (answered at log a) (node_at to)) (ways_are children f) (held_step same L grown root at a log h to left fits b).1

    -- a step of a held walk holds it on
    pub walk_held : {B : Type 0} (root : N) (at : At N) (log : List (Shown N B)) (a : WalkResult B) → Held (read R k) root at log → (to : At N)
        → ((S : N → Bool) → goes (read R k) root S at a ≡ shows to ++ remaining (read R k) root S to) → Fit (read R k) root to → Begun to → Held (read R k) root to (answered at log a)
    walk_held root at log a h to left fits b = (held_step same L grown root at a log h to left fits b).0
