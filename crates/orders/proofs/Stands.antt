-- The order that the links give is the one of the children.
use Rattle.std.proofs.Common.{◌≡◌, refl, sym, subst, List, [], ◌∷◌, ◌++◌, append_assoc, append-nil, Bool, true, false, ℕ, zero, suc, ◌-◌, arith, Some}
use Rattle.linked_list.specs.Links.{In, Apart}
use Rattle.orders.specs.Order.{Orders, none, first, last}
use Rattle.orders.specs.Logs.{Whole}
use Rattle.orders.specs.Places.{Links, Regular, depth, kids, flat, before, after, inner, order, never}
use Rattle.orders.proofs.Lists.{All}
use Rattle.orders.proofs.Moves.{kids_up, order_is}
use Rattle.orders.proofs.Once.{once, within, all_shown}

all_map : {N : Type 0} (P Q : N → Type 0) → ((n : N) → P n → Q n) → (ns : List N) → All P ns → All Q ns
all_map P Q h [] a = tt
all_map P Q h (n ∷ ns) a = (h n a.0, all_map P Q h ns a.1)

module _ {N : Type 0} (L : Links N) (sound : Regular L) where
  abbrev Ordered : List N → List N → Type 0
  Ordered = Orders L.early (kids L)

  abbrev fuel : N → ℕ
  fuel n = suc L.limit - depth L n

  abbrev One : ℕ → Type 0
  One f = (n : N) → fuel n ≡ f → (ns ys : List N) → Ordered ns ys → Ordered (n ∷ ns) (order L never n ++ ys)

  many : (f : ℕ) → One f → (ns : List N) → All (λ n. fuel n ≡ f) ns → Ordered ns (flat (order L never) ns)
  many f g [] a = none
  many f g (n ∷ ns) a = g n a.0 ns (flat (order L never) ns) (many f g ns a.1)

  node : (n : N) (ns ys : List N) (b : Bool) → L.early n ≡ b → Ordered (kids L n) (flat (order L never) (kids L n)) → Ordered ns ys
      → Ordered (n ∷ ns) ((before b n ++ (inner b false (flat (order L never) (kids L n)) ++ after b n)) ++ ys)
  node n ns ys true p k t =
      subst (λ l. Ordered (n ∷ ns) (n ∷ (l ++ ys))) (sym (append-nil (flat (order L never) (kids L n)))) (first p k t)
  node n ns ys false p k t =
      subst (λ l. Ordered (n ∷ ns) l) (sym (append_assoc (flat (order L never) (kids L n)) (n ∷ []) ys)) (last p k t)

  one_node : (f : ℕ) → One f
  one_node zero n e ns ys t = absurd (omega (arith, sound.high n))
  one_node (suc f) n e ns ys t =
      let below : All (λ c. fuel c ≡ f) (kids L n) = all_map (λ c. L.up c ≡ Some n) (λ c. fuel c ≡ f) (λ c u. omega (arith, sound.deep c n u)) (kids L n) (kids_up L sound n) in
      subst (λ l. Ordered (n ∷ ns) (l ++ ys)) (sym (order_is L sound never n))
      (node n ns ys (L.early n) refl (many f (one_node f) (kids L n) below) t)

  pub order_stands : (n : N) → Ordered (n ∷ []) (order L never n)
  order_stands n = subst (λ l. Ordered (n ∷ []) l) (append-nil (order L never n)) (one_node (fuel n) n refl [] [] none)

-- what holds of links that describe a tree
pub record Grown {N : Type 0} (L : Links N) : Type 0 where
  pub sound : Regular L
  pub apart : (n : N) → Apart (kids L n)
  pub listed : (n c : N) → L.up c ≡ Some n → In c (kids L n)

-- the order that the links give is the whole order
pub whole : {N : Type 0} (L : Links N) → Grown L → (root : N) → Whole L.up L.early (kids L) root (order L never root)
whole L g root = record {
  order = order_stands L g.sound root;
  once = once L g.sound g.apart never root;
  below = λ x i. within L g.sound g.apart never root x i;
  all = λ x u. all_shown L g.sound g.apart g.listed root x u;
}
