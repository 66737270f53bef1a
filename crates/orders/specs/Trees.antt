-- What a store's links say of its tree, and how a walk reads them.
use Rattle.std.specs.Prelude.{◌≡◌, ℕ, ◌<◌, Bool, true, false, cond, not, List, [], ◌∷◌, reverse, Some, None, Option}
use Rattle.linked_list.specs.Links.{In, Apart}
use Rattle.trees.specs.Climbs.{Ends}
use Rattle.orders.specs.Places.{Links}

-- From o on, by g, follow exactly the nodes xs, and then none.
abbrev pub Linked : {N : Type 0} → (N → Option N) → Option N → List N → Type 0
Linked g o [] = o ≡ None
Linked g o (x ∷ xs) = (o ≡ Some x) × Linked g (g x) xs

-- The links of a store: the first and last child of a node, its neighbours and its parent, which nodes are live, and the place
-- that a live node takes of the store's, which are limit many.
pub record Raw (N : Type 0) : Type 0 where
  pub first : N → Option N
  pub last : N → Option N
  pub next : N → Option N
  pub prev : N → Option N
  pub up : N → Option N
  pub live : N → Bool
  pub place : N → ℕ
  pub limit : ℕ

-- The links describe the children: in both directions, each child once and below its parent; a child and its parent are live, and
-- each live node takes its own place.
pub record Family {N : Type 0} (R : Raw N) (children : N → List N) : Type 0 where
  pub forth : (p : N) → Linked R.next (R.first p) (children p)
  pub back : (p : N) → Linked R.prev (R.last p) (reverse (children p))
  pub apart : (p : N) → Apart (children p)
  pub parent : (p c : N) → In c (children p) → R.up c ≡ Some p
  pub listed : (p c : N) → R.up c ≡ Some p → In c (children p)
  pub alive : (p c : N) → R.up c ≡ Some p → (R.live c ≡ true) × (R.live p ≡ true)
  pub placed : (n : N) → R.live n ≡ true → R.place n < R.limit
  pub sole : (n m : N) → R.live n ≡ true → R.live m ≡ true → R.place n ≡ R.place m → n ≡ m

-- The links describe some children, and every climb ends.
pub record Tree {N : Type 0} (R : Raw N) : Type 0 where
  pub children : N → List N
  pub family : Family R children
  pub ends : (n : N) → Ends R.up n

-- How a walk reads the links: which nodes are early, below which nodes it goes from the last child to the first, and which nodes
-- it leaves for the one before.
pub record Reading (N : Type 0) : Type 0 where
  pub early : N → Bool
  pub turn_in : N → Bool
  pub turn_on : N → Bool

-- A child is left in the direction in which its parent's children are gone through.
abbrev pub Agrees : {N : Type 0} → Raw N → Reading N → Type 0
Agrees {N} R k = (p c : N) → R.up c ≡ Some p → k.turn_on c ≡ k.turn_in p

-- the links as they are read
unfoldable pub read : {N : Type 0} → Raw N → Reading N → Links N
read R k = record {
  first = λ n. cond (k.turn_in n) (R.last n) (R.first n);
  next = λ n. cond (k.turn_on n) (R.prev n) (R.next n);
  up = R.up;
  early = k.early;
  limit = R.limit;
}

-- a list, or where told so the same list from its end
abbrev pub turned : {N : Type 0} → Bool → List N → List N
turned true xs = reverse xs
turned false xs = xs

-- the children of each node, in the direction in which they are gone through
abbrev pub ways : {N : Type 0} → Reading N → (N → List N) → N → List N
ways k children n = turned (k.turn_in n) (children n)

-- every order and every direction the other way
abbrev pub opposite : {N : Type 0} → Reading N → Reading N
opposite k = record { early = λ n. not (k.early n); turn_in = λ n. not (k.turn_in n); turn_on = λ n. not (k.turn_on n) }
