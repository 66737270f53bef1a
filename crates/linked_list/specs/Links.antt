-- Linked lists as a store means them: its links as functions, and which lists they describe.
use Rattle.std.specs.Prelude.{◌≡◌, Bool, true, ◌⊎◌, List, [], ◌∷◌, Some, None, Option, ◌≢◌}

-- What a store means as the links of one kind of node N in one kind of container C: which nodes and containers it holds
-- (live, held), the links of a node, the container that it stands in (within), and the ends of a container's list.
-- Every part is a function on all handles: one that the store does not hold has no links.
pub record View (N C : Type 0) : Type 0 where
  pub live : N → Bool
  pub held : C → Bool
  pub next : N → Option N
  pub prev : N → Option N
  pub within : N → Option C
  pub head : C → Option N
  pub tail : C → Option N

-- The function g is f, but for b at a.
pub record At {A B : Type 0} (f g : A → B) (a : A) (b : B) : Type 0 where
  pub here : g a ≡ b
  pub other : (x : A) → (x ≢ a) → g x ≡ f x

-- The next of the node n is now x, and every other link is as it was.
pub record SetsNext {N C : Type 0} (v w : View N C) (n : N) (x : Option N) : Type 0 where
  pub change : At v.next w.next n x
  pub live : w.live ≡ v.live
  pub held : w.held ≡ v.held
  pub prev : w.prev ≡ v.prev
  pub within : w.within ≡ v.within
  pub head : w.head ≡ v.head
  pub tail : w.tail ≡ v.tail

-- The previous of the node n is now x, and every other link is as it was.
pub record SetsPrev {N C : Type 0} (v w : View N C) (n : N) (x : Option N) : Type 0 where
  pub change : At v.prev w.prev n x
  pub live : w.live ≡ v.live
  pub held : w.held ≡ v.held
  pub next : w.next ≡ v.next
  pub within : w.within ≡ v.within
  pub head : w.head ≡ v.head
  pub tail : w.tail ≡ v.tail

-- The container of the node n is now x, and every other link is as it was.
pub record SetsWithin {N C : Type 0} (v w : View N C) (n : N) (x : Option C) : Type 0 where
  pub change : At v.within w.within n x
  pub live : w.live ≡ v.live
  pub held : w.held ≡ v.held
  pub next : w.next ≡ v.next
  pub prev : w.prev ≡ v.prev
  pub head : w.head ≡ v.head
  pub tail : w.tail ≡ v.tail

-- The head of the container c is now x, and every other link is as it was.
pub record SetsHead {N C : Type 0} (v w : View N C) (c : C) (x : Option N) : Type 0 where
  pub change : At v.head w.head c x
  pub live : w.live ≡ v.live
  pub held : w.held ≡ v.held
  pub next : w.next ≡ v.next
  pub prev : w.prev ≡ v.prev
  pub within : w.within ≡ v.within
  pub tail : w.tail ≡ v.tail

-- The tail of the container c is now x, and every other link is as it was.
pub record SetsTail {N C : Type 0} (v w : View N C) (c : C) (x : Option N) : Type 0 where
  pub change : At v.tail w.tail c x
  pub live : w.live ≡ v.live
  pub held : w.held ≡ v.held
  pub next : w.next ≡ v.next
  pub prev : w.prev ≡ v.prev
  pub within : w.within ≡ v.within
  pub head : w.head ≡ v.head

-- The node is one of the list.
abbrev pub In : {N : Type 0} → N → List N → Type 0
In m [] = ⊥
In m (n ∷ ns) = (m ≡ n) ⊎ In m ns

-- No node stands in the list twice.
abbrev pub Apart : {N : Type 0} → List N → Type 0
Apart [] = Unit {0}
Apart (n ∷ ns) = (In n ns → ⊥) × Apart ns

-- The first of a list, or q where the list is empty.
abbrev pub first_or : {N : Type 0} → List N → Option N → Option N
first_or [] q = q
first_or (n ∷ ns) q = Some n

-- The last of a list, or p where the list is empty.
abbrev pub last_or : {N : Type 0} → List N → Option N → Option N
last_or [] p = p
last_or (n ∷ ns) p = last_or ns (Some n)

-- The node n stands in the container c, after p and before q.
pub record Node {N C : Type 0} (v : View N C) (c : C) (p : Option N) (n : N) (q : Option N) : Type 0 where
  pub prev : v.prev n ≡ p
  pub next : v.next n ≡ q
  pub within : v.within n ≡ Some c
  pub live : v.live n ≡ true

-- The nodes ns follow one another in the container c, after p and before q.
abbrev pub Run : {N C : Type 0} → View N C → C → Option N → List N → Option N → Type 0
Run v c p [] q = Unit {0}
Run v c p (n ∷ ns) q = Node v c p n (first_or ns q) × Run v c (Some n) ns q

-- The links of the container c and of its nodes describe the list ns, in both directions.
pub record Chain {N C : Type 0} (v : View N C) (c : C) (ns : List N) : Type 0 where
  pub head : v.head c ≡ first_or ns None
  pub tail : v.tail c ≡ last_or ns None
  pub run : Run v c None ns None
  pub apart : Apart ns

-- All links of the store describe the lists L: each held container's links describe its list, a node stands in the
-- list of its container, and a node that stands in none has no neighbours.
pub record Holds {N C : Type 0} (v : View N C) (L : C → List N) : Type 0 where
  pub chains : (c : C) → v.held c ≡ true → Chain v c (L c)
  pub listed : (n : N) (c : C) → v.live n ≡ true → v.within n ≡ Some c → (v.held c ≡ true) × In n (L c)
  pub loose : (n : N) → v.live n ≡ true → v.within n ≡ None → (v.next n ≡ None) × (v.prev n ≡ None)

-- The links of the store describe some lists.
abbrev pub Sound : {N C : Type 0} → View N C → Type 0
Sound {N} {C} v = ∥ ((L : C → List N) × Holds v L) ∥₁

-- The lists M are the lists L, but for ns at c.
pub record Relisted {N C : Type 0} (L M : C → List N) (c : C) (ns : List N) : Type 0 where
  pub here : M c ≡ ns
  pub other : (d : C) → (d ≢ c) → M d ≡ L d
