-- From what the links describe to what the machine needs of them.
use Rattle.std.proofs.Common.{◌≡◌, refl, sym, ap, subst, ◌∙◌, List, [], ◌∷◌, reverse, inl, inr, Bool, true, false, cond, ℕ, zero, suc, ◌<◌, ◌≤◌, arith, length, Some, None, Option}
use Rattle.linked_list.specs.Links.{In, Apart}
use Rattle.linked_list.proofs.Lists.{some_same, none_some}
use Rattle.trees.specs.Climbs.{Ends}
use Rattle.orders.specs.Order.{Inside}
use Rattle.orders.specs.Places.{Links, chain, depth, kids, siblings, Regular}
use Rattle.orders.specs.Trees.{Linked, Raw, Tree, Reading, Agrees, read, turned, ways}
use Rattle.orders.proofs.Climbs.{inside_up, parent_inside, none_below_itself}
use Rattle.orders.proofs.Places.{pigeonhole}
use Rattle.orders.proofs.Lists.{All, all_in, in_all, reverse_in, in_reverse, apart_reverse}

-- fuel that suffices for a linked list gives it
pub chain_linked : {N : Type 0} (g : N → Option N) (f : ℕ) (o : Option N) (xs : List N) → Linked g o xs → length xs ≤ f → chain g f o ≡ xs
unfolding chain
chain_linked g zero o [] l h = refl
chain_linked g zero o (x ∷ xs) l h = absurd (omega arith)
chain_linked g (suc f) o [] l h = ap (chain g (suc f)) l
chain_linked g (suc f) o (x ∷ xs) l h = ap (chain g (suc f)) l.0 ∙ ap (λ r. x ∷ r) (chain_linked g f (g x) xs l.1 (omega arith))

chain_short : {N : Type 0} (g : N → Option N) (f : ℕ) (o : Option N) → length (chain g f o) ≤ f
unfolding chain
chain_short g zero o = omega arith
chain_short g (suc f) None = omega arith
chain_short g (suc f) (Some p) = let h = chain_short g f (g p) in omega (arith, h)

pub high_any : {N : Type 0} (L : Links N) (n : N) → depth L n ≤ L.limit
unfolding depth
high_any L n = chain_short L.up L.limit (L.up n)

-- the part of a linked list after c
pub data After {N : Type 0} (c : N) : List N → List N → Type 0 where
  at_head : {zs : List N} → After c (c ∷ zs) zs
  at_tail : {y : N} {ys zs : List N} → After c ys zs → After c (y ∷ ys) zs

pub in_after : {N : Type 0} (c : N) (xs : List N) → In c xs → (zs : List N) × After c xs zs
in_after c [] i = absurd i
in_after c (x ∷ xs) (inl e) = (xs, subst (λ y. After c (y ∷ xs) xs) e at_head)
in_after c (x ∷ xs) (inr i) = let w = in_after c xs i in (w.0, at_tail w.1)

linked_after : {N : Type 0} (g : N → Option N) {c : N} {xs zs : List N} → After c xs zs → (o : Option N) → Linked g o xs → Linked g (g c) zs
linked_after g at_head o l = l.1
linked_after g (at_tail {y} a) o l = linked_after g a (g y) l.1

after_short : {N : Type 0} {c : N} {xs zs : List N} → After c xs zs → length zs < length xs
after_short at_head = omega arith
after_short (at_tail a) = let h = after_short a in omega arith

after_next : {N : Type 0} {c s : N} {xs zs : List N} → After c xs (s ∷ zs) → After s xs zs
after_next {s} {zs} a = go a refl
  where
    go : {N : Type 0} {c s : N} {xs ys zs : List N} → After c xs ys → ys ≡ s ∷ zs → After s xs zs
    go {c} {s} {zs} at_head e = at_tail (subst (λ l. After s l zs) (sym e) at_head)
    go (at_tail a) e = at_tail (go a e)

-- links read in a configuration, with the child lists in that configuration
pub record Shape {N : Type 0} (L : Links N) (ch : N → List N) (live : N → Bool) (place : N → ℕ) : Type 0 where
  pub linked : (p : N) → Linked L.next (L.first p) (ch p)
  pub apart : (p : N) → Apart (ch p)
  pub parent : (p c : N) → In c (ch p) → L.up c ≡ Some p
  pub listed : (p c : N) → L.up c ≡ Some p → In c (ch p)
  pub alive : (p c : N) → L.up c ≡ Some p → (live c ≡ true) × (live p ≡ true)
  pub placed : (n : N) → live n ≡ true → place n < L.limit
  pub sole : (n m : N) → live n ≡ true → live m ≡ true → place n ≡ place m → n ≡ m
  pub ends : (n : N) → Ends L.up n

module _ {N : Type 0} (L : Links N) (ch : N → List N) (live : N → Bool) (place : N → ℕ) (s : Shape L ch live place) where
  hole : (xs : List N) → All (λ y. live y ≡ true) xs → Apart xs → length xs ≤ L.limit
  hole = pigeonhole live place L.limit s.placed s.sole

  pub few_kids : (p : N) → length (ch p) ≤ L.limit
  few_kids p = hole (ch p) (all_in (λ y. live y ≡ true) (ch p) (λ y i. (s.alive p y (s.parent p y i)).0)) (s.apart p)

  pub kids_are : (p : N) → kids L p ≡ ch p
  unfolding kids
  kids_are p = chain_linked L.next L.limit (L.first p) (ch p) (s.linked p) (few_kids p)

  -- the siblings after a child
  siblings_are : (p c : N) (zs : List N) → After c (ch p) zs → (siblings L c ≡ zs) × Linked L.next (L.next c) zs
  unfolding siblings
  siblings_are p c zs a =
      let l = linked_after L.next a (L.first p) (s.linked p) in
      let h = after_short a in let k = few_kids p in
      (chain_linked L.next L.limit (L.next c) zs l (omega (arith, h, k)), l)

  first_kid : (p c : N) (xs : List N) → Linked L.next (L.first p) xs → L.first p ≡ Some c → (zs : List N) × (xs ≡ c ∷ zs)
  first_kid p c [] l e = absurd (none_some (sym l ∙ e))
  first_kid p c (x ∷ xs) l e = (xs, ap (λ y. y ∷ xs) (some_same (sym l.0 ∙ e)))

  kid : (n c : N) → L.first n ≡ Some c → (kids L n ≡ c ∷ siblings L c) × (L.up c ≡ Some n)
  kid n c e =
      let w = first_kid n c (ch n) (s.linked n) e in
      let a : After c (ch n) w.0 = subst (λ l. After c l w.0) (sym w.1) at_head in
      (kids_are n ∙ w.1 ∙ ap (λ l. c ∷ l) (sym (siblings_are n c w.0 a).0), s.parent n c (subst (In c) (sym w.1) (inl refl)))

  next_of : (n x : N) (zs : List N) → Linked L.next (L.next n) zs → L.next n ≡ Some x → (ys : List N) × (zs ≡ x ∷ ys)
  next_of n x [] l e = absurd (none_some (sym l ∙ e))
  next_of n x (z ∷ zs) l e = (zs, ap (λ y. y ∷ zs) (some_same (sym l.0 ∙ e)))

  after_in : {c : N} {xs zs : List N} → After c xs zs → In c xs
  after_in at_head = inl refl
  after_in (at_tail a) = inr (after_in a)

  sib : (n p x : N) → L.up n ≡ Some p → L.next n ≡ Some x → (siblings L n ≡ x ∷ siblings L x) × (L.up x ≡ Some p)
  sib n p x u e =
      let w = in_after n (ch p) (s.listed p n u) in
      let q = siblings_are p n w.0 w.1 in
      let m = next_of n x w.0 q.1 e in
      let a : After x (ch p) m.0 = after_next (subst (After n (ch p)) m.1 w.1) in
      (q.0 ∙ m.1 ∙ ap (λ l. x ∷ l) (sym (siblings_are p x m.0 a).0), s.parent p x (after_in a))

  -- all nodes above n have n below them
  above_inside : (f : ℕ) (o : Option N) (n : N) → ((p : N) → o ≡ Some p → Inside L.up p n) → All (λ a. Inside L.up a n) (chain L.up f o)
  unfolding chain
  above_inside zero o n h = tt
  above_inside (suc f) None n h = tt
  above_inside (suc f) (Some p) n h = (h p refl, above_inside f (L.up p) n (λ q e. inside_up e (h p refl)))

  not_above : (f : ℕ) (n : N) → In n (chain L.up f (L.up n)) → ⊥
  not_above f n i = none_below_itself L.up s.ends n (in_all (λ a. Inside L.up a n) (chain L.up f (L.up n)) (above_inside f (L.up n) n (λ q e. parent_inside e)) n i)

  above_apart : (f : ℕ) (o : Option N) → Apart (chain L.up f o)
  unfolding chain
  above_apart zero o = tt
  above_apart (suc f) None = tt
  above_apart (suc f) (Some p) = (not_above f p, above_apart f (L.up p))

  above_live : (f : ℕ) (o : Option N) → ((p : N) → o ≡ Some p → live p ≡ true) → All (λ a. live a ≡ true) (chain L.up f o)
  unfolding chain
  above_live zero o h = tt
  above_live (suc f) None h = tt
  above_live (suc f) (Some p) h = (h p refl, above_live f (L.up p) (λ q e. (s.alive q p e).1))

  -- fuel that was not used up does not matter
  spare : (g : N → Option N) (f : ℕ) (o : Option N) → length (chain g f o) < f → chain g (suc f) o ≡ chain g f o
  unfolding chain
  spare g zero o h = absurd (omega arith)
  spare g (suc f) None h = refl
  spare g (suc f) (Some p) h = ap (λ l. p ∷ l) (spare g f (g p) (omega arith))

  -- with the node itself, so one less than the places
  short : (n p : N) → L.up n ≡ Some p → (f : ℕ) → length (chain L.up f (L.up n)) < L.limit
  short n p e f =
      let xs : List N = chain L.up f (L.up n) in
      let h : length (n ∷ xs) ≤ L.limit = hole (n ∷ xs)
      ((s.alive p n e).0, above_live f (L.up n) (λ q d. (s.alive q n d).1))
      (not_above f n, above_apart f (L.up n)) in
      omega (arith, h)

  step_up : (f : ℕ) (n p : N) → L.up n ≡ Some p → length (chain L.up f (L.up n)) < f → length (chain L.up f (L.up n)) ≡ suc (length (chain L.up f (L.up p)))
  unfolding chain
  step_up zero n p e h = absurd (omega arith)
  step_up (suc f) n p e h =
      let q : chain L.up (suc f) (L.up n) ≡ p ∷ chain L.up f (L.up p) = ap (chain L.up (suc f)) e in
      let k = ap length q in
      let m : length (chain L.up f (L.up p)) < f = omega (arith, k, h) in
      let t = ap length (spare L.up f (L.up p) m) in
      omega (arith, k, t)

  deep : (n p : N) → L.up n ≡ Some p → depth L n ≡ suc (depth L p)
  unfolding depth
  deep n p e = step_up L.limit n p e (short n p e L.limit)

  pub sound : Regular L
  sound = record { kid = kid; sibling = sib; deep = deep; high = high_any L }

-- the configuration turns some of the lists
linked_cong : {N : Type 0} (g h : N → Option N) (o : Option N) (xs : List N) → ((x : N) → In x xs → g x ≡ h x) → Linked g o xs → Linked h o xs
linked_cong g h o [] e l = l
linked_cong g h o (x ∷ xs) e l = (l.0, subst (λ q. Linked h q xs) (e x (inl refl)) (linked_cong g h (g x) xs (λ y i. e y (inr i)) l.1))

turned_in : {N : Type 0} (b : Bool) (x : N) (xs : List N) → In x (turned b xs) → In x xs
turned_in true x xs i = in_reverse x xs i
turned_in false x xs i = i

pub in_turned : {N : Type 0} (b : Bool) (x : N) (xs : List N) → In x xs → In x (turned b xs)
in_turned true x xs i = reverse_in x xs i
in_turned false x xs i = i

pub turned_apart : {N : Type 0} (b : Bool) (xs : List N) → Apart xs → Apart (turned b xs)
turned_apart true xs a = apart_reverse xs a
turned_apart false xs a = a

module _ {N : Type 0} (R : Raw N) (k : Reading N) (agrees : Agrees R k) (t : Tree R) where
  linked_turned : (p : N) (b : Bool) → k.turn_in p ≡ b → Linked (λ n. cond (k.turn_on n) (R.prev n) (R.next n)) (cond b (R.last p) (R.first p)) (turned b (t.children p))
  linked_turned p true e = linked_cong R.prev (λ n. cond (k.turn_on n) (R.prev n) (R.next n)) (R.last p) (reverse (t.children p))
      (λ x i. ap (λ b. cond b (R.prev x) (R.next x)) (sym (agrees p x (t.family.parent p x (in_reverse x (t.children p) i)) ∙ e))) (t.family.back p)
  linked_turned p false e = linked_cong R.next (λ n. cond (k.turn_on n) (R.prev n) (R.next n)) (R.first p) (t.children p)
      (λ x i. ap (λ b. cond b (R.prev x) (R.next x)) (sym (agrees p x (t.family.parent p x i) ∙ e))) (t.family.forth p)

  pub shape : Shape (read R k) (ways k t.children) R.live R.place
  unfolding read
  shape = record {
    linked = λ p. linked_turned p (k.turn_in p) refl;
    apart = λ p. turned_apart (k.turn_in p) (t.children p) (t.family.apart p);
    parent = λ p c i. t.family.parent p c (turned_in (k.turn_in p) c (t.children p) i);
    listed = λ p c e. in_turned (k.turn_in p) c (t.children p) (t.family.listed p c e);
    alive = t.family.alive;
    placed = t.family.placed;
    sole = t.family.sole;
    ends = t.ends;
  }

  pub tree_sound : Regular (read R k)
  tree_sound = sound (read R k) (ways k t.children) R.live R.place shape
