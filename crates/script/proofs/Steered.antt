-- Where the answers are given by the nodes alone, a walk has one log.
use Rattle.std.proofs.Common.{◌≡◌, List, [], ◌∷◌, ◌++◌, ◌⊎◌, Bool, true, false, true≢false, Some, Option, sym, refl, ap, ap₂, ◌∙◌, subst, inl, inr, append_assoc}
use Rattle.linked_list.specs.Links.{Apart, In}
use Rattle.linked_list.proofs.Lists.{in_left, in_parts, in_right}
use Rattle.trees.specs.Climbs.{Within, self, below}
use Rattle.orders.specs.declared.walk_result.WalkResult.{WalkResult}
use Rattle.orders.specs.declared.walk_result.WalkResult.TheVariants.{Advance, Skip, Break}
use Rattle.orders.specs.Order.{Inside, Less, Orders, done, drop, first, keep, last, none}
use Rattle.orders.specs.Logs.{Ending, GoesOn, Hidden, Shown, Unbroken, Walked, broken, ended, nodes, shown}
use Rattle.orders.proofs.Logs.{seen_once}
use Rattle.orders.proofs.Orders.{one}

-- by stands before x in the list
abbrev Before : {N : Type 0} → N → N → List N → Type 0
Before b x [] = ⊥
Before b x (y ∷ ys) = ((b ≡ y) × In x ys) ⊎ Before b x ys

before_left : {N : Type 0} (b x : N) (xs ys : List N) → Before b x xs → Before b x (xs ++ ys)
before_left b x [] ys h = absurd h
before_left b x (z ∷ zs) ys (inl e) = inl (e.0, in_left x zs ys e.1)
before_left b x (z ∷ zs) ys (inr h) = inr (before_left b x zs ys h)

before_right : {N : Type 0} (b x : N) (xs ys : List N) → Before b x ys → Before b x (xs ++ ys)
before_right b x [] ys h = h
before_right b x (z ∷ zs) ys h = inr (before_right b x zs ys h)

before_in : {N : Type 0} (b x : N) (xs : List N) → Before b x xs → In x xs
before_in b x [] h = absurd h
before_in b x (y ∷ ys) (inl e) = inr e.1
before_in b x (y ∷ ys) (inr h) = inr (before_in b x ys h)

-- what stands before x stands in the part before it
before_split : {N : Type 0} (b x : N) (xs ys : List N) → Apart (xs ++ (x ∷ ys)) → Before b x (xs ++ (x ∷ ys)) → In b xs
before_split b x [] ys a (inl e) = absurd (a.0 e.1)
before_split b x [] ys a (inr h) = absurd (a.0 (before_in b x ys h))
before_split b x (z ∷ zs) ys a (inl e) = inl e.0
before_split b x (z ∷ zs) ys a (inr h) = inr (before_split b x zs ys a.1 h)

both : {b : Bool} → b ≡ true → b ≡ false → ⊥
both p q = true≢false (sym p ∙ q)

no_cons : {N : Type 0} {x : N} {xs : List N} → [] ≡ x ∷ xs → ⊥
no_cons e = cc

heads : {N : Type 0} {x y : N} {xs ys : List N} → x ∷ xs ≡ y ∷ ys → x ≡ y
heads e = cc

tails : {N : Type 0} {x y : N} {xs ys : List N} → x ∷ xs ≡ y ∷ ys → xs ≡ ys
tails e = cc

module _ {N : Type 0} (p : N → Option N) (early : N → Bool) (children : N → List N) (listed : (n c : N) → p c ≡ Some n → In c (children n)) where
  -- the order holds the nodes that it is the order of, and with a node its children
  holds : {ns xs : List N} → Orders early children ns xs → (c : N) → In c ns → In c xs
  holds none c i = i
  holds (first e k t) c (inl q) = inl q
  holds (first {xs = us} {ys = vs} e k t) c (inr i) = inr (in_right c us vs (holds t c i))
  holds (last {n} {xs = us} {ys = vs} e k t) c (inl q) = in_right c us (n ∷ vs) (inl q)
  holds (last {n} {xs = us} {ys = vs} e k t) c (inr i) = in_right c us (n ∷ vs) (inr (holds t c i))

  deeper : {ns xs : List N} → Orders early children ns xs → (x c : N) → In x xs → In c (children x) → In c xs
  deeper none x c i j = absurd i
  deeper (first {xs = us} {ys = vs} e k t) x c (inl q) j = inr (in_left c us vs (holds k c (subst (λ m. In c (children m)) q j)))
  deeper (first {xs = us} {ys = vs} e k t) x c (inr i) j =
      elim (in_parts x us vs i) [
        | inl l ↦ inr (in_left c us vs (deeper k x c l j))
        | inr r ↦ inr (in_right c us vs (deeper t x c r j))
      ]
  deeper (last {n} {xs = us} {ys = vs} e k t) x c i j =
      elim (in_parts x us (n ∷ vs) i) [
        | inl l ↦ in_left c us (n ∷ vs) (deeper k x c l j)
        | inr r ↦ elim r [
          | inl q ↦ in_left c us (n ∷ vs) (holds k c (subst (λ m. In c (children m)) q j))
          | inr z ↦ in_right c us (n ∷ vs) (inr (deeper t x c z j))
        ]
      ]

  -- what lies below a node is in the order of its children
  under : {n : N} {xs : List N} → Orders early children (children n) xs → {a : N} → Within p n a → (x : N) → p x ≡ Some a → In x xs
  under {n} k {a} (self s) x u = holds k x (listed n x (u ∙ ap Some s))
  under k {a} (below m u w) x v = deeper k a x (under k w a u) (listed a x v)

  -- an early node stands before what lies below it
  precedes : {ns xs : List N} → Orders early children ns xs → (b x : N) → In b xs → early b ≡ true → Inside p b x → Before b x xs
  precedes none b x i e w = absurd i
  precedes (first {xs = us} {ys = vs} f k t) b x (inl q) e w =
      inl (q, in_left x us vs (under k (subst (λ m. Within p m w.above) q w.under) x w.parent))
  precedes (first {xs = us} {ys = vs} f k t) b x (inr i) e w =
      elim (in_parts b us vs i) [
        | inl l ↦ inr (before_left b x us vs (precedes k b x l e w))
        | inr r ↦ inr (before_right b x us vs (precedes t b x r e w))
      ]
  precedes (last {n} {xs = us} {ys = vs} f k t) b x i e w =
      elim (in_parts b us (n ∷ vs) i) [
        | inl l ↦ before_left b x us (n ∷ vs) (precedes k b x l e w)
        | inr r ↦ elim r [
          | inl q ↦ absurd (both (ap early (sym q) ∙ e) f)
          | inr z ↦ before_right b x us (n ∷ vs) (inr (precedes t b x z e w))
        ]
      ]

  module _ {B : Type 0} (answer : N → WalkResult B) where
    -- each node of the log was answered so
    abbrev pub Told : List (Shown N B) → Type 0
    Told [] = Unit {0}
    Told (s ∷ log) = (s.answer ≡ answer s.node) × Told log

    -- what is left of a log, where the nodes of less are left to show
    abbrev Coming : List (Shown N B) → List N → WalkResult B → Type 0
    Coming [] less r = (less ≡ []) × (r ≡ Advance)
    Coming (s ∷ log) less r =
        (rest : List N) × (less ≡ s.node ∷ rest) × ((GoesOn s.answer × Coming log rest r) ⊎ ((b : B) × (s.answer ≡ Break b) × (log ≡ []) × (r ≡ Break b)))

    all_come : (log : List (Shown N B)) (less : List N) → Unbroken log → nodes log ≡ less → Coming log less Advance
    all_come [] less u e = (sym e, refl)
    all_come (s ∷ log) less u e = (nodes log, sym e, inl (u.0, all_come log (nodes log) u.1 refl))

    some_come : (before log : List (Shown N B)) (n : N) (b : B) (rest less : List N) → log ≡ before ++ (shown n (Break b) ∷ []) → Unbroken before → nodes log ++ rest ≡ less → Coming log less (Break b)
    some_come [] log n b rest less l u e =
        subst (λ (k : List (Shown N B)). Coming k less (Break b)) (sym l) (rest, sym e ∙ ap (λ (k : List (Shown N B)). nodes k ++ rest) l, inr (b, refl, refl, refl))
    some_come (s ∷ before) log n b rest less l u e =
        subst (λ (k : List (Shown N B)). Coming k less (Break b)) (sym l) (
          nodes (before ++ (shown n (Break b) ∷ [])) ++ rest,
          sym e ∙ ap (λ (k : List (Shown N B)). nodes k ++ rest) l,
          inl (u.0, some_come before (before ++ (shown n (Break b) ∷ [])) n b rest (nodes (before ++ (shown n (Break b) ∷ [])) ++ rest) refl u.1 refl),
        )

    comes : (log : List (Shown N B)) (less : List N) (r : WalkResult B) → Ending log less r → Coming log less r
    comes log less r (ended u e) = all_come log less u e
    comes log less r (broken before n b rest l u e) = some_come before log n b rest less l u e

    told_skip : (log : List (Shown N B)) → Told log → (n : N) → In (shown n Skip) log → (answer n ≡ Skip) × In n (nodes log)
    told_skip [] t n i = absurd i
    told_skip (s ∷ log) t n (inl e) =
        (ap answer (ap (λ (x : Shown N B). x.node) e) ∙ sym t.0 ∙ sym (ap (λ (x : Shown N B). x.answer) e), inl (ap (λ (x : Shown N B). x.node) e))
    told_skip (s ∷ log) t n (inr i) = let w = told_skip log t.1 n i in (w.0, inr w.1)

    skip_told : (log : List (Shown N B)) → Told log → (n : N) → answer n ≡ Skip → In n (nodes log) → In (shown n Skip) log
    skip_told [] t n e i = absurd i
    skip_told (s ∷ log) t n e (inl q) = inl (ap₂ (λ (x : N) (a : WalkResult B). shown x a) q (sym e ∙ ap answer q ∙ sym t.0))
    skip_told (s ∷ log) t n e (inr i) = inr (skip_told log t.1 n e i)

    stops : (a : WalkResult B) (b : B) → GoesOn a → a ≡ Break b → ⊥
    stops Advance b g e = cc
    stops Skip b g e = cc
    stops (Break c) b g e = g

    -- a node that one log hides is hidden by the other, where the two show the same nodes before it
    hidden_too : (log log' : List (Shown N B)) → Told log → Told log' → (W xs ys : List N) (x : N) → Orders early children W (xs ++ (x ∷ ys)) → Apart (xs ++ (x ∷ ys))
        → ((b : N) → In b (nodes log') → In b (xs ++ (x ∷ ys))) → ((b : N) → In b xs → In b (nodes log') → In b (nodes log)) → Hidden p early log' x → Hidden p early log x
    hidden_too log log' t t' W xs ys x o a all agree h =
        let w = told_skip log' t' h.by h.skipped in
        let i = before_split h.by x xs ys a (precedes o h.by x (all h.by w.1) h.first h.inside) in
        record { by = h.by; first = h.first; skipped = skip_told log t h.by w.0 (agree h.by i w.1); inside = h.inside }

    module _ (log log' : List (Shown N B)) (t : Told log) (t' : Told log') (root whole : List N) (o : Orders early children root whole) (apart : Apart whole)
        (all : (b : N) → In b (nodes log) → In b whole) (all' : (b : N) → In b (nodes log') → In b whole)
        (seen : (x : N) → In x (nodes log) → Hidden p early log x → ⊥) (seen' : (x : N) → In x (nodes log') → Hidden p early log' x → ⊥) where
      abbrev Kept : N → Type 0
      Kept x = Hidden p early log x → ⊥

      abbrev Kept' : N → Type 0
      Kept' x = Hidden p early log' x → ⊥

      -- the two logs show the same of these nodes
      abbrev Agree : List N → Type 0
      Agree xs = (b : N) → In b xs → (In b (nodes log) → In b (nodes log')) × (In b (nodes log') → In b (nodes log))

      agree_more : (xs : List N) (x : N) → Agree xs → (In x (nodes log) → In x (nodes log')) × (In x (nodes log') → In x (nodes log)) → Agree (xs ++ (x ∷ []))
      agree_more xs x a h b i =
          elim (in_parts b xs (x ∷ []) i) [
            | inl l ↦ a b l
            | inr r ↦ elim r [
              | inl q ↦ subst (λ y. (In y (nodes log) → In y (nodes log')) × (In y (nodes log') → In y (nodes log))) (sym q) h
              | inr z ↦ absurd z
            ]
          ]

      hides : (xs ys : List N) (x : N) → whole ≡ xs ++ (x ∷ ys) → Agree xs → Hidden p early log' x → Hidden p early log x
      hides xs ys x e a h = hidden_too log log' t t' root xs ys x (subst (Orders early children root) e o) (subst Apart e apart) (λ b i. subst (In b) e (all' b i)) (λ b i. (a b i).1) h

      hides' : (xs ys : List N) (x : N) → whole ≡ xs ++ (x ∷ ys) → Agree xs → Hidden p early log x → Hidden p early log' x
      hides' xs ys x e a h = hidden_too log' log t' t root xs ys x (subst (Orders early children root) e o) (subst Apart e apart) (λ b i. subst (In b) e (all b i)) (λ b i. (a b i).0) h

      abbrev Part : List (Shown N B) → List (Shown N B) → Type 0
      Part l m = Told l × ((x : N) → In x (nodes l) → In x (nodes m))

      same_from : (xs zs : List N) → whole ≡ xs ++ zs → Agree xs → {us vs : List N} → Less Kept zs us → Less Kept' zs vs → (l m : List (Shown N B)) (r q : WalkResult B)
          → Part l log → Part m log' → Coming l us r → Coming m vs q → (l ≡ m) × (r ≡ q)
      same_from xs zs e a done done [] [] r q u v c d = (refl, c.1 ∙ sym d.1)
      same_from xs zs e a done done (s ∷ l) m r q u v c d = absurd (no_cons c.1)
      same_from xs zs e a done done [] (s ∷ m) r q u v c d = absurd (no_cons d.1)
      same_from xs zs e a (keep h k) (keep h' k') [] m r q u v c d = absurd (no_cons (sym c.0))
      same_from xs zs e a (keep h k) (keep h' k') (s ∷ l) [] r q u v c d = absurd (no_cons (sym d.0))
      same_from xs zs e a (keep {x} {xs = ys} h k) (keep h' k') (s ∷ l) (s' ∷ m) r q u v c d =
          let here : x ≡ s.node = heads c.1 in
          let there : x ≡ s'.node = heads d.1 in
          let answers : s.answer ≡ s'.answer = u.0.0 ∙ ap answer (sym here ∙ there) ∙ sym v.0.0 in
          let shows : s ≡ s' = ap₂ (λ (y : N) (b : WalkResult B). shown y b) (sym here ∙ there) answers in
          elim c.2 [
            | inl g ↦ elim d.2 [
              | inl f ↦ (let more = same_from (xs ++ (x ∷ [])) ys (e ∙ sym (append_assoc xs (x ∷ []) ys)) (agree_more xs x a ((λ i. v.1 x (inl there)), (λ i. u.1 x (inl here)))) k k' l m r q
                  (u.0.1, (λ y i. u.1 y (inr i))) (v.0.1, (λ y i. v.1 y (inr i))) (subst (λ z. Coming l z r) (sym (tails c.1)) g.1) (subst (λ z. Coming m z q) (sym (tails d.1)) f.1) in
                  (ap₂ (λ (y : Shown N B) (ys : List (Shown N B)). y ∷ ys) shows more.0, more.1))
              | inr f ↦ absurd (stops s.answer f.0 g.0 (answers ∙ f.1))
            ]
            | inr g ↦ elim d.2 [
              | inl f ↦ absurd (stops s'.answer g.0 f.0 (sym answers ∙ g.1))
              | inr f ↦ (ap₂ (λ (y : Shown N B) (ys : List (Shown N B)). y ∷ ys) shows (g.2 ∙ sym f.2), g.3 ∙ sym g.1 ∙ answers ∙ f.1 ∙ sym f.3)
            ]
          ]
      same_from xs zs e a (keep {x} {xs = ys} h k) (drop h' k') l m r q u v c d = absurd (h' (λ g. h (hides xs ys x e a g)))
      same_from xs zs e a (drop {x} {xs = ys} h k) (keep h' k') l m r q u v c d = absurd (h (λ g. h' (hides' xs ys x e a g)))
      same_from xs zs e a (drop {x} {xs = ys} h k) (drop h' k') l m r q u v c d =
          same_from (xs ++ (x ∷ [])) ys (e ∙ sym (append_assoc xs (x ∷ []) ys)) (agree_more xs x a ((λ i. absurd (h (seen x i))), (λ i. absurd (h' (seen' x i))))) k k' l m r q u v c d

    -- a walk has one log, and says one thing
    pub one_log : (root : N) (log log' : List (Shown N B)) (r q : WalkResult B) → Told log → Told log' → Walked p early children root log r → Walked p early children root log' q → (log ≡ log') × (r ≡ q)
    one_log root log log' r q t t' w w' =
        let s = seen_once p early children root log r w in
        let s' = seen_once p early children root log' q w' in
        let same = one w'.is_whole.order w.is_whole.order in
        same_from log log' t t' (root ∷ []) w.whole w.is_whole.order w.is_whole.once (λ b i. w.is_whole.all b (s.within b i)) (λ b i. w.is_whole.all b (s'.within b i)) s.hidden s'.hidden
        [] w.whole refl (λ b i. absurd i) w.cut (subst (λ (z : List N). Less (λ x. Hidden p early log' x → ⊥) z w'.less) same w'.cut) log log' r q (t, (λ x i. i)) (t', (λ x i. i)) (comes log w.less r w.ending) (comes log' w'.less q w'.ending)
