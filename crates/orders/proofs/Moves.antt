-- What the order and the rest come to along the links.
use Rattle.std.proofs.Common.{◌≡◌, refl, sym, ap, subst, ◌∙◌, List, [], ◌∷◌, ◌++◌, append_assoc, append-nil, Bool, true, false, ℕ, zero, suc, ◌-◌, ◌≤◌, arith, Some, None, Option}
use Rattle.linked_list.proofs.Lists.{some_same}
use Rattle.trees.specs.Climbs.{Within, self, below}
use Rattle.orders.specs.Places.{Links, chain, depth, kids, siblings, flat, before, after, inner, over, order_at, order, rest_at, rest, Regular}
use Rattle.orders.proofs.Lists.{All}

flat_cong : {N : Type 0} (g h : N → List N) (P : N → Type 0) → ((c : N) → P c → g c ≡ h c) → (xs : List N) → All P xs → flat g xs ≡ flat h xs
flat_cong g h P e [] a = refl
flat_cong g h P e (x ∷ xs) a = ap (λ l. l ++ flat g xs) (e x a.0) ∙ ap (λ l. h x ++ l) (flat_cong g h P e xs a.1)

no_chain : {N : Type 0} (g : N → Option N) (f : ℕ) (o : Option N) → o ≡ None → chain g f o ≡ []
unfolding chain
no_chain g zero o e = refl
no_chain g (suc f) o e = ap (chain g (suc f)) e

module _ {N : Type 0} (L : Links N) (sound : Regular L) where
  chain_up : (p : N) (f : ℕ) (o : Option N) → ((c : N) → o ≡ Some c → L.up c ≡ Some p) → All (λ c. L.up c ≡ Some p) (chain L.next f o)
  unfolding chain
  chain_up p zero o h = tt
  chain_up p (suc f) None h = tt
  chain_up p (suc f) (Some c) h = (h c refl, chain_up p f (L.next c) (λ s e. (sound.sibling c p s (h c refl) e).1))

  pub kids_up : (n : N) → All (λ c. L.up c ≡ Some n) (kids L n)
  unfolding kids
  kids_up n = chain_up n L.limit (L.first n) (λ c e. (sound.kid n c e).1)

  pub no_kids : (n : N) → L.first n ≡ None → kids L n ≡ []
  unfolding kids
  no_kids n e = no_chain L.next L.limit (L.first n) e

  pub no_siblings : (n : N) → L.next n ≡ None → siblings L n ≡ []
  unfolding siblings
  no_siblings n e = no_chain L.next L.limit (L.next n) e

  pub within_depth : {root n : N} → Within L.up root n → depth L root ≤ depth L n
  within_depth {root} {n} (self e) = let h = ap (depth L) e in omega (arith, h)
  within_depth {root} {n} (below p e u) = omega (arith, sound.deep n p e, within_depth u)

  pub parent_is : (root n : N) → Within L.up root n → (n ≡ root → ⊥) → (p : N) × (L.up n ≡ Some p) × Within L.up root p
  parent_is root n (self e) f = absurd (f e)
  parent_is root n (below p e u) f = (p, e, u)

  pub parent_within : (root n p : N) → Within L.up root n → (n ≡ root → ⊥) → L.up n ≡ Some p → Within L.up root p
  parent_within root n p u f e = let w = parent_is root n u f in subst (Within L.up root) (some_same (sym w.1 ∙ e)) w.2

  pub sibling_within : (root n s : N) → Within L.up root n → (n ≡ root → ⊥) → L.next n ≡ Some s → Within L.up root s
  sibling_within root n s u f h = let w = parent_is root n u f in below w.0 (sound.sibling n w.0 s w.1 h).1 w.2

  module _ (S : N → Bool) where
    ord_kids : (n : N) → flat (order_at L S (L.limit - depth L n)) (kids L n) ≡ flat (order L S) (kids L n)
    unfolding order
    ord_kids n = flat_cong _ _ (λ c. L.up c ≡ Some n)
        (λ c e. let q : L.limit - depth L n ≡ suc L.limit - depth L c = omega (arith, sound.deep c n e) in ap (λ k. order_at L S k c) q)
        (kids L n) (kids_up n)

    pub order_is : (n : N) → order L S n ≡ before (L.early n) n ++ (inner (L.early n) (S n) (flat (order L S) (kids L n)) ++ after (L.early n) n)
    unfolding order order_at
    order_is n =
        let q : suc L.limit - depth L n ≡ suc (L.limit - depth L n) = omega (arith, sound.high n) in
        ap (λ k. order_at L S k n) q ∙ ap (λ l. before (L.early n) n ++ (inner (L.early n) (S n) l ++ after (L.early n) n)) (ord_kids n)

    pub rest_root : (root : N) → rest L root S root ≡ []
    unfolding rest rest_at
    rest_root root = let q : depth L root - depth L root ≡ 0 = omega arith in ap (λ d. rest_at L S d root) q

    pub rest_is : (root n p : N) → L.up n ≡ Some p → Within L.up root p → rest L root S n ≡ flat (order L S) (siblings L n) ++ (after (L.early p) p ++ rest L root S p)
    unfolding rest rest_at
    rest_is root n p e u =
        let q : depth L n - depth L root ≡ suc (depth L p - depth L root) = omega (arith, sound.deep n p e, within_depth u) in
        ap (λ d. rest_at L S d n) q
        ∙ ap (λ o. flat (order L S) (siblings L n) ++ over o (λ q. after (L.early q) q ++ rest_at L S (depth L p - depth L root) q)) e

    -- into the first child
    pub to_kid : (root n c : N) → Within L.up root n → L.first n ≡ Some c
        → flat (order L S) (kids L n) ++ (after (L.early n) n ++ rest L root S n) ≡ order L S c ++ rest L root S c
    to_kid root n c u e =
        let T : List N = after (L.early n) n ++ rest L root S n in
        ap (λ l. flat (order L S) l ++ T) (sound.kid n c e).0
        ∙ append_assoc (order L S c) (flat (order L S) (siblings L c)) T
        ∙ ap (λ l. order L S c ++ l) (sym (rest_is root c n (sound.kid n c e).1 u))

    -- to the next sibling
    pub to_sibling : (root n s p : N) → L.up n ≡ Some p → Within L.up root p → L.next n ≡ Some s
        → rest L root S n ≡ order L S s ++ rest L root S s
    to_sibling root n s p e u h =
        let T : List N = after (L.early p) p ++ rest L root S p in
        let w = sound.sibling n p s e h in
        rest_is root n p e u
        ∙ ap (λ l. flat (order L S) l ++ T) w.0
        ∙ append_assoc (order L S s) (flat (order L S) (siblings L s)) T
        ∙ ap (λ l. order L S s ++ l) (sym (rest_is root s p w.1 u))

    -- out to the parent
    pub to_parent : (root n p : N) → L.up n ≡ Some p → Within L.up root p → L.next n ≡ None
        → rest L root S n ≡ after (L.early p) p ++ rest L root S p
    to_parent root n p e u h =
        rest_is root n p e u ∙ ap (λ l. flat (order L S) l ++ (after (L.early p) p ++ rest L root S p)) (no_siblings n h)

    pub down_early : (root n : N) → L.early n ≡ true
        → order L S n ++ rest L root S n ≡ n ∷ (inner true (S n) (flat (order L S) (kids L n)) ++ rest L root S n)
    down_early root n e =
        let K : List N = flat (order L S) (kids L n) in
        ap (λ l. l ++ rest L root S n) (order_is n ∙ ap (λ b. before b n ++ (inner b (S n) K ++ after b n)) e)
        ∙ ap (λ l. n ∷ (l ++ rest L root S n)) (append-nil (inner true (S n) K))

    late : (root n : N) → L.early n ≡ false
        → order L S n ++ rest L root S n ≡ flat (order L S) (kids L n) ++ (after (L.early n) n ++ rest L root S n)
    late root n e =
        let K : List N = flat (order L S) (kids L n) in
        let R : List N = rest L root S n in
        ap (λ l. l ++ R) (order_is n ∙ ap (λ b. before b n ++ (inner b (S n) K ++ after b n)) e)
        ∙ append_assoc K (n ∷ []) R
        ∙ ap (λ b. K ++ (after b n ++ R)) (sym e)

    pub down_kid : (root n c : N) → Within L.up root n → L.early n ≡ false → L.first n ≡ Some c
        → order L S n ++ rest L root S n ≡ order L S c ++ rest L root S c
    down_kid root n c u e h = late root n e ∙ to_kid root n c u h

    pub down_leaf : (root n : N) → L.early n ≡ false → L.first n ≡ None
        → order L S n ++ rest L root S n ≡ n ∷ rest L root S n
    down_leaf root n e h =
        late root n e
        ∙ ap (λ l. flat (order L S) l ++ (after (L.early n) n ++ rest L root S n)) (no_kids n h)
        ∙ ap (λ b. after b n ++ rest L root S n) e

    pub up_sibling : (root n s : N) → Within L.up root n → (n ≡ root → ⊥) → L.next n ≡ Some s → rest L root S n ≡ order L S s ++ rest L root S s
    up_sibling root n s u f h = let w = parent_is root n u f in to_sibling root n s w.0 w.1 w.2 h

    pub up_early : (root n p : N) → Within L.up root n → (n ≡ root → ⊥) → L.up n ≡ Some p → L.next n ≡ None → L.early p ≡ true → rest L root S n ≡ rest L root S p
    up_early root n p u f e h q = to_parent root n p e (parent_within root n p u f e) h ∙ ap (λ b. after b p ++ rest L root S p) q

    pub up_late : (root n p : N) → Within L.up root n → (n ≡ root → ⊥) → L.up n ≡ Some p → L.next n ≡ None → L.early p ≡ false → rest L root S n ≡ p ∷ rest L root S p
    up_late root n p u f e h q = to_parent root n p e (parent_within root n p u f e) h ∙ ap (λ b. after b p ++ rest L root S p) q

    pub early_kid : (root n c : N) → Within L.up root n → L.early n ≡ true → L.first n ≡ Some c
        → flat (order L S) (kids L n) ++ rest L root S n ≡ order L S c ++ rest L root S c
    early_kid root n c u e h = ap (λ b. flat (order L S) (kids L n) ++ (after b n ++ rest L root S n)) (sym e) ∙ to_kid root n c u h

    pub early_leaf : (root n : N) → L.first n ≡ None → flat (order L S) (kids L n) ++ rest L root S n ≡ rest L root S n
    early_leaf root n h = ap (λ l. flat (order L S) l ++ rest L root S n) (no_kids n h)
