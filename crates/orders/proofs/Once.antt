-- Each node that lies below the root is shown exactly once.
use Rattle.std.proofs.Common.{◌≡◌, refl, sym, ap, subst, ◌∙◌, List, [], ◌∷◌, ◌++◌, append-nil, ◌⊎◌, inl, inr, Bool, true, false, ℕ, zero, suc, ◌-◌, arith, Some}
use Rattle.linked_list.specs.Links.{In, Apart}
use Rattle.linked_list.proofs.Lists.{some_same, in_left, in_right, in_parts, apart_join}
use Rattle.trees.specs.Climbs.{Within, self, below}
use Rattle.orders.specs.Places.{Links, depth, kids, flat, before, after, inner, order, Regular, never}
use Rattle.orders.proofs.Climbs.{within_join}
use Rattle.orders.proofs.Lists.{in_all}
use Rattle.orders.proofs.Moves.{kids_up, order_is, within_depth}

pub in_flat : {N : Type 0} (g : N → List N) (x : N) (ns : List N) → In x (flat g ns) → (c : N) × In c ns × In x (g c)
in_flat g x [] i = absurd i
in_flat g x (n ∷ ns) i = elim (in_parts x (g n) (flat g ns) i) [ inl j ↦ (n, inl refl, j) | inr j ↦ (let w = in_flat g x ns j in (w.0, inr w.1, w.2)) ]

pub flat_in : {N : Type 0} (g : N → List N) (x c : N) (ns : List N) → In c ns → In x (g c) → In x (flat g ns)
flat_in g x c [] i j = absurd i
flat_in g x c (n ∷ ns) (inl e) j = in_left x (g n) (flat g ns) (subst (λ y. In x (g y)) e j)
flat_in g x c (n ∷ ns) (inr i) j = in_right x (g n) (flat g ns) (flat_in g x c ns i j)

flat_apart : {N : Type 0} (g : N → List N) (ns : List N) → Apart ns → ((c : N) → In c ns → Apart (g c))
    → ((c d x : N) → In c ns → In d ns → In x (g c) → In x (g d) → c ≡ d) → Apart (flat g ns)
flat_apart g [] a h d = tt
flat_apart g (n ∷ ns) a h d =
    apart_join (g n) (flat g ns) (h n (inl refl)) (flat_apart g ns a.1 (λ c i. h c (inr i)) (λ c e x i j. d c e x (inr i) (inr j)))
    (λ x i j. let w = in_flat g x ns j in a.0 (subst (λ c. In c ns) (sym (d n w.0 x (inl refl) (inr w.1) i w.2)) w.1))

-- what one node's part of the order holds
part_in : {N : Type 0} (b s : Bool) (x n : N) (K : List N) → In x (before b n ++ (inner b s K ++ after b n)) → (x ≡ n) ⊎ In x K
part_in true true x n K (inl e) = inl e
part_in true true x n K (inr i) = absurd i
part_in true false x n K (inl e) = inl e
part_in true false x n K (inr i) = elim (in_parts x K [] i) [ inl j ↦ inr j | inr j ↦ absurd j ]
part_in false s x n K i = elim (in_parts x K (n ∷ []) i) [ inl j ↦ inr j | inr j ↦ elim j [ inl e ↦ inl e | inr z ↦ absurd z ] ]

part_own : {N : Type 0} (b s : Bool) (n : N) (K : List N) → In n (before b n ++ (inner b s K ++ after b n))
part_own true s n K = inl refl
part_own false s n K = in_right n K (n ∷ []) (inl refl)

part_kids : {N : Type 0} (b : Bool) (x n : N) (K : List N) → In x K → In x (before b n ++ (inner b false K ++ after b n))
part_kids true x n K i = inr (in_left x K [] i)
part_kids false x n K i = in_left x K (n ∷ []) i

part_apart : {N : Type 0} (b s : Bool) (n : N) (K : List N) → (In n K → ⊥) → Apart K → Apart (before b n ++ (inner b s K ++ after b n))
part_apart true true n K h a = ((λ z. z), tt)
part_apart true false n K h a = subst (λ l. Apart (n ∷ l)) (sym (append-nil K)) (h, a)
part_apart false s n K h a = apart_join K (n ∷ []) a ((λ z. z), tt) (λ x i j. elim j [ inl e ↦ h (subst (λ y. In y K) e i) | inr z ↦ z ])

module _ {N : Type 0} (L : Links N) (sound : Regular L) (apart : (n : N) → Apart (kids L n)) where
  -- two nodes of one depth have nothing below them in common
  pub one_way : (c d : N) → depth L c ≡ depth L d → (x : N) → Within L.up c x → Within L.up d x → c ≡ d
  one_way c d e x (self s) v = sym s ∙ same d x (let h = ap (depth L) s in omega (arith, e, h)) v
    where
      same : (d x : N) → depth L d ≡ depth L x → Within L.up d x → x ≡ d
      same d x e (self s) = s
      same d x e (below p u v) = absurd (omega (arith, sound.deep x p u, within_depth L sound v, e))
  one_way c d e x (below p u v) (self s) = absurd (let h = ap (depth L) s in omega (arith, sound.deep x p u, within_depth L sound v, e, h))
  one_way c d e x (below p u v) (below q w y) = one_way c d e p v (subst (Within L.up d) (some_same (sym w ∙ u)) y)

  module _ (S : N → Bool) where
    abbrev fuel : N → ℕ
    fuel n = suc L.limit - depth L n

    up_of : (n c : N) → In c (kids L n) → L.up c ≡ Some n
    up_of n c i = in_all (λ x. L.up x ≡ Some n) (kids L n) (kids_up L sound n) c i

    within_at : (f : ℕ) (n : N) → fuel n ≡ f → (x : N) → In x (order L S n) → Within L.up n x
    within_at zero n e x i = absurd (omega (arith, sound.high n))
    within_at (suc f) n e x i =
        elim (part_in (L.early n) (S n) x n (flat (order L S) (kids L n)) (subst (In x) (order_is L sound S n) i)) [
          | inl q ↦ subst (Within L.up n) (sym q) (self refl)
          | inr j ↦ (let w = in_flat (order L S) x (kids L n) j in
              let u = up_of n w.0 w.1 in
              let d : fuel w.0 ≡ f = omega (arith, sound.deep w.0 n u) in
              within_join (below n u (self refl)) (within_at f w.0 d x w.2))
        ]

    -- what is shown lies in the subtree
    pub within : (n x : N) → In x (order L S n) → Within L.up n x
    within n x i = within_at (fuel n) n refl x i

    once_at : (f : ℕ) (n : N) → fuel n ≡ f → Apart (order L S n)
    once_at zero n e = absurd (omega (arith, sound.high n))
    once_at (suc f) n e =
        let K : List N = flat (order L S) (kids L n) in
        subst Apart (sym (order_is L sound S n))
        (part_apart (L.early n) (S n) n K
        (λ i. let w = in_flat (order L S) n (kids L n) i in
        let u = up_of n w.0 w.1 in
        omega (arith, sound.deep w.0 n u, within_depth L sound (within w.0 n w.2)))
        (flat_apart (order L S) (kids L n) (apart n)
        (λ c i. let u = up_of n c i in let d : fuel c ≡ f = omega (arith, sound.deep c n u) in once_at f c d)
        (λ c d x i j p q. let u = up_of n c i in let v = up_of n d j in
        let h : depth L c ≡ depth L d = omega (arith, sound.deep c n u, sound.deep d n v) in
        one_way c d h x (within c x p) (within d x q))))

    -- no node is shown twice
    pub once : (n : N) → Apart (order L S n)
    once n = once_at (fuel n) n refl

  -- each node of the subtree is in the whole order
  module _ (listed : (n c : N) → L.up c ≡ Some n → In c (kids L n)) where
    step_in : (n p x : N) → L.up x ≡ Some p → In p (order L never n) → (f : ℕ) → suc L.limit - depth L n ≡ f → In x (order L never n)
    step_in n p x u i zero e = absurd (omega (arith, sound.high n))
    step_in n p x u i (suc f) e =
        let g : N → List N = order L never in
        let K : List N = flat g (kids L n) in
        subst (In x) (sym (order_is L sound never n))
        (part_kids (L.early n) x n K
        (elim (part_in (L.early n) false p n K (subst (In p) (order_is L sound never n) i)) [
          | inl q ↦ flat_in g x x (kids L n) (listed n x (u ∙ ap Some q)) (subst (In x) (sym (order_is L sound never x)) (part_own (L.early x) false x (flat g (kids L x))))
          | inr j ↦ (let w = in_flat g p (kids L n) j in
              let v = up_of never n w.0 w.1 in
              let d : suc L.limit - depth L w.0 ≡ f = omega (arith, sound.deep w.0 n v) in
              flat_in g x w.0 (kids L n) w.1 (step_in w.0 p x u w.2 f d))
        ]))

    pub all_shown : (n x : N) → Within L.up n x → In x (order L never n)
    all_shown n x (self e) =
        subst (λ (z : N). In z (order L never n)) (sym e)
        (subst (In n) (sym (order_is L sound never n)) (part_own (L.early n) false n (flat (order L never) (kids L n))))
    all_shown n x (below p u v) = step_in n p x u (all_shown n p v) (suc L.limit - depth L n) refl
