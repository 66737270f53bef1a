-- Climbing from node to parent: it ends, and edits keep that it ends. Assumes nothing.
use Rattle.std.proofs.Common.{◌≡◌, ℕ, suc, ◌<◌, ◌⊎◌, Some, None, Option, refl, ap, ◌∙◌, subst, ap₂, ⊎_elim, arith}
use mathlib.Core.HLevel.{Π_prop, Discrete, hedberg, ⊥_prop}
use mathlib.Core.Logic.{∥∥₁_elim, ∥∥₁_map}
use Rattle.trees.specs.Climbs.{Ends, root, child, Within, self, below, Acyclic, ContainsItself}

module _ {N : Type 0} where
  module _ (same : (a b : N) → (a ≡ b) ⊎ (a ≡ b → ⊥)) where
    option_discrete : Discrete (Option N)
    option_discrete None None = yes refl
    option_discrete None (Some y) = no (λ e. cc)
    option_discrete (Some x) None = no (λ e. cc)
    option_discrete (Some x) (Some y) = ⊎_elim (λ e. yes (ap Some e)) (λ ne. no (λ e. ne (cc))) (same x y)

    pub option_set : IsSet (Option N)
    option_set = hedberg option_discrete

  module _ (p : N → Option N) where
    -- what lies inside a node lies inside the node's parent too
    wider : (n m k : N) → p n ≡ Some k → Within p n m → Within p k m
    wider n m k e (self s) = below k (ap p s ∙ e) (self refl)
    wider n m k e (below j f w) = below j f (wider n j k e w)

    -- the parent of a node that contains itself contains itself
    around : (n k : N) → p n ≡ Some k → ((m : N) → p k ≡ Some m → Within p k m → ⊥) → Within p n k → ⊥
    around n k e up (self s) = up k (ap p s ∙ e) (self refl)
    around n k e up (below j g v) = up j g (wider n j k e v)

    none_inside : (n : N) → Ends p n → (m : N) → p n ≡ Some m → Within p n m → ⊥
    none_inside n (root e) m f w = cc
    none_inside n (child k e x) m f w = around n k e (none_inside k x) (subst (λ (z : N). Within p n z) (cc) w)

    -- what lies inside n lies, one step up, inside n too
    pub inside_up : (n m k : N) → p m ≡ Some k → (m ≡ n → ⊥) → Within p n m → Within p n k
    inside_up n m k e ne (self s) = absurd (ne s)
    inside_up n m k e ne (below j f w) = subst (λ (z : N). Within p n z) (cc) w

    -- a node without a parent lies inside itself alone
    pub inside_root : (n m : N) → p m ≡ None → Within p n m → m ≡ n
    inside_root n m e (self s) = s
    inside_root n m e (below j f w) = absurd (cc)

    module _ (set : IsSet (Option N)) where
      same_child : (n m : N) (e : p n ≡ Some m) (x : Ends p m) → ((z : Ends p m) → x ≡ z)
          → (k : N) → m ≡ k → (f : p n ≡ Some k) (y : Ends p k) → ◌≡◌ {A = Ends p n} (child m e x) (child k f y)
      same_child n m e x ih k q =
          subst (λ (k : N). (f : p n ≡ Some k) (y : Ends p k) → ◌≡◌ {A = Ends p n} (child m e x) (child k f y)) q
          (λ f y. ap₂ (λ (u : p n ≡ Some m) (v : Ends p m). child m u v) (set _ _ e f) (ih y))

      pub ends_prop : (n : N) (x y : Ends p n) → x ≡ y
      ends_prop n (root e) (root f) = ap (λ (u : p n ≡ None). root u) (set _ _ e f)
      ends_prop n (root e) (child k f y) = absurd (cc)
      ends_prop n (child m e x) (root f) = absurd (cc)
      ends_prop n (child m e x) (child k f y) = same_child n m e x (ends_prop m x) k (cc) f y

      pub all_end : Acyclic p → (n : N) → Ends p n
      all_end a = ∥∥₁_elim a (Π_prop ends_prop) (λ e. e)

  pub height : {p : N → Option N} {n : N} → Ends p n → ℕ
  height (root e) = 0
  height (child m e x) = suc (height x)

  module _ (p : N → Option N) (set : IsSet (Option N)) (a : Acyclic p) where
    -- how far a node is from its root
    abbrev pub depth : N → ℕ
    depth n = height (all_end p set a n)

    above : (n m : N) → p n ≡ Some m → (x : Ends p n) (y : Ends p m) → height x ≡ suc (height y)
    unfolding height
    above n m e (root f) y = absurd (cc)
    above n m e (child k f x) y =
        ap suc (subst (λ (z : N). (x : Ends p z) (y : Ends p m) → height x ≡ height y) (cc)
        (λ x y. ap height (ends_prop p set m x y)) x y)

    -- a parent is nearer to its root
    pub nearer : (n m : N) → p n ≡ Some m → depth m < depth n
    nearer n m e = let h = above n m e (all_end p set a n) (all_end p set a m) in omega arith

  module _ (same : (a b : N) → (a ≡ b) ⊎ (a ≡ b → ⊥)) (p q : N → Option N) (n : N)
      (other : (m : N) → (m ≡ n → ⊥) → q m ≡ p m) where
    -- where n's own climb ends now, so does every climb that ended
    changed_ends : ((m : N) → m ≡ n → Ends q m) → (m : N) → Ends p m → Ends q m
    changed_ends here m (root e) = ⊎_elim (here m) (λ ne. root (other m ne ∙ e)) (same m n)
    changed_ends here m (child k e x) = ⊎_elim (here m) (λ ne. child k (other m ne ∙ e) (changed_ends here k x)) (same m n)

    -- a node that is not inside n ends as it did
    apart_ends : (m : N) → (Within p n m → ⊥) → Ends p m → Ends q m
    apart_ends m out (root e) = root (other m (λ s. out (self s)) ∙ e)
    apart_ends m out (child k e x) = child k (other m (λ s. out (self s)) ∙ e) (apart_ends k (λ w. out (below k e w)) x)

    pub unlink_acyclic : q n ≡ None → Acyclic p → Acyclic q
    unlink_acyclic gone a = ∥∥₁_map a (λ e m. changed_ends (λ k s. root (ap q s ∙ gone)) m (e m))

    pub link_acyclic : (t : N) → q n ≡ Some t → (Within p n t → ⊥) → Acyclic p → Acyclic q
    link_acyclic t to out a = ∥∥₁_map a (λ e m. changed_ends (λ k s. child t (ap q s ∙ to) (apart_ends t out (e t))) m (e m))

  pub not_itself : (p : N → Option N) → Acyclic p → (n : N) → ContainsItself p n → ⊥
  not_itself p a n c = ∥∥₁_elim a ⊥_prop (λ e. none_inside p n (e n) c.above c.parent c.inside)
