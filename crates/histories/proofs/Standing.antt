-- Where a node stands, by the lists that links describe: for any kind of node and container. Assumes nothing.
use Rattle.std.proofs.Common.{◌≡◌, Bool, true, false, ◌⊎◌, List, [], ◌∷◌, is_some, Some, None, Option, sym, refl, ap, ◌∙◌, subst, inl, inr, ⊎_elim}
use Rattle.linked_list.specs.declared.spot.Spot.{Spot}
use Rattle.linked_list.specs.declared.spot.Spot.TheVariants.{AtFront, AtBack, Before, After}
use Rattle.linked_list.specs.Edits.{spot_in, spot_live}
use Rattle.linked_list.specs.Links.{Holds, In, View}
use Rattle.linked_list.proofs.Lists.{none_some, run_live, run_within, some_same}
use Rattle.records.specs.Nodes.{is}
use Rattle.forest.proofs.Listed.{clash, decide}
use Rattle.histories.specs.Calls.{SpotGone, SpotWhere, Standing}
use Rattle.histories.specs.Ledgers.{SpotIn, listed}

-- what is not there, and what is
pub none_is : {X : Type 0} (o : Option X) → is_some o ≡ false → o ≡ None
none_is None e = refl
none_is (Some x) e = absurd (clash e)

pub some_is : {X : Type 0} (o : Option X) → is_some o ≡ true → (x : X) × (o ≡ Some x)
some_is None e = absurd (clash (sym e))
some_is (Some x) e = (x, refl)

-- a test of what may be there
pub is_there : {X : Type 0} (p : X → Bool) (o : Option X) → is p o ≡ true → (x : X) × (o ≡ Some x) × (p x ≡ true)
is_there p None e = absurd (clash (sym e))
is_there p (Some x) e = (x, refl, e)

pub there_is : {X : Type 0} (p : X → Bool) (o : Option X) (x : X) → o ≡ Some x → p x ≡ true → is p o ≡ true
there_is p o x e t = ap (is p) e ∙ t

-- where equality can be decided, so can whether a node is in a list
pub in_or_not : {X : Type 0} → ((a b : X) → (a ≡ b) ⊎ (a ≡ b → ⊥)) → (x : X) (xs : List X) → In x xs ⊎ (In x xs → ⊥)
in_or_not same x [] = inr (λ i. i)
in_or_not same x (y ∷ ys) =
    ⊎_elim (λ e. inl (inl e))
    (λ ne. ⊎_elim (λ i. inl (inr i)) (λ out. inr (λ i. elim i [ inl e ↦ ne e | inr j ↦ out j ])) (in_or_not same x ys)) (same x y)

module _ {N C : Type 0} (v : View N C) (f : C → Option (List N)) (held : (c : C) → is_some (f c) ≡ v.held c)
    (h : Holds v (λ c. listed (f c))) (blank : (n : N) → v.live n ≡ false → v.within n ≡ None) where
  abbrev lists : C → List N
  lists c = listed (f c)

  nothing : (c : C) → v.held c ≡ false → (n : N) → In n (lists c) → ⊥
  nothing c d n i = subst (λ (o : Option (List N)). In n (listed o)) (none_is (f c) (held c ∙ d)) i

  pub in_held : (n : N) (c : C) → In n (lists c) → v.held c ≡ true
  in_held n c i = ⊎_elim (λ k. k) (λ d. absurd (nothing c d n i)) (decide (v.held c))

  pub in_within : (n : N) (c : C) → In n (lists c) → v.within n ≡ Some c
  in_within n c i = run_within v c None (lists c) None (h.chains c (in_held n c i)).run n i

  pub in_live : (n : N) (c : C) → In n (lists c) → v.live n ≡ true
  in_live n c i = run_live v c None (lists c) None (h.chains c (in_held n c i)).run n i

  pub within_in : (n : N) (c : C) → v.within n ≡ Some c → In n (lists c)
  within_in n c e = ⊎_elim (λ l. (h.listed n c l e).1) (λ d. absurd (none_some (sym (blank n d) ∙ e))) (decide (v.live n))

  -- a node stands in a container, or in none
  pub stands : (n : N) → is_some (v.within n) ≡ true → Standing lists n
  stands n e = let w = some_is (v.within n) e in (w.0, within_in n w.0 w.1)

  pub stood : (n : N) → Standing lists n → is_some (v.within n) ≡ true
  stood n w = ap is_some (in_within n w.0 w.1)

  pub alone : (n : N) → v.within n ≡ None → Standing lists n → ⊥
  alone n e w = none_some (sym e ∙ in_within n w.0 w.1)

  pub not_alone : (n : N) → (Standing lists n → ⊥) → v.within n ≡ None
  not_alone n out = none_is (v.within n) (⊎_elim (λ t. absurd (out (stands n t))) (λ d. d) (decide (is_some (v.within n))))

  -- a spot lies in a container, or in none
  pub spot_into : (spot : Spot N C) (c : C) → SpotIn lists spot c → spot_in v spot ≡ Some c
  spot_into (AtFront d) c e = ap Some (sym e)
  spot_into (AtBack d) c e = ap Some (sym e)
  spot_into (Before mark) c i = in_within mark c i
  spot_into (After mark) c i = in_within mark c i

  pub into_spot : (spot : Spot N C) (c : C) → spot_in v spot ≡ Some c → SpotIn lists spot c
  into_spot (AtFront d) c e = sym (some_same e)
  into_spot (AtBack d) c e = sym (some_same e)
  into_spot (Before mark) c e = within_in mark c e
  into_spot (After mark) c e = within_in mark c e

  pub nowhere : (spot : Spot N C) → spot_in v spot ≡ None → ((c : C) × SpotIn lists spot c) → ⊥
  nowhere spot e w = none_some (sym e ∙ spot_into spot w.0 w.1)

  pub not_somewhere : (spot : Spot N C) → (((c : C) × SpotIn lists spot c) → ⊥) → spot_in v spot ≡ None
  not_somewhere spot out =
      none_is (spot_in v spot)
      (⊎_elim (λ t. let w = some_is (spot_in v spot) t in absurd (out (w.0, into_spot spot w.0 w.1))) (λ d. d) (decide (is_some (spot_in v spot))))

  -- a test of the container
  module _ (p : C → Bool) (P : C → Type 0) (to : (c : C) → p c ≡ true → P c) (from : (c : C) → P c → p c ≡ true) where
    pub spot_where : (spot : Spot N C) → is p (spot_in v spot) ≡ true → SpotWhere lists P spot
    spot_where spot e = let w = is_there p (spot_in v spot) e in (w.0, into_spot spot w.0 w.1, to w.0 w.2)

    pub where_spot : (spot : Spot N C) → SpotWhere lists P spot → is p (spot_in v spot) ≡ true
    where_spot spot w = there_is p (spot_in v spot) w.0 (spot_into spot w.0 w.1) (from w.0 w.2)

    pub within_where : (n : N) → is p (v.within n) ≡ true → (c : C) × In n (lists c) × P c
    within_where n e = let w = is_there p (v.within n) e in (w.0, within_in n w.0 w.1, to w.0 w.2)

    pub where_within : (n : N) → ((c : C) × In n (lists c) × P c) → is p (v.within n) ≡ true
    where_within n w = there_is p (v.within n) w.0 (in_within n w.0 w.1) (from w.0 w.2)

-- what a spot names is dead, in the store's words and in others
module _ {N C : Type 0} (v : View N C) (P : N → Type 0) (Q : C → Type 0) where
  pub spot_gone : ((n : N) → v.live n ≡ false → P n) → ((c : C) → v.held c ≡ false → Q c) → (spot : Spot N C) → spot_live v spot ≡ false → SpotGone P Q spot
  spot_gone f g (AtFront c) e = g c e
  spot_gone f g (AtBack c) e = g c e
  spot_gone f g (Before mark) e = f mark e
  spot_gone f g (After mark) e = f mark e

  pub gone_spot : ((n : N) → P n → v.live n ≡ false) → ((c : C) → Q c → v.held c ≡ false) → (spot : Spot N C) → SpotGone P Q spot → spot_live v spot ≡ false
  gone_spot f g (AtFront c) e = g c e
  gone_spot f g (AtBack c) e = g c e
  gone_spot f g (Before mark) e = f mark e
  gone_spot f g (After mark) e = f mark e
