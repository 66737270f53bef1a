-- Lists from which a node was taken, and what stands in them still. Assumes nothing.
use Rattle.std.proofs.Common.{◌≡◌, true, ◌⊎◌, List, ◌∷◌, Some, None, Option, sym, refl, ap, ◌∙◌, subst, inl, inr, ⊎_elim}
use Rattle.linked_list.specs.Edits.{Takes}
use Rattle.linked_list.specs.Links.{Holds, In, View}
use Rattle.linked_list.proofs.Lists.{in_left, in_parts, in_right, none_some, run_within, some_same}
use Rattle.forest.specs.Erasings.{TakenOut}
use Rattle.forest.proofs.Subtrees.{less_away}

module _ {N : Type 0} (n y : N) (ns ms : List N) (t : Takes n ns ms) where
  taken_sub : In y ms → In y ns
  taken_sub i =
      subst (In y) (sym t.2)
      (⊎_elim (λ (j : In y t.0). in_left y t.0 (n ∷ t.1) j) (λ (j : In y t.1). in_right y t.0 (n ∷ t.1) (inr j)) (in_parts y t.0 t.1 (subst (In y) t.3 i)))

  taken_stay : (y ≡ n → ⊥) → In y ns → In y ms
  taken_stay ne i =
      subst (In y) (sym t.3)
      (⊎_elim (λ (j : In y t.0). in_left y t.0 t.1 j) (λ (j : In y (n ∷ t.1)). in_right y t.0 t.1 (⊎_elim (λ (e : y ≡ n). absurd (ne e)) (λ (k : In y t.1). k) j)) (in_parts y t.0 (n ∷ t.1) (subst (In y) t.2 i)))

module _ {N C : Type 0} where
  -- what is in the lists M was in the lists L, and all is still there but a node
  pub record Less (gone : N → Type 0) (L M : C → List N) : Type 0 where
    pub was : (c : C) (y : N) → In y (M c) → In y (L c)
    pub still : (c : C) (y : N) → (gone y → ⊥) → In y (L c) → In y (M c)

  pub all_less : (gone : N → Type 0) (L : C → List N) → Less gone L L
  all_less gone L = record { was = λ c y i. i; still = λ c y ne i. i }

  module _ (same : (a b : C) → (a ≡ b) ⊎ (a ≡ b → ⊥)) (v : View N C) (n : N) (L M : C → List N) (t : TakenOut v n L M) where
    away : (c : C) → (v.within n ≡ Some c → ⊥) → M c ≡ L c
    away = less_away v n L M t

    by_place : (c : C) (o : Option C) → v.within n ≡ o → (v.within n ≡ Some c) ⊎ (v.within n ≡ Some c → ⊥)
    by_place c None e = inr (λ f. none_some (sym e ∙ f))
    by_place c (Some d) e = ⊎_elim (λ (z : d ≡ c). inl (e ∙ ap Some z)) (λ (ne : d ≡ c → ⊥). inr (λ f. ne (some_same (sym e ∙ f)))) (same d c)

    -- lists out of which a node was taken
    pub taken_less : Less (λ y. y ≡ n) L M
    taken_less = record {
      was = λ c y i. elim (by_place c (v.within n) refl) [
        | inl e ↦ taken_sub n y (L c) (M c) (t.linked c e).0 i
        | inr ne ↦ subst (In y) (away c ne) i
      ];
      still = λ c y ne i. elim (by_place c (v.within n) refl) [
        | inl e ↦ taken_stay n y (L c) (M c) (t.linked c e).0 ne i
        | inr out ↦ subst (In y) (sym (away c out)) i
      ];
    }

  module _ (v w : View N C) (gone : N → Type 0) (L M : C → List N) (h : Holds v L) (k : Holds w M) (less : Less gone L M) where
    -- what stands somewhere stood there
    pub stood : (y : N) (c : C) → v.held c ≡ true → w.live y ≡ true → w.within y ≡ Some c → v.within y ≡ Some c
    stood y c held a e = run_within v c None (L c) None (h.chains c held).run y (less.was c y (k.listed y c a e).1)

    -- what stood in a container that is still there, and was not taken out, stands there
    pub stands_still : (y : N) (c : C) → (gone y → ⊥) → w.held c ≡ true → v.live y ≡ true → v.within y ≡ Some c → w.within y ≡ Some c
    stands_still y c ne held a e = run_within w c None (M c) None (k.chains c held).run y (less.still c y ne (h.listed y c a e).1)
