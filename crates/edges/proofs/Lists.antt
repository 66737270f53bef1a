-- The one list that the links of a container describe, through makings and insertions. Assumes nothing.
use Rattle.std.proofs.Common.{◌≡◌, Bool, true, cond, ◌⊎◌, List, [], ◌∷◌, ◌++◌, Some, None, Option, sym, refl, ap, ◌∙◌, subst, ⊎_elim}
use mathlib.Core.HLevel.{⊥_prop, hedberg}
use mathlib.Core.List.{is_set}
use mathlib.Core.Logic.{∥∥₁_elim}
use Rattle.linked_list.specs.declared.spot.Spot.{Spot}
use Rattle.linked_list.specs.declared.spot.Spot.TheVariants.{AtBack, Before}
use Rattle.linked_list.specs.Edits.{Inserts, Puts}
use Rattle.linked_list.specs.Links.{Holds, Run, Sound, View, first_or}
use Rattle.linked_list.proofs.Lists.{none_some, some_same}
use Rattle.linked_list.proofs.Relist.{put, relist}
use Rattle.forest.proofs.Listed.{with_lists}

module _ {N : Type 0} where
  no_head : (ns : List N) → first_or ns None ≡ None → ns ≡ []
  no_head [] e = refl
  no_head (n ∷ ns) e = absurd (none_some (sym e))

module _ {N C : Type 0} where
  -- the container is held, and has this list, whichever lists the links describe
  pub record Listing (v : View N C) (c : C) (ns : List N) : Type 0 where
    pub held : v.held c ≡ true
    pub list : (L : C → List N) → Holds v L → L c ≡ ns

  one_run : (v : View N C) (c : C) (p q : Option N) (ns ms : List N) → Run v c p ns None → Run v c q ms None → first_or ns None ≡ first_or ms None → ns ≡ ms
  one_run v c p q [] [] r t e = refl
  one_run v c p q [] (m ∷ ms) r t e = absurd (none_some e)
  one_run v c p q (n ∷ ns) [] r t e = absurd (none_some (sym e))
  one_run v c p q (n ∷ ns) (m ∷ ms) r t e =
      let same : n ≡ m = some_same e in
      let rest : ns ≡ ms = one_run v c (Some n) (Some m) ns ms r.1 t.1 (sym r.0.next ∙ ap v.next same ∙ t.0.next) in
      ap (λ z. z ∷ ns) same ∙ ap (λ zs. m ∷ zs) rest

  -- a container has one list
  one_list : (v : View N C) (L M : C → List N) → Holds v L → Holds v M → (c : C) → v.held c ≡ true → L c ≡ M c
  one_list v L M h k c e =
      let x = h.chains c e in
      let y = k.chains c e in
      one_run v c None None (L c) (M c) x.run y.run (sym x.head ∙ y.head)

  -- a held container without a first node is empty
  pub empty : (v : View N C) (c : C) → v.held c ≡ true → v.head c ≡ None → Listing v c []
  empty v c e none = record { held = e; list = λ L h. no_head (L c) (sym (h.chains c e).head ∙ none) }

  module _ (nodes : (a b : N) → (a ≡ b) ⊎ (a ≡ b → ⊥)) (v w : View N C) (sound : Sound v) where
    list_set : IsSet (List N)
    list_set = is_set (hedberg (λ a b. ⊎_elim (λ e. yes e) (λ ne. no ne) (nodes a b)))

    -- the lists that were there stay where something is made
    pub listing_kept : (new : C → List N) → ((L : C → List N) → Holds v L → Holds w (with_lists v.held L new)) → (c : C) (ns : List N) → w.held c ≡ true → Listing v c ns → Listing w c ns
    listing_kept new grow c ns e x = record {
      held = e;
      list = λ M k. ∥∥₁_elim sound (list_set (M c) ns) (λ h.
          one_list w M (with_lists v.held h.0 new) k (grow h.0 h.1) c e ∙ ap (λ (b : Bool). cond b (h.0 c) (new c)) x.held ∙ x.list h.0 h.1);
    }

    module _ (containers : (a b : C) → (a ≡ b) ⊎ (a ≡ b → ⊥)) (n : N) (c : C) (i : Inserts v w n c (AtBack c)) where
      -- a node comes to the back of a container's list
      pub listing_put : (ns : List N) → Listing v c ns → Listing w c (ns ++ (n ∷ []))
      listing_put ns x =
          let e : w.held c ≡ true = ap (λ (f : C → Bool). f c) i.held ∙ x.held in
          record {
            held = e;
            list = λ M k. ∥∥₁_elim sound (list_set (M c) (ns ++ (n ∷ []))) (λ h.
                let re = relist containers h.0 c (h.0 c ++ (n ∷ [])) in
                one_list w M (put containers h.0 c (h.0 c ++ (n ∷ []))) k (i.lists h.0 _ h.1 re.0 re.1) c e ∙ re.0 ∙ ap (λ (zs : List N). zs ++ (n ∷ [])) (x.list h.0 h.1));
          }

      -- and every other list stays
      pub listing_other : (d : C) (ns : List N) → (d ≡ c → ⊥) → Listing v d ns → Listing w d ns
      listing_other d ns ne x =
          let e : w.held d ≡ true = ap (λ (f : C → Bool). f d) i.held ∙ x.held in
          record {
            held = e;
            list = λ M k. ∥∥₁_elim sound (list_set (M d) ns) (λ h.
                let re = relist containers h.0 c (h.0 c ++ (n ∷ [])) in
                one_list w M (put containers h.0 c (h.0 c ++ (n ∷ []))) k (i.lists h.0 _ h.1 re.0 re.1) d e ∙ re.1 d ne ∙ x.list h.0 h.1);
          }

    -- a node comes before the only node of a container
    module _ (containers : (a b : C) → (a ≡ b) ⊎ (a ≡ b → ⊥)) (n m : N) (c : C) (spot : Spot N C) (i : Inserts v w n c spot)
        (goes : (L : C → List N) → Holds v L → spot ≡ Before m) (only : Listing v c (m ∷ [])) where
      abbrev two : List N
      two = n ∷ (m ∷ [])

      lists_before : (L : C → List N) → Holds v L → Holds w (put containers L c two)
      lists_before L h =
          let re = relist containers L c two in
          i.lists L _ h (subst (λ (z : Spot N C). Puts z n (L c) (put containers L c two c)) (sym (goes L h)) ([], [], only.list L h, re.0)) re.1

      pub listing_before : Listing w c two
      listing_before =
          let e : w.held c ≡ true = ap (λ (f : C → Bool). f c) i.held ∙ only.held in
          record {
            held = e;
            list = λ M k. ∥∥₁_elim sound (list_set (M c) two) (λ h.
                one_list w M (put containers h.0 c two) k (lists_before h.0 h.1) c e ∙ (relist containers h.0 c two).0);
          }

      -- and every other list stays
      pub listing_beside : (d : C) (ns : List N) → (d ≡ c → ⊥) → Listing v d ns → Listing w d ns
      listing_beside d ns ne x =
          let e : w.held d ≡ true = ap (λ (f : C → Bool). f d) i.held ∙ x.held in
          record {
            held = e;
            list = λ M k. ∥∥₁_elim sound (list_set (M d) ns) (λ h.
                one_list w M (put containers h.0 c two) k (lists_before h.0 h.1) d e ∙ (relist containers h.0 c two).1 d ne ∙ x.list h.0 h.1);
          }

  -- the first node of a container
  pub first_node : ((a b : N) → (a ≡ b) ⊎ (a ≡ b → ⊥)) → (v : View N C) → Sound v → (c : C) (n m : N) (ns : List N) → Listing v c (n ∷ ns) → v.head c ≡ Some m → m ≡ n
  first_node nodes v sound c n m ns x e =
      ∥∥₁_elim sound (hedberg (λ a b. ⊎_elim (λ e. yes e) (λ ne. no ne) (nodes a b)) m n) (λ h.
      some_same (sym e ∙ (h.1.chains c x.held).head ∙ ap (λ (zs : List N). first_or zs None) (x.list h.0 h.1)))

  -- an empty container is not one with a node
  pub apart : (v : View N C) → Sound v → (c d : C) (n : N) (ns : List N) → Listing v c (n ∷ ns) → Listing v d [] → c ≡ d → ⊥
  apart v sound c d n ns x y e = ∥∥₁_elim sound ⊥_prop (λ h. clash (sym (x.list h.0 h.1) ∙ ap h.0 e ∙ y.list h.0 h.1))
    where
      clash : n ∷ ns ≡ [] → ⊥
      clash z = none_some (sym (ap (λ (zs : List N). first_or zs None) z))
