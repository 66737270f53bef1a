-- What the edits do to the lists, and that where the links described some lists before, they describe some after.
use Rattle.std.proofs.Common.{◌≡◌, true, ◌⊎◌, List, [], ◌∷◌, ◌++◌, Some, None, Option, sym, refl, ◌∙◌, subst}
use mathlib.Core.Logic.{∥∥₁_map}
use Rattle.linked_list.specs.declared.spot.Spot.{Spot}
use Rattle.linked_list.specs.declared.spot.Spot.TheVariants.{AtFront, AtBack, Before, After}
use Rattle.linked_list.specs.Links.{View, Holds, Sound}
use Rattle.linked_list.specs.Edits.{spot_live, spot_in, Puts, Takes, Others, Inserts, Removes}
use Rattle.linked_list.proofs.Spots.{cut, spot_held, spot_place}
use Rattle.linked_list.proofs.Relinks.{Relinked, insert_holds, remove_holds}
use Rattle.linked_list.specs.Gaps.{before_spot, after_spot}
use Rattle.linked_list.proofs.Relist.{put, relist}

module _ {N C : Type 0} (same : (a b : C) → (a ≡ b) ⊎ (a ≡ b → ⊥)) (v w : View N C) (n : N) (c : C) where
  -- an edit that changes the list of c as R says, where every list can be so changed
  edit_sound : (R : List N → List N → Type 0)
      → ((L M : C → List N) → Holds v L → R (L c) (M c) → Others L M c → Holds w M)
      → ((L : C → List N) → Holds v L → (ns : List N) × R (L c) ns) → Sound v → Sound w
  edit_sound R lists next s =
      ∥∥₁_map s (λ h.
      let r = next h.0 h.1 in
      let re = relist same h.0 c r.0 in
      (put same h.0 c r.0, lists h.0 (put same h.0 c r.0) h.1 (subst (R (h.0 c)) (sym re.0) r.1) re.1))

  -- a mark stands in the list of its container, so a node can be put beside it
  puts : (spot : Spot N C) → spot_live v spot ≡ true → spot_in v spot ≡ Some c
      → (L : C → List N) → Holds v L → (ns : List N) × Puts spot n (L c) ns
  puts (AtFront d) l i L h = (n ∷ L c, refl)
  puts (AtBack d) l i L h = (L c ++ (n ∷ []), refl)
  puts (Before m) l i L h =
      let p = cut m (L c) (h.listed m c l i).1 in
      (p.0 ++ (n ∷ (m ∷ p.1.0)), (p.0, p.1.0, p.1.1, refl))
  puts (After m) l i L h =
      let p = cut m (L c) (h.listed m c l i).1 in
      (p.0 ++ (m ∷ (n ∷ p.1.0)), (p.0, p.1.0, p.1.1, refl))

  pub insert_sound : (spot : Spot N C) → spot_live v spot ≡ true → spot_in v spot ≡ Some c → Inserts v w n c spot → Sound v → Sound w
  insert_sound spot l i ins = edit_sound (Puts spot n) ins.lists (puts spot l i)

  pub remove_sound : v.live n ≡ true → v.within n ≡ Some c → Removes v w n c → Sound v → Sound w
  remove_sound l i rem =
      edit_sound (Takes n) rem.lists (λ L h.
      let p = cut n (L c) (h.listed n c l i).1 in
      (p.0 ++ p.1.0, (p.0, p.1.0, p.1.1, refl)))

  module _ (nodes : (a b : N) → (a ≡ b) ⊎ (a ≡ b → ⊥)) (p q : Option N) (s : Sound v) (n-live : v.live n ≡ true) where
    pub inserted : (spot : Spot N C) → spot_live v spot ≡ true → spot_in v spot ≡ Some c → v.within n ≡ None
        → p ≡ before_spot v spot → q ≡ after_spot v spot → Relinked v w c n p (Some n) q (Some n) p q (Some c) → Inserts v w n c spot × Sound w
    inserted spot l i loose e f rel =
        let k = spot_held v s c spot l i in
        let ins : Inserts v w n c spot = record {
          lists = λ L M h puts others.
              let (xs, ys, pl, is) = spot_place v L c h k n (M c) spot i puts in
              insert_holds v w L M c n p q xs ys nodes same k loose n-live h
              (record { parts = pl.parts; before = e ∙ pl.before; after = f ∙ pl.after }) rel is others;
          moves = record { here = rel.n_within; other = rel.within };
          live = rel.live;
          held = rel.held;
        } in
        (ins, insert_sound spot l i ins s)

    pub removed : v.within n ≡ Some c → p ≡ v.prev n → q ≡ v.next n → Relinked v w c n p q q p None None None → Removes v w n c × Sound w
    removed i e f rel =
        let k = spot_held v s c (Before n) n-live i in
        let out : Removes v w n c = record {
          lists = λ L M h t others. remove_holds v w L M c n p q t.0 t.1 nodes same k i e f h t.2 rel t.3 others;
          moves = record { here = rel.n_within; other = rel.within };
          live = rel.live;
          held = rel.held;
        } in
        (out, remove_sound n-live i out s)
