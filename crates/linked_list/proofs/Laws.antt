-- What an edit means for each list by itself.
use Rattle.std.proofs.Common.{◌≡◌, Some, None, Option, refl}
use Rattle.linked_list.specs.declared.spot.Spot.{Spot}
use Rattle.linked_list.specs.Links.{View, At}
use Rattle.linked_list.specs.Edits.{EditLaws, Inserts, Removes}

module _ {N C : Type 0} where
  inserted_by : (v w : View N C) (n m : N) (spot : Spot N C) (o : Option C) → v.within m ≡ o
      → (v.within m ≡ None → w ≡ v) → ((c : C) → v.within m ≡ Some c → Inserts v w n c spot) → (w.live ≡ v.live) × (w.held ≡ v.held)
  inserted_by v w n m spot None e none some = let h = none e in (cc, cc)
  inserted_by v w n m spot (Some c) e none some = let h = some c e in (h.live, h.held)

  removed_by : (v w : View N C) (m : N) (o : Option C) → v.within m ≡ o
      → (v.within m ≡ None → w ≡ v) → ((c : C) → v.within m ≡ Some c → Removes v w m c)
      → (w.live ≡ v.live) × (w.held ≡ v.held) × At v.within w.within m None
  removed_by v w m None e none some = let h = none e in (cc, cc, record { here = cc; other = λ x _. cc })
  removed_by v w m (Some c) e none some = let h = some c e in (h.live, h.held, h.moves)

  pub laws : EditLaws N C
  laws = record {
    at_front = λ v w n c L M i h r. i.lists L M h r.here r.other;
    at_back = λ v w n c L M i h r. i.lists L M h r.here r.other;
    before = λ v w n m c L M xs ys i h e r. i.lists L M h (xs, ys, e, r.here) r.other;
    after = λ v w n m c L M xs ys i h e r. i.lists L M h (xs, ys, e, r.here) r.other;
    removed = λ v w n c L M xs ys i h e r. i.lists L M h (xs, ys, e, r.here) r.other;
    inserted_kept = λ v w n m spot none some. inserted_by v w n m spot (v.within m) refl none some;
    removed_kept = λ v w m none some. removed_by v w m (v.within m) refl none some;
  }
