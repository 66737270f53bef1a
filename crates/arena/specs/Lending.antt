-- A record is changed in place, or what is known of its place: the other part of the place stays. Assumes nothing.
use Rattle.std.proofs.Common.{◌≡◌, ℕ, ◌<◌, List, length, get_or, set, refl, sym, ap, subst}
use Rattle.std.proofs.lemmas.List.{get_or_read}
use Rattle.std.proofs.Math.Seq.{map-set_same}
use Rattle.arena.specs.declared.slot.Place.{Place}
use Rattle.arena.specs.declared.slot.Slot.{Slot}
use Rattle.arena.specs.Pools.{unused, Sound}
use Rattle.arena.specs.Shelves.{pool_of, records_of, slots_of}

module _ {T : Type 0} where
  -- the place at n with another record
  abbrev pub place_with : List (Place T) → ℕ → T → Place T
  place_with ps n x = record { slot = (get_or ps n (record { slot = unused; value = x })).slot; value = x }

  -- what is known of the places stays where a record is written, and the records where what is known of a place is
  pub slots_kept : (ps : List (Place T)) (n : ℕ) (x : T) → slots_of (set ps n (place_with ps n x)) ≡ slots_of ps
  slots_kept ps n x = map-set_same (λ (p : Place T). p.slot) ps n (place_with ps n x) (record { slot = unused; value = x }) refl

  pub values_kept : (ps : List (Place T)) (n : ℕ) (p : Place T) (s : Slot) → p ≡ get_or ps n p → records_of (set ps n (record { slot = s; value = p.value })) ≡ records_of ps
  values_kept ps n p s e = map-set_same (λ (q : Place T). q.value) ps n (record { slot = s; value = p.value }) p (ap (λ (q : Place T). q.value) e)

  pub still_sound : (ps : List (Place T)) (n : ℕ) (x : T) (freed : List ℕ) (fresh taken : ℕ) → ∥ Sound (pool_of ps freed fresh taken) ∥₁
      → ∥ Sound (pool_of (set ps n (place_with ps n x)) freed fresh taken) ∥₁
  still_sound ps n x freed fresh taken s =
      subst (λ (ss : List Slot). ∥ Sound (record { slots = ss; freed = freed; fresh = fresh; taken = taken }) ∥₁) (sym (slots_kept ps n x)) s

  -- the place that was read, with another record
  pub read_with : (ps : List (Place T)) (n : ℕ) (p : Place T) (x : T) → n < length ps → p ≡ get_or ps n p → ◌≡◌ {A = Place T} (record { slot = p.slot; value = x }) (place_with ps n x)
  read_with ps n p x h e = ap (λ (q : Place T). let r : Place T = record { slot = q.slot; value = x } in r) (get_or_read ps n p h e (record { slot = unused; value = x }))
