-- The regions of an operation, made one after the other. Assumes nothing.
use Rattle.std.proofs.Common.{◌≡◌, ℕ, zero, suc, ◌+◌, ◌-◌, ◌<◌, ◌≤◌, true, List, [], ◌∷◌, ◌++◌, length, take, set, replicate, Option, sym, refl, ap, ◌∙◌, append_assoc, add-one, arith}
use Rattle.std.proofs.lemmas.List.{length-take-le, length_push, set_at, take_more_set}
use Rattle.arena.specs.declared.arena.Arena.{Arena}
use Rattle.arena.specs.declared.handle.Handle.{Handle}
use Rattle.arena.specs.Pools.{live, next, room, Sound}
use Rattle.arena.specs.Recorded.{shelf}
use Rattle.arena.specs.Shelves.{Shelf, entered}
use Rattle.arena.proofs.Pooling.{room_take, take_sound}
use Rattle.arena.proofs.Shelving.{enter_keeps, enter_live, sound_shelf}
use Rattle.records.specs.declared.handles.BlockPtr.{BlockPtr}
use Rattle.records.specs.declared.handles.OpPtr.{OpPtr}
use Rattle.records.specs.declared.handles.RegionPtr.{RegionPtr}
use Rattle.records.specs.declared.region.Region.{Region}
use Rattle.records.specs.Makings.{Keeps, new_region, region_ptrs, with_regions}
use Rattle.records.specs.Models.{region_of}
use Rattle.records.specs.Padding.{no_region, padded}

-- one making keeps all, and leaves one place fewer
pub record Grown {T : Type 0} (n : ℕ) (a b : Shelf T) : Type 0 where
  pub sound : Sound b.pool
  pub rooms : room b.pool + n ≡ room a.pool
  pub still : (k : Handle) → live a.pool k ≡ true → live b.pool k ≡ true
  pub keeps : Keeps a b

module _ {T : Type 0} where
  pub grown_none : (a : Shelf T) → Sound a.pool → Grown 0 a a
  grown_none a s = record { sound = s; rooms = omega arith; still = λ k e. e; keeps = record { keeps = λ k e. refl } }

  pub grown_more : (n : ℕ) (a b : Shelf T) (x : T) → Grown n a b → n < room a.pool → Grown (suc n) a (entered x b)
  grown_more n a b x g h =
      let r = g.rooms in
      let some : 0 < room b.pool = omega arith in
      let fewer = room_take b.pool g.sound some in
      record {
        sound = take_sound b.pool g.sound some;
        rooms = omega arith;
        still = λ k e. enter_live b x g.sound some k (g.still k e);
        keeps = record { keeps = λ k e. enter_keeps b x g.sound some k (g.still k e) ∙ g.keeps.keeps k e };
      }

-- one more region stands in the four places
pub padded_push : (n : ℕ) (ps : List RegionPtr) (y : RegionPtr) → n < 4 → length ps ≡ 4 → padded (take n ps) ≡ ps → padded (take (n + 1) (set ps n y)) ≡ set ps n y
padded_push n ps y lt long e =
    let front : length (take n ps) ≡ n = length-take-le n ps (omega arith) in
    let back : 4 - length (take n ps ++ y ∷ []) ≡ 4 - (n + 1) = (let l = length_push (take n ps) y in omega arith) in
    let one : suc (4 - (n + 1)) ≡ 4 - length (take n ps) = omega arith in
    ap padded (take_more_set ps n y (omega arith))
    ∙ append_assoc (take n ps) (y ∷ []) (replicate (4 - length (take n ps ++ y ∷ [])) no_region)
    ∙ ap (λ (k : ℕ). take n ps ++ y ∷ replicate k no_region) back
    ∙ sym (set_at (take n ps) no_region (replicate (4 - (n + 1)) no_region) y n front)
    ∙ ap (λ (k : ℕ). set (take n ps ++ replicate k no_region) n y) one
    ∙ ap (λ (zs : List RegionPtr). set zs n y) e

module _ (op : OpPtr) (body : Option BlockPtr) (a : Shelf Region) where
  pub regions_grown : (n : ℕ) → Sound a.pool → n ≤ room a.pool → Grown n a (with_regions op body n a)
  unfolding with_regions
  regions_grown zero s h = grown_none a s
  regions_grown (suc n) s h = grown_more n a (with_regions op body n a) (new_region op body n) (regions_grown n s (omega arith)) (omega arith)

  pub regions_step : (n : ℕ) (b : Shelf Region) → b ≡ entered (new_region op body n) (with_regions op body n a) → b ≡ with_regions op body (n + 1) a
  unfolding with_regions
  regions_step n b e = e ∙ ap (λ (m : ℕ). with_regions op body m a) (sym (add-one n))

  pub regions_none : a ≡ with_regions op body 0 a
  unfolding with_regions
  regions_none = refl

  pub ptrs_none : [] ≡ region_ptrs op body 0 a
  unfolding region_ptrs
  ptrs_none = refl

  pub ptrs_long : (n : ℕ) → length (region_ptrs op body n a) ≡ n
  unfolding region_ptrs
  ptrs_long zero = refl
  ptrs_long (suc n) = let r = ptrs_long n in let l = length_push (region_ptrs op body n a) (region_of (next (with_regions op body n a).pool)) in omega arith

  pub ptrs_step : (n : ℕ) (xs : List RegionPtr) (y : RegionPtr) → xs ≡ region_ptrs op body n a → y ≡ region_of (next (with_regions op body n a).pool)
      → xs ++ y ∷ [] ≡ region_ptrs op body (n + 1) a
  unfolding region_ptrs
  ptrs_step n xs y e f =
      ap (λ (us : List RegionPtr). us ++ y ∷ []) e
      ∙ ap (λ (v : RegionPtr). region_ptrs op body n a ++ v ∷ []) f
      ∙ ap (λ (m : ℕ). region_ptrs op body m a) (sym (add-one n))

-- each making takes one of the places that were left
pub room_after : (op : OpPtr) (body : Option BlockPtr) (n : ℕ) (a : Arena Region) → n ≤ room (shelf a).pool → room (with_regions op body n (shelf a)).pool + n ≡ room (shelf a).pool
room_after op body n a h = (regions_grown op body (shelf a) n (sound_shelf a) h).rooms
