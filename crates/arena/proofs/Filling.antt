-- From what the code leaves in its vectors to what the places mean. Assumes nothing.
use Rattle.std.proofs.Common.{◌≡◌, ℕ, ◌+◌, ◌-◌, ◌<◌, ◌≤◌, Bool, true, false, cond, eqb, List, [], ◌∷◌, ◌++◌, length, take, set, replicate, ◌⊎◌, ⊎_elim, vec_items, vec_len, vec_capacity, sym, refl, ap, ◌∙◌, subst, arith}
use Rattle.std.specs.List.{AllByRecursion as All}
use Rattle.std.proofs.lemmas.Bool.{eq-eqb, ne_eqb}
use Rattle.std.proofs.lemmas.List.{length-map, map-set}
use Rattle.arena.specs.declared.arena.Arena.{Arena}
use Rattle.arena.specs.declared.handle.Handle.{Handle}
use Rattle.arena.specs.declared.slot.Place.{Place}
use Rattle.arena.specs.declared.slot.Slot.{Slot}
use Rattle.arena.specs.declared.slot.State.TheVariants.{Live}
use Rattle.arena.specs.Pools.{last_version, Pool, live, next, take_place, raised, free_place, Sound}
use Rattle.arena.specs.Shelves.{pool_of, slots_of}
use Rattle.arena.specs.Recorded.{shelf}
use Rattle.arena.proofs.Pooling.{whole, taken_most, freed_fits}

-- the lowest place never used, after a taking that found no freed place, and after one that found one
pub fresh_rises : (p : Pool) → length p.freed ≡ 0 → p.fresh + 1 ≡ (take_place p).fresh
unfolding take_place
fresh_rises p e = ap (λ (b : Bool). cond b (p.fresh + 1) p.fresh) (sym (eq-eqb _ _ e))

pub fresh_stays : (p : Pool) → (length p.freed ≡ 0 → ⊥) → p.fresh ≡ (take_place p).fresh
unfolding take_place
fresh_stays p ne = ap (λ (b : Bool). cond b (p.fresh + 1) p.fresh) (sym (ne_eqb _ _ ne))

four : {A B C D E : Type 0} (f : A → B → C → D → E) {a a' : A} {b b' : B} {c c' : C} {d d' : D} → a ≡ a' → b ≡ b' → c ≡ c' → d ≡ d' → f a b c d ≡ f a' b' c' d'
four f p q r s = cc

abbrev parts : List Slot → List ℕ → ℕ → ℕ → Pool
parts slots freed fresh taken = record { slots = slots; freed = freed; fresh = fresh; taken = taken }

-- the places after a taking, from what the code leaves
taken_parts : (p : Pool) (h : Handle) (slots : List Slot) (freed : List ℕ) (fresh n : ℕ) → h ≡ next p → slots ≡ set p.slots h.place (record { version = h.version; state = Live })
    → n ≡ length p.freed → freed ≡ take (n - 1) p.freed → fresh ≡ (take_place p).fresh → parts slots freed fresh (p.taken + 1) ≡ take_place p
unfolding take_place
taken_parts p h slots freed fresh n e s l f g =
    four parts (s ∙ ap (λ (k : Handle). set p.slots k.place (record { version = k.version; state = Live })) e) (f ∙ ap (λ (m : ℕ). take (m - 1) p.freed) l) g refl

-- the places after a freeing, from the freed places that the code leaves
freed_parts : (h : Handle) (p : Pool) (slots : List Slot) (x : Slot) (freed : List ℕ) (b : Bool) → slots ≡ set p.slots h.place x → x ≡ raised h.version → eqb h.version last_version ≡ b
    → freed ≡ cond b p.freed (p.freed ++ h.place ∷ []) → parts slots freed p.fresh p.taken ≡ free_place h p
unfolding free_place
freed_parts h p slots x freed b s e z f =
    four parts (s ∙ ap (set p.slots h.place) e) (f ∙ ap (λ (c : Bool). cond c p.freed (p.freed ++ h.place ∷ [])) (sym z)) refl refl

pub sound_as : (p q : Pool) → p ≡ q → Sound q → ∥ Sound p ∥₁
sound_as p q e s = ∣ subst Sound (sym e) s ∣₁

module _ {T : Type 0} where
  -- what always holds of the places, out of the struct's ghost field
  pub sound : (a : Arena T) → Sound (shelf a).pool
  sound a = whole (shelf a).pool a.sound

  pub long : (a : Arena T) → vec_len a.places ≡ length (shelf a).pool.slots
  long a = a.places.ok.0 ∙ sym (length-map a.places.items _)

  slots_set : (ps : List (Place T)) (n : ℕ) (p : Place T) → slots_of (set ps n p) ≡ set (slots_of ps) n p.slot
  slots_set ps n p = map-set (λ (q : Place T). q.slot) ps n p

  pub took : (a : Arena T) (h : Handle) (x : T) (freed : List ℕ) (fresh : ℕ) → h ≡ next (shelf a).pool → freed ≡ take (vec_len a.freed - 1) (vec_items a.freed)
      → fresh ≡ (take_place (shelf a).pool).fresh
      → pool_of (set (vec_items a.places) h.place (record { slot = record { version = h.version; state = Live }; value = x })) freed fresh (a.taken + 1) ≡ take_place (shelf a).pool
  took a h x freed fresh e f g =
      taken_parts (shelf a).pool h _ freed fresh (vec_len a.freed) e (slots_set (vec_items a.places) h.place _) a.freed.ok.0 f g

  -- at the last version no place comes back
  pub retired : (a : Arena T) (h : Handle) (p : Place T) → p.slot ≡ raised h.version → h.version ≡ last_version
      → pool_of (set (vec_items a.places) h.place p) (vec_items a.freed) a.fresh a.taken ≡ free_place h (shelf a).pool
  retired a h p e v = freed_parts h (shelf a).pool _ p.slot (vec_items a.freed) true (slots_set (vec_items a.places) h.place p) e (eq-eqb _ _ v) refl

  -- at any other version the place comes back
  pub renewed : (a : Arena T) (h : Handle) (p : Place T) (freed : List ℕ) → p.slot ≡ raised h.version → h.version < last_version → freed ≡ vec_items a.freed ++ h.place ∷ []
      → pool_of (set (vec_items a.places) h.place p) freed a.fresh a.taken ≡ free_place h (shelf a).pool
  renewed a h p freed e lt items = freed_parts h (shelf a).pool _ p.slot freed false (slots_set (vec_items a.places) h.place p) e (ne_eqb _ _ (λ z. omega arith)) items

  -- one more freed place needs no memory
  pub push_fits : (a : Arena T) (h : Handle) → live (shelf a).pool h ≡ true → vec_len a.freed < vec_capacity a.freed
  push_fits a h e =
      let l = long a in
      let n = freed_fits (shelf a).pool h (sound a) e in
      let k = a.freed.ok.0 in
      let m = a.roomy in
      omega arith

  pub count_fits : (a : Arena T) → a.taken ≤ 281474976710655
  count_fits a = let l = long a in let f = a.few in taken_most (shelf a).pool (sound a) (omega arith)

  -- the places that a new arena is filled with: each is a clone of one
  pub cloned_slots : (P : Place T → Type 0) (p : Place T) (ps : List (Place T)) → All (λ q. (q ≡ p) ⊎ P q) ps → ((q : Place T) → P q → q.slot ≡ p.slot)
      → slots_of ps ≡ replicate (length ps) p.slot
  cloned_slots P p [] a same = refl
  cloned_slots P p (q ∷ ps) a same =
      let rest = cloned_slots P p ps a.1 same in
      let first : q.slot ≡ p.slot = ⊎_elim (ap (λ (r : Place T). r.slot)) (same q) a.0 in
      ap (λ (s : Slot). s ∷ slots_of ps) first ∙ ap (λ (ss : List Slot). p.slot ∷ ss) rest
