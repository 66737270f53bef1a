-- A making and an end change what one handle names, and nothing else. Assumes nothing.
use Rattle.std.proofs.Common.{◌≡◌, ℕ, zero, suc, ◌+◌, ◌<◌, ◌≤◌, Bool, true, false, cond, List, [], ◌∷◌, map, length, get_or, set, Some, None, vec_items, vec_len, vec_capacity, Option, sym, refl, ap, ◌∙◌, subst, ⊎_elim, arith}
use mathlib.Core.HLevel.{is_prop→PathP}
use mathlib.Core.Logic.{∥∥₁_prop}
use native.Mathlib.Bridge.{le_prop}
use Rattle.std.proofs.Math.Seq.{map-set_same}
use Rattle.std.proofs.lemmas.List.{get_or_past, get_or-map, get_or-set_same, get_or-set_other, length-map, length-set, map-set}
use Rattle.std.proofs.lemmas.Bool.{cases_eq, cases_lt, eq-eqb, ne_eqb, and_left, and_right, false_from_ne_true, true_from_ne_false}
use Rattle.arena.specs.declared.arena.Arena.{Arena}
use Rattle.arena.specs.declared.handle.Handle.{Handle}
use Rattle.arena.specs.declared.slot.Place.{Place}
use Rattle.arena.specs.declared.slot.Slot.{Slot}
use Rattle.arena.specs.declared.slot.State.{State}
use Rattle.arena.specs.declared.slot.State.TheVariants.{Vacant, Live, Retired}
use Rattle.arena.specs.Pools.{unused, Pool, slot_at, is_live, live_slot, live, room, next_place, next, take_place, raised, free_place, vacancy_of, vacancy, Sound}
use Rattle.arena.specs.Shelves.{Shelf, item, at, changed, entered, ended, pool_of, Only}
use Rattle.arena.specs.Lending.{slots_kept}
use Rattle.arena.specs.Recorded.{shelf, with_record, Entered, Ended}
use Rattle.arena.proofs.Filling.{long, sound}
use Rattle.arena.proofs.Pooling.{next_within, next_vacant, live_parts, live_within}

-- Lengths.

pub take_long : (p : Pool) → length (take_place p).slots ≡ length p.slots
unfolding take_place
take_long p = length-set p.slots (next_place p) _

-- Which handles are live.

vacant_dead : (s : State) → vacancy_of s ≡ 1 → is_live s ≡ false
vacant_dead Vacant e = refl
vacant_dead Live e = absurd (omega arith)
vacant_dead Retired e = refl

raised_dead : (v : ℕ) (b : Bool) → is_live (cond {A = Slot} b (record { version = v; state = Retired }) (record { version = v + 1; state = Vacant })).state ≡ false
raised_dead v true = refl
raised_dead v false = refl

dead_slot : (s : Slot) (v : ℕ) → is_live s.state ≡ false → live_slot s v ≡ false
dead_slot s v e = and_left _ _ e

vacant_next : (p : Pool) (k : Handle) → Sound p → 0 < room p → k.place ≡ next_place p → live p k ≡ false
vacant_next p k s h e =
    dead_slot (slot_at p k.place) k.version (vacant_dead _ (ap (λ (n : ℕ). vacancy (slot_at p n)) e ∙ next_vacant p s h))

take_here : (p : Pool) → Sound p → 0 < room p → slot_at (take_place p) (next_place p) ≡ record { version = (next p).version; state = Live }
unfolding take_place
take_here p s h = get_or-set_same p.slots (next_place p) _ unused (next_within p s h)

take_other : (p : Pool) (n : ℕ) → (n ≡ next_place p → ⊥) → slot_at (take_place p) n ≡ slot_at p n
unfolding take_place
take_other p n ne = get_or-set_other p.slots (next_place p) n _ unused ne

pub free_long : (h : Handle) (p : Pool) → length (free_place h p).slots ≡ length p.slots
unfolding free_place
free_long h p = length-set p.slots h.place _

free_here : (h : Handle) (p : Pool) → live p h ≡ true → slot_at (free_place h p) h.place ≡ raised h.version
unfolding free_place
free_here h p e = get_or-set_same p.slots h.place _ unused (live_within p h e)

pub free_other : (h : Handle) (p : Pool) (n : ℕ) → (n ≡ h.place → ⊥) → slot_at (free_place h p) n ≡ slot_at p n
unfolding free_place
free_other h p n ne = get_or-set_other p.slots h.place n _ unused ne

pub same_handle : (k h : Handle) → k.place ≡ h.place → k.version ≡ h.version → k ≡ h
same_handle k h p v = ap (λ (n : ℕ). record { place = n; version = k.version }) p ∙ ap (λ (n : ℕ). record { place = h.place; version = n }) v

-- a handle of a place that is live at one version alone
other_version : (p : Pool) (k : Handle) (v : ℕ) → (slot_at p k.place).version ≡ v → (k.version ≡ v → ⊥) → live p k ≡ false
other_version p k v e ne =
    let is : (slot_at p k.place).version ≡ k.version → ⊥ = λ z. ne (sym z ∙ e) in
    and_right (is_live (slot_at p k.place).state) _ (ne_eqb _ _ is)

-- no handle of a place that was freed is live
pub free_dead : (h k : Handle) (p : Pool) → live p h ≡ true → k.place ≡ h.place → live (free_place h p) k ≡ false
free_dead h k p e z =
    dead_slot (slot_at (free_place h p) k.place) k.version (ap (λ (n : ℕ). is_live (slot_at (free_place h p) n).state) z ∙ ap (λ (y : Slot). is_live y.state) (free_here h p e) ∙ raised_dead h.version _)

-- every handle but the one freed is live exactly if it was
pub free_live_other : (h k : Handle) (p : Pool) → live p h ≡ true → (k ≡ h → ⊥) → live (free_place h p) k ≡ live p k
free_live_other h k p e ne =
    ⊎_elim
    (λ (z : k.place ≡ h.place).
    free_dead h k p e z
    ∙ sym (other_version p k h.version (ap (λ (n : ℕ). (slot_at p n).version) z ∙ (live_parts p h e).1) (λ v. ne (same_handle k h z v))))
    (λ (o : k.place ≡ h.place → ⊥). ap (λ (y : Slot). live_slot y k.version) (free_other h p k.place o))
    (cases_eq k.place h.place)

pub live_made : (p : Pool) → Sound p → 0 < room p → live (take_place p) (next p) ≡ true
live_made p s h =
    ap (λ (y : Slot). live_slot y (next p).version) (take_here p s h) ∙ eq-eqb (next p).version (next p).version refl

-- every handle but the one given is live exactly if it was
pub take_live_other : (p : Pool) (k : Handle) → Sound p → 0 < room p → (k ≡ next p → ⊥) → live (take_place p) k ≡ live p k
take_live_other p k s h ne =
    ⊎_elim
    (λ (e : k.place ≡ next_place p).
    other_version (take_place p) k (next p).version (ap (λ (n : ℕ). (slot_at (take_place p) n).version) e ∙ ap (λ (y : Slot). y.version) (take_here p s h)) (λ v. ne (same_handle k (next p) e v))
    ∙ sym (vacant_next p k s h e))
    (λ (o : k.place ≡ next_place p → ⊥). ap (λ (y : Slot). live_slot y k.version) (take_other p k.place o))
    (cases_eq k.place (next_place p))

pub next_dead : (p : Pool) → Sound p → 0 < room p → live p (next p) ≡ false
next_dead p s h = vacant_next p (next p) s h refl

module _ {T : Type 0} where
  -- Items.

  item_here : (xs : List T) (n : ℕ) (x : T) → n < length xs → item (set xs n x) n ≡ Some x
  item_here xs n x h =
      let l = length-map xs Some in
      ap (λ (ys : List (Option T)). get_or ys n None) (map-set Some xs n x) ∙ get_or-set_same (map Some xs) n (Some x) None (omega arith)

  item_other : (xs : List T) (n k : ℕ) (x : T) → (k ≡ n → ⊥) → item (set xs n x) k ≡ item xs k
  item_other xs n k x ne = ap (λ (ys : List (Option T)). get_or ys k None) (map-set Some xs n x) ∙ get_or-set_other (map Some xs) n k (Some x) None ne

  pub item_read : (xs : List T) (n : ℕ) (x : T) → n < length xs → x ≡ get_or xs n x → item xs n ≡ Some x
  item_read xs n x h e = get_or-map Some xs n x None h ∙ ap Some (sym e)

  -- What handles name.

  pub at_live : (a : Shelf T) (h : Handle) → live a.pool h ≡ true → at a h ≡ item a.records h.place
  at_live a h e = ap (λ (b : Bool). cond b (item a.records h.place) None) e

  pub at_dead : (a : Shelf T) (h : Handle) → live a.pool h ≡ false → at a h ≡ None
  at_dead a h e = ap (λ (b : Bool). cond b (item a.records h.place) None) e

  item_there : (xs : List T) (n : ℕ) → n < length xs → item xs n ≡ None → ⊥
  item_there [] n h e = omega arith
  item_there (x ∷ xs) zero h e = let q : ◌≡◌ {A = ℕ} 0 1 = cc in omega arith
  item_there (x ∷ xs) (suc n) h e = item_there xs n (omega arith) e

  -- a handle names a record exactly while it is live
  pub at_some : (a : Shelf T) (h : Handle) (x : T) → Some x ≡ at a h → live a.pool h ≡ true
  at_some a h x e = true_from_ne_false _ (λ d. let n = at_dead a h d in let q : ◌≡◌ {A = ℕ} 0 1 = cc in omega arith)

  pub at_none : (a : Shelf T) (h : Handle) → length a.records ≡ length a.pool.slots → None ≡ at a h → live a.pool h ≡ false
  at_none a h l e =
      false_from_ne_true _ (λ t. let n = live_within a.pool h t in item_there a.records h.place (omega arith) (sym (e ∙ at_live a h t)))

  same_at : (a b : Shelf T) (k : Handle) → slot_at b.pool k.place ≡ slot_at a.pool k.place → item b.records k.place ≡ item a.records k.place → at b k ≡ at a k
  same_at a b k s i =
      ap (λ (x : Slot). cond (live_slot x k.version) (item b.records k.place) None) s
      ∙ ap (λ (o : Option T). cond (live a.pool k) o None) i

  both_dead : (a b : Shelf T) (k : Handle) → live a.pool k ≡ false → live b.pool k ≡ false → at b k ≡ at a k
  both_dead a b k p q = at_dead b k q ∙ sym (at_dead a k p)

  enter_others : (a : Shelf T) (x : T) → Sound a.pool → 0 < room a.pool → (k : Handle) → (k ≡ next a.pool → ⊥) → at (entered x a) k ≡ at a k
  enter_others a x s h k ne =
      ⊎_elim
      (λ (e : k.place ≡ next_place a.pool).
      both_dead a (entered x a) k (vacant_next a.pool k s h e)
      (other_version (take_place a.pool) k (next a.pool).version
      (ap (λ (n : ℕ). (slot_at (take_place a.pool) n).version) e ∙ ap (λ (y : Slot). y.version) (take_here a.pool s h))
      (λ v. ne (same_handle k (next a.pool) e v))))
      (λ (o : k.place ≡ next_place a.pool → ⊥).
      same_at a (entered x a) k (take_other a.pool k.place o) (item_other a.records (next_place a.pool) k.place x o))
      (cases_eq k.place (next_place a.pool))

  pub enter_only : (a : Shelf T) (x : T) → Sound a.pool → 0 < room a.pool → length a.records ≡ length a.pool.slots
      → Only (at a) (at (entered x a)) (next a.pool) (Some x)
  enter_only a x s h l = record {
    here =
        let n = next_within a.pool s h in
        at_live (entered x a) (next a.pool) (live_made a.pool s h) ∙ item_here a.records (next_place a.pool) x (omega arith);
    others = enter_others a x s h;
  }

  -- a making keeps every live handle live, and what it names
  pub enter_live : (a : Shelf T) (x : T) → Sound a.pool → 0 < room a.pool → (k : Handle) → live a.pool k ≡ true → live (entered x a).pool k ≡ true
  enter_live a x s h k e =
      ⊎_elim
      (λ (z : k.place ≡ next_place a.pool). let f = vacant_next a.pool k s h z in let q : ◌≡◌ {A = ℕ} 0 1 = cc in absurd (omega arith))
      (λ (o : k.place ≡ next_place a.pool → ⊥). ap (λ (y : Slot). live_slot y k.version) (take_other a.pool k.place o) ∙ e)
      (cases_eq k.place (next_place a.pool))

  pub enter_keeps : (a : Shelf T) (x : T) → Sound a.pool → 0 < room a.pool → (k : Handle) → live a.pool k ≡ true → at (entered x a) k ≡ at a k
  enter_keeps a x s h k e =
      enter_others a x s h k
      (λ z. let f = vacant_next a.pool k s h (ap (λ (j : Handle). j.place) z) in let q : ◌≡◌ {A = ℕ} 0 1 = cc in omega arith)

  -- what holds of every record named, and of the one that changed, holds of every record named after
  pub only_all : (f g : Handle → Option T) (h : Handle) (x : T) (P : T → Type 0) → Only f g h (Some x) → P x → ((k : Handle) (y : T) → f k ≡ Some y → P y) → (k : Handle) (y : T) → g k ≡ Some y → P y
  only_all f g h x P only new old k y e =
      ⊎_elim
      (λ (p : k.place ≡ h.place).
      ⊎_elim
      (λ (v : k.version ≡ h.version).
      let z : Some y ≡ Some x = sym e ∙ ap g (same_handle k h p v) ∙ only.here in
      let q : x ≡ y = cc in
      subst P q new)
      (λ (v : k.version ≡ h.version → ⊥). old k y (sym (only.others k (λ z. v (ap (λ (j : Handle). j.version) z))) ∙ e))
      (cases_eq k.version h.version))
      (λ (p : k.place ≡ h.place → ⊥). old k y (sym (only.others k (λ z. p (ap (λ (j : Handle). j.place) z))) ∙ e))
      (cases_eq k.place h.place)

  pub end_only : (a : Shelf T) (h : Handle) → live a.pool h ≡ true → Only (at a) (at (ended h a)) h None
  end_only a h e = record {
    here = at_dead (ended h a) h (free_dead h h a.pool e refl);
    others = λ k ne. ap (λ (b : Bool). cond b (item a.records k.place) None) (free_live_other h k a.pool e ne);
  }

  pub shelf_long : (a : Arena T) → length (shelf a).records ≡ length (shelf a).pool.slots
  shelf_long a = length-map a.places.items _ ∙ sym (length-map a.places.items _)

  -- what always holds of the places of an arena
  pub sound_shelf : (a : Arena T) → Sound (shelf a).pool
  sound_shelf = sound

  -- A making and an end, from what the code leaves.

  pub made_by : (a b : Arena T) (x : T) (h : Handle) → 0 < room (shelf a).pool → h ≡ next (shelf a).pool → (shelf b).pool ≡ take_place (shelf a).pool
      → (shelf b).records ≡ set (shelf a).records h.place x → Entered a x h b
  made_by a b x h left given places records =
      let after : shelf b ≡ entered x (shelf a)
      = ap (λ (p : Pool). record { pool = p; records = (shelf b).records }) places
      ∙ ap (λ (xs : List T). record { pool = take_place (shelf a).pool; records = xs }) (records ∙ ap (λ (k : Handle). set (shelf a).records k.place x) given) in
      let s = sound a in
      let only = enter_only (shelf a) x s left (shelf_long a) in
      record {
        left = left;
        given = given;
        after = after;
        new = ap (at (shelf a)) given ∙ at_dead (shelf a) (next (shelf a).pool) (next_dead (shelf a).pool s left);
        only = subst (λ (k : Handle). Only (at (shelf a)) (at (shelf b)) k (Some x)) (sym given) (subst (λ (c : Shelf T). Only (at (shelf a)) (at c) (next (shelf a).pool) (Some x)) (sym after) only);
      }

  pub ended_by : (a b : Arena T) (h : Handle) → live (shelf a).pool h ≡ true → (shelf b).pool ≡ free_place h (shelf a).pool → (shelf b).records ≡ (shelf a).records → Ended a h b
  ended_by a b h was places records =
      let after : shelf b ≡ ended h (shelf a)
      = ap (λ (p : Pool). record { pool = p; records = (shelf b).records }) places
      ∙ ap (λ (xs : List T). record { pool = free_place h (shelf a).pool; records = xs }) records in
      record { was = was; after = after; only = subst (λ (c : Shelf T). Only (at (shelf a)) (at c) h None) (sym after) (end_only (shelf a) h was) }

  -- the places of a live handle and of the next one lie within the table
  pub live_within_table : (a : Arena T) (h : Handle) → live (shelf a).pool h ≡ true → h.place < vec_len a.places
  live_within_table a h e = let n = live_within (shelf a).pool h e in let l = long a in omega arith

  pub live_within_items : (a : Arena T) (h : Handle) → live (shelf a).pool h ≡ true → h.place < length (vec_items a.places)
  live_within_items a h e = let n = live_within_table a h e in let m = a.places.ok.0 in omega arith

  pub next_within_table : (a : Arena T) (h : Handle) → 0 < room (shelf a).pool → h ≡ next (shelf a).pool → h.place < vec_len a.places
  next_within_table a h r e =
      let n = next_within (shelf a).pool (sound a) r in
      let p : h.place ≡ next_place (shelf a).pool = ap (λ (k : Handle). k.place) e in
      let l = long a in
      omega arith

  -- what a read at a live handle gives
  pub read_at : (a : Arena T) (h : Handle) (p : Place T) → live (shelf a).pool h ≡ true → p ≡ get_or (vec_items a.places) h.place p → at (shelf a) h ≡ Some p.value
  read_at a h p e r =
      let n = live_within_items a h e in
      let l = length-map a.places.items (λ (q : Place T). q.value) in
      at_live (shelf a) h e
      ∙ item_read (shelf a).records h.place p.value (omega arith) (ap (λ (q : Place T). q.value) r ∙ sym (get_or-map (λ (q : Place T). q.value) a.places.items h.place p p.value n))

  -- a making keeps the table's length
  pub entered_long : (a b : Arena T) (x : T) → shelf b ≡ entered x (shelf a) → vec_len b.places ≡ vec_len a.places
  entered_long a b x e =
      long b ∙ ap (λ (c : Shelf T). length c.pool.slots) e ∙ take_long (shelf a).pool ∙ sym (long a)

  -- A record changed in place: the handle that names it, and no other, names the new one.

  named_within : (a : Shelf T) (h : Handle) (x : T) → at a h ≡ Some x → h.place < length a.records
  named_within a h x e =
      ⊎_elim
      (λ (lt : h.place < length a.records). lt)
      (λ (ge : length a.records ≤ h.place).
      let l = length-map a.records Some in
      let past : item a.records h.place ≡ None = get_or_past (map Some a.records) h.place None (omega arith) in
      let there = at_live a h (at_some a h x (sym e)) in
      let q : ◌≡◌ {A = ℕ} 0 1 = cc in absurd (omega arith))
      (cases_lt h.place (length a.records))

  named_is : (a : Shelf T) (h : Handle) (x : T) → at a h ≡ Some x → get_or a.records h.place x ≡ x
  named_is a h x e =
      let there = at_live a h (at_some a h x (sym e)) in
      let read = get_or-map Some a.records h.place x None (named_within a h x e) in
      let z : Some (get_or a.records h.place x) ≡ Some x = sym read ∙ sym there ∙ e in
      cc

  pub changed_only : (a : Shelf T) (h : Handle) (x y : T) → at a h ≡ Some x → Only (at a) (at (changed h y a)) h (Some y)
  changed_only a h x y e =
      let live = at_some a h x (sym e) in
      let c = changed h y a in
      record {
        here = at_live c h live ∙ item_here a.records h.place y (named_within a h x e);
        others = λ k ne.
            ⊎_elim
            (λ (z : k.place ≡ h.place).
            let dead = other_version a.pool k h.version (ap (λ (n : ℕ). (slot_at a.pool n).version) z ∙ (live_parts a.pool h live).1) (λ v. ne (same_handle k h z v)) in
            both_dead a c k dead dead)
            (λ (o : k.place ≡ h.place → ⊥). same_at a c k refl (item_other a.records h.place k.place y o))
            (cases_eq k.place h.place);
      }

  -- what is the same of the old record and of the new one is the same of all
  pub changed_as : {U : Type 0} (g : T → U) (a : Shelf T) (h : Handle) (x y : T) → at a h ≡ Some x → g y ≡ g x → map g (changed h y a).records ≡ map g a.records
  changed_as g a h x y e same = map-set_same g a.records h.place y x (same ∙ ap g (sym (named_is a h x e)))

  -- two arenas with the same fields are the same
  pub same_arena : (a b : Arena T) → a.places ≡ b.places → a.freed ≡ b.freed → a.fresh ≡ b.fresh → a.taken ≡ b.taken → a ≡ b
  same_arena a b p q r s = λ i. record {
    places = p i;
    freed = q i;
    fresh = r i;
    taken = s i;
    few = is_prop→PathP (λ j. vec_len (p j) ≤ 65535) (λ j. le_prop) a.few b.few i;
    roomy = is_prop→PathP (λ j. vec_len (p j) ≤ vec_capacity (q j)) (λ j. le_prop) a.roomy b.roomy i;
    sound = is_prop→PathP (λ j. ∥ Sound (pool_of (vec_items (p j)) (vec_items (q j)) (r j) (s j)) ∥₁) (λ j. ∥∥₁_prop) a.sound b.sound i;
  }

  -- a record changed in place, as what the arena means
  pub shelf_with : (a : Arena T) (h : Handle) (x : T) → shelf (with_record a h.place x) ≡ changed h x (shelf a)
  shelf_with a h x =
      ap (λ (ss : List Slot). record { pool = record { slots = ss; freed = a.freed.items; fresh = a.fresh; taken = a.taken }; records = (shelf (with_record a h.place x)).records }) (slots_kept a.places.items h.place x)
      ∙ ap (λ (xs : List T). record { pool = (shelf a).pool; records = xs }) (map-set (λ (q : Place T). q.value) a.places.items h.place _)
