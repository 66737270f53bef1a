-- Records of one kind, each in its place.
use Rattle.std.specs.Prelude.{◌≡◌, ℕ, cond, List, map, Some, None, Option, ◌≢◌, slice_index_or, slice_set}
use Rattle.arena.specs.declared.handle.Handle.{Handle}
use Rattle.arena.specs.declared.slot.Place.{Place}
use Rattle.arena.specs.declared.slot.Slot.{Slot}
use Rattle.arena.specs.Pools.{Pool, live, next_place, take_place, free_place}

-- the places of one kind with the records that stand in them
pub record Shelf (T : Type 0) : Type 0 where
  pub pool : Pool
  pub records : List T

-- what is known of the places in a list of them, and the records that stand there
abbrev pub slots_of : {T : Type 0} → List (Place T) → List Slot
slots_of {T} ps = map (λ (p : Place T). p.slot) ps

abbrev pub records_of : {T : Type 0} → List (Place T) → List T
records_of {T} ps = map (λ (p : Place T). p.value) ps

-- the places in a list of them, with the freed ones, the lowest never used and the count of takings
abbrev pub pool_of : {T : Type 0} → List (Place T) → List ℕ → ℕ → ℕ → Pool
pool_of ps freed fresh taken = record { slots = slots_of ps; freed = freed; fresh = fresh; taken = taken }

-- the element at a place, or none past the end
abbrev pub item : {T : Type 0} → List T → ℕ → Option T
item xs place = slice_index_or (map Some xs) place None

-- the record that a live handle names; a dead handle names none
abbrev pub at : {T : Type 0} → Shelf T → Handle → Option T
at a h = cond (live a.pool h) (item a.records h.place) None

-- the shelf after a record was put into the next place
abbrev pub entered : {T : Type 0} → T → Shelf T → Shelf T
entered x a = record { pool = take_place a.pool; records = slice_set a.records (next_place a.pool) x }

-- the shelf after the record of a live handle ended
abbrev pub ended : {T : Type 0} → Handle → Shelf T → Shelf T
ended h a = record { pool = free_place h a.pool; records = a.records }

-- the shelf after the record of a live handle was changed
abbrev pub changed : {T : Type 0} → Handle → T → Shelf T → Shelf T
changed h x a = record { pool = a.pool; records = slice_set a.records h.place x }

-- One function is another but at one handle, where it has this value.
pub record Only {T : Type 0} (f g : Handle → Option T) (h : Handle) (x : Option T) : Type 0 where
  pub here : g h ≡ x
  pub others : (k : Handle) → (k ≢ h) → g k ≡ f k
