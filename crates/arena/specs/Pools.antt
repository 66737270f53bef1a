-- The places of one kind of record: which are in use and at which version, and which is taken next.
use Rattle.std.specs.Prelude.{◌≡◌, ℕ, ◌+◌, ◌-◌, ◌<◌, ◌≤◌, Bool, true, false, cond, ◌&&◌, List, [], ◌∷◌, Some, None, Option, ◌++◌, length, take, replicate, sum_by, ◌==◌, slice_index, slice_index_or, slice_set}
use Rattle.arena.specs.declared.handle.Handle.{Handle}
use Rattle.arena.specs.declared.slot.Slot.{Slot}
use Rattle.arena.specs.declared.slot.State.{State}
use Rattle.arena.specs.declared.slot.State.TheVariants.{Vacant, Live, Retired}

-- the last version that a place can have
abbrev pub last_version : ℕ
last_version = 4294967295

-- a place that was never taken: version 1, vacant
abbrev pub unused : Slot
unused = record { version = 1; state = Vacant }

-- The places of one kind: what is known of each, the freed ones in the order in which they were freed, how many were ever
-- used (so the lowest never used), and how often a place was taken.
pub record Pool : Type 0 where
  pub slots : List Slot
  pub freed : List ℕ
  pub fresh : ℕ
  pub taken : ℕ

-- n places none of which was ever taken
abbrev pub unused_pool : ℕ → Pool
unused_pool n = record { slots = replicate n unused; freed = []; fresh = 0; taken = 0 }

-- what is known of a place; of one past the last, as of one never taken
abbrev pub slot_at : Pool → ℕ → Slot
slot_at p place = slice_index_or p.slots place unused

-- the place is in use
abbrev pub is_live : State → Bool
is_live Vacant = false
is_live Live = true
is_live Retired = false

-- the place is in use at this version
abbrev pub live_slot : Slot → ℕ → Bool
live_slot s version = is_live s.state && s.version == version

-- the handle's place is in use at its version
abbrev pub live : Pool → Handle → Bool
live p h = live_slot (slot_at p h.place) h.version

-- how many places can still be taken: the freed ones and those never used
abbrev pub room : Pool → ℕ
room p = length p.freed + (length p.slots - p.fresh)

-- the place taken next: the one freed last, or else the lowest never used
abbrev pub next_place : Pool → ℕ
next_place p = cond (length p.freed == 0) p.fresh (slice_index p.freed (length p.freed - 1))

-- the handle that the next taking gives
abbrev pub next : Pool → Handle
next p = record { place = next_place p; version = (slot_at p (next_place p)).version }

-- what tells the handle that the next taking gives, or none where no place is left
abbrev pub Next : Pool → Option Handle → Type 0
Next p None = room p ≡ 0
Next p (Some h) = (0 < room p) × (h ≡ next p)

-- the places after one taking
unfoldable pub take_place : Pool → Pool
take_place p = record {
  slots = slice_set p.slots (next_place p) (record { version = (slot_at p (next_place p)).version; state = Live });
  freed = take (length p.freed - 1) p.freed;
  fresh = cond (length p.freed == 0) (p.fresh + 1) p.fresh;
  taken = p.taken + 1;
}

-- a place after it was freed at a version: vacant under the next version, or retired after the last
abbrev pub raised : ℕ → Slot
raised version = cond (version == last_version) (record { version = version; state = Retired }) (record { version = version + 1; state = Vacant })

-- the places after a live handle was freed; a retired place does not come back
unfoldable pub free_place : Handle → Pool → Pool
free_place h p = record {
  slots = slice_set p.slots h.place (raised h.version);
  freed = cond (h.version == last_version) p.freed (p.freed ++ h.place ∷ []);
  fresh = p.fresh;
  taken = p.taken;
}

-- 1 for a vacant place, else 0
abbrev pub vacancy_of : State → ℕ
vacancy_of Vacant = 1
vacancy_of Live = 0
vacancy_of Retired = 0

-- the same of what is known of a place
abbrev pub vacancy : Slot → ℕ
vacancy s = vacancy_of s.state

-- one more than the number of times that a place was taken
abbrev pub wear_of : State → ℕ → ℕ
wear_of Vacant version = version
wear_of Live version = version + 1
wear_of Retired version = version + 1

-- the same of what is known of a place
abbrev pub wear : Slot → ℕ
wear s = wear_of s.state s.version

-- a freed place: used before, and vacant
pub record Freed (slots : List Slot) (fresh place : ℕ) : Type 0 where
  pub old : place < fresh
  pub vacant : vacancy (slice_index_or slots place unused) ≡ 1

-- a place that was never taken
pub record Never (s : Slot) : Type 0 where
  pub first : s.version ≡ 1
  pub vacant : vacancy s ≡ 1

-- What always holds of the places: each freed one is vacant and stands once, those from `fresh` on were never taken, no
-- version passes the last, and `taken` counts the takings.
pub record Sound (p : Pool) : Type 0 where
  pub within : p.fresh ≤ length p.slots
  pub free : (i : ℕ) → i < length p.freed → Freed p.slots p.fresh (slice_index p.freed i)
  pub apart : (i j : ℕ) → i < length p.freed → j < length p.freed → slice_index p.freed i ≡ slice_index p.freed j → i ≡ j
  pub never : (k : ℕ) → p.fresh ≤ k → Never (slot_at p k)
  pub small : (k : ℕ) → (slot_at p k).version ≤ last_version
  pub fewer : length p.freed ≤ sum_by vacancy p.slots
  pub counted : p.taken + length p.slots ≡ sum_by wear p.slots
