-- Laws of the mappings held.
use Rattle.std.specs.Prelude.{◌≡◌, ℕ, ◌<◌, ◌≤◌, Some, Option, Result, IsOk, IsSome, ◌≢◌}
use Rattle.std.specs.List.{IsDistinct}
use Rattle.std.specs.Map.{keys_of}
use Rattle.records.specs.declared.handles.OpPtr.{OpPtr}
use Rattle.table.specs.declared.entry.Full.{Full}
use Rattle.mappings.specs.declared.mappings.Mappings.{Mappings}
use Rattle.mappings.specs.Deciding.{equal}
use Rattle.mappings.specs.Edits.{Puts}
use Rattle.mappings.specs.Held.{held, held_count, mapped}

-- no name in a table is held twice, and at most 512 are held
pub record Once (m : Mappings) : Type 0 where
  pub one : IsDistinct equal (keys_of (held m))
  pub few : held_count m ≤ 512

-- so it is always
abbrev pub HeldOnce : Type 0
HeldOnce = (m : Mappings) → Once m

-- where every name that a table has here it has there too, no more mappings are held here than there
abbrev pub CountsFollow : Type 0
CountsFollow = (m n : Mappings) → ((t : OpPtr) (i : ℕ) → IsSome (mapped m t i) → IsSome (mapped n t i)) → held_count m ≤ held_count n

-- the operations that are held stand at places below `most`, and no two at one place
pub record Apart (m : Mappings) (most : ℕ) : Type 0 where
  pub within : (t : OpPtr) (i : ℕ) (op : OpPtr) → mapped m t i ≡ Some op → op.handle.place < most
  pub apart : (t u : OpPtr) (i j : ℕ) (o p : OpPtr) → mapped m t i ≡ Some o → mapped m u j ≡ Some p → o.handle.place ≡ p.handle.place → (t ≡ u) × (i ≡ j)

-- no operation that is held stands at the place
pub record Spare (m : Mappings) (place : ℕ) : Type 0 where
  pub spare : (t : OpPtr) (i : ℕ) (op : OpPtr) → mapped m t i ≡ Some op → op.handle.place ≢ place

-- where operations stand at places of their own below `most`, and one such place is left, fewer than `most` mappings are held
abbrev pub RoomForOneMore : Type 0
RoomForOneMore = (m : Mappings) (most place : ℕ) → Apart m most → place < most → Spare m place → held_count m < most

-- so where they stand at places of their own below 512, and one such place is left, no putting is refused
abbrev pub NeverFull : Type 0
NeverFull = (m n : Mappings) (place : ℕ) (t : OpPtr) (i : ℕ) (op : OpPtr) (r : Result (Option OpPtr) Full) → Apart m 512 → place < 512 → Spare m place → Puts m t i op r n → IsOk r
