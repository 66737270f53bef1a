-- What the calls answer and leave.
use Rattle.std.specs.Prelude.{◌≡◌, ℕ, ◌+◌, ◌<◌, Bool, true, false, Some, None, Ok, Err, Option, Result, IsSome, ◌≢◌}
use Rattle.records.specs.declared.handles.OpPtr.{OpPtr}
use Rattle.table.specs.declared.entry.Full.{Full}
use Rattle.table.specs.Maps.{fresh, stood}
use Rattle.mappings.specs.declared.mappings.Mappings.{Mappings}
use Rattle.mappings.specs.declared.name_in.NameIn.{NameIn}
use Rattle.mappings.specs.Held.{held_count, mapped}

-- the table has this operation under the name now, or none, and all else is mapped as it was
pub record Changed (m : Mappings) (table : OpPtr) (name : ℕ) (op : Option OpPtr) (n : Mappings) : Type 0 where
  pub here : mapped n table name ≡ op
  pub others : (t : OpPtr) (i : ℕ) → (t ≡ table → i ≢ name) → mapped n t i ≡ mapped m t i

-- the operation was put: the answer is what the table had, and one mapping more is held where it had none
pub record Put (m : Mappings) (table : OpPtr) (name : ℕ) (op : OpPtr) (old : Option OpPtr) (n : Mappings) : Type 0 where
  pub was : old ≡ mapped m table name
  pub room : old ≡ None → held_count m < 512
  pub changed : Changed m table name (Some op) n
  pub count : held_count n ≡ held_count m + fresh old

-- a refusal changes nothing, and comes only for a new name where 512 mappings are held
pub record Denied (m : Mappings) (table : OpPtr) (name : ℕ) (n : Mappings) : Type 0 where
  pub new : mapped m table name ≡ None
  pub full : held_count m ≡ 512
  pub same : n ≡ m

-- what putting answers and leaves
abbrev pub Puts : Mappings → OpPtr → ℕ → OpPtr → Result (Option OpPtr) Full → Mappings → Type 0
Puts m table name op (Ok old) n = Put m table name op old n
Puts m table name op (Err e) n = Denied m table name n

-- the name was taken: the answer is what the table had, and one mapping less is held; where it had none, nothing changes
pub record Taken (m : Mappings) (table : OpPtr) (name : ℕ) (old : Option OpPtr) (n : Mappings) : Type 0 where
  pub was : old ≡ mapped m table name
  pub changed : Changed m table name None n
  pub count : held_count n + stood old ≡ held_count m
  pub same : old ≡ None → n ≡ m

-- the tables that are kept have their names, and the others have none
pub record Retained (keeps : OpPtr → Bool) (m n : Mappings) : Type 0 where
  pub kept : (table : OpPtr) (name : ℕ) → keeps table ≡ true → mapped n table name ≡ mapped m table name
  pub gone : (table : OpPtr) (name : ℕ) → keeps table ≡ false → mapped n table name ≡ None

-- one of the names of the tables that are not kept, or that they have none
abbrev pub Unkept : (OpPtr → Bool) → Mappings → Option NameIn → Type 0
Unkept keeps m (Some key) = IsSome (mapped m key.table key.name) × (keeps key.table ≡ false)
Unkept keeps m None = (table : OpPtr) (name : ℕ) → keeps table ≡ false → mapped m table name ≡ None
