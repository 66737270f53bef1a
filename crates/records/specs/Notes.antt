-- What setting a note does to the tables.
use Rattle.std.specs.Prelude.{◌≡◌, ℕ, Some}
use Rattle.arena.specs.Shelves.{at, Only}
use Rattle.records.specs.declared.handles.OpPtr.{OpPtr}
use Rattle.records.specs.declared.operation.Operation.{Operation}
use Rattle.records.specs.Models.{Model, operation_at}

-- the operation with another note
abbrev pub noted : ℕ → Operation → Operation
noted note o = record {
  kind = o.kind;
  name = o.name;
  regions = o.regions;
  note = note;
  next = o.next;
  prev = o.prev;
  container = o.container;
}

-- a note set: the operation has it, and all else stays, in this table and in the others
pub record NotedIn (m : Model) (op : OpPtr) (note : ℕ) (n : Model) : Type 0 where
  pub old : Operation
  pub was : operation_at m op ≡ Some old
  pub places : n.operations.pool ≡ m.operations.pool
  pub only : Only (at m.operations) (at n.operations) op.handle (Some (noted note old))
  pub blocks : n.blocks ≡ m.blocks
  pub regions : n.regions ≡ m.regions
