-- What makings put into the store.
use Rattle.std.specs.Prelude.{◌≡◌, ℕ, zero, suc, ◌≤◌, Bool, true, false, List, [], ◌∷◌, ◌++◌, Some, None, Option}
use Rattle.arena.specs.declared.handle.Handle.{Handle}
use Rattle.arena.specs.Pools.{live, next, room}
use Rattle.arena.specs.Shelves.{Shelf, at, entered}
use Rattle.records.specs.declared.basic_block.BasicBlock.{BasicBlock}
use Rattle.records.specs.declared.handles.BlockPtr.{BlockPtr}
use Rattle.records.specs.declared.handles.OpPtr.{OpPtr}
use Rattle.records.specs.declared.handles.RegionPtr.{RegionPtr}
use Rattle.records.specs.declared.kind.Kind.{Kind}
use Rattle.records.specs.declared.making.MadeOperation.{MadeOperation}
use Rattle.records.specs.declared.operation.Operation.{Operation}
use Rattle.records.specs.declared.region.Region.{Region}
use Rattle.records.specs.Models.{Model, region_of, next_op, next_block, next_region}

-- the index-th region of an operation, with its one block if it has one
abbrev pub new_region : OpPtr → Option BlockPtr → ℕ → Region
new_region op body index = record { parent_op = op; index = index; head = body; tail = body }

-- a block in no region, or in this one alone; it has no operations
abbrev pub new_block : Option RegionPtr → BasicBlock
new_block container = record { head = None; tail = None; next = None; prev = None; container = container }

-- the regions' table after n regions of an operation were made one after the other
unfoldable pub with_regions : OpPtr → Option BlockPtr → ℕ → Shelf Region → Shelf Region
with_regions op body zero a = a
with_regions op body (suc n) a = entered (new_region op body n) (with_regions op body n a)

-- the handles of those regions, in order
unfoldable pub region_ptrs : OpPtr → Option BlockPtr → ℕ → Shelf Region → List RegionPtr
region_ptrs op body zero a = []
region_ptrs op body (suc n) a = region_ptrs op body n a ++ region_of (next (with_regions op body n a).pool) ∷ []

-- the handle that the body of a table gets
abbrev pub body_of : Bool → Model → Option BlockPtr
body_of true m = Some (next_block m)
body_of false m = None

-- a new operation stands in no block, and its note is 0
abbrev pub new_operation : Kind → Option ℕ → List RegionPtr → Operation
new_operation kind name regions =
    record { kind = kind; name = name; regions = regions; note = 0; next = None; prev = None; container = None }

-- the blocks' table after a making: a table's body stands in the operation's region
abbrev pub with_body : Bool → Model → Shelf BasicBlock
with_body true m = entered (new_block (Some (next_region m))) m.blocks
with_body false m = m.blocks

-- the regions made for an operation, in order
abbrev pub regions_made : Kind → ℕ → Model → List RegionPtr
regions_made kind count m = region_ptrs (next_op m) (body_of kind.table m) count m.regions

-- the store after an operation was made, with its regions and, for a table, its body
abbrev pub with_operation : Kind → Option ℕ → ℕ → Model → Model
with_operation kind name count m = record {
  operations = entered (new_operation kind name (regions_made kind count m)) m.operations;
  blocks = with_body kind.table m;
  regions = with_regions (next_op m) (body_of kind.table m) count m.regions;
}

-- what that making answers: all nodes made
abbrev pub operation_made : Kind → ℕ → Model → MadeOperation
operation_made kind count m =
    record { operation = next_op m; regions = regions_made kind count m; body = body_of kind.table m }

-- the store after a block was made; it stands in no region
abbrev pub with_block : Model → Model
with_block m = record { operations = m.operations; blocks = entered (new_block None) m.blocks; regions = m.regions }

-- how many records of each kind a making needs: one operation, its regions, and a block for a table
abbrev pub blocks_needed : Bool → ℕ
blocks_needed true = 1
blocks_needed false = 0

-- enough records are free
pub record Roomy (kind : Kind) (count : ℕ) (m : Model) : Type 0 where
  pub operations : 1 ≤ room m.operations.pool
  pub blocks : blocks_needed kind.table ≤ room m.blocks.pool
  pub regions : count ≤ room m.regions.pool

-- every live handle of one table names afterwards what it named
pub record Keeps {T : Type 0} (a b : Shelf T) : Type 0 where
  pub keeps : (k : Handle) → live a.pool k ≡ true → at b k ≡ at a k

-- A making keeps all live nodes as they were.
pub record AllKept (m n : Model) : Type 0 where
  pub operations : Keeps m.operations n.operations
  pub blocks : Keeps m.blocks n.blocks
  pub regions : Keeps m.regions n.regions
