-- The store of operations, blocks and regions as tables of records.
use Rattle.std.specs.Prelude.{◌≡◌, Option}
use Rattle.arena.specs.declared.handle.Handle.{Handle}
use Rattle.arena.specs.Pools.{next, unused_pool}
use Rattle.arena.specs.Recorded.{shelf}
use Rattle.arena.specs.Shelves.{Shelf, at}
use Rattle.records.specs.declared.basic_block.BasicBlock.{BasicBlock}
use Rattle.records.specs.declared.handles.BlockPtr.{BlockPtr}
use Rattle.records.specs.declared.handles.OpPtr.{OpPtr}
use Rattle.records.specs.declared.handles.RegionPtr.{RegionPtr}
use Rattle.records.specs.declared.operation.Operation.{Operation}
use Rattle.records.specs.declared.records.Records.{Records}
use Rattle.records.specs.declared.region.Region.{Region}

-- The three tables: for each kind which places are in use, at which versions, which are free in which order and how many
-- were ever made, and the records that stand in them.
pub record Model : Type 0 where
  pub operations : Shelf Operation
  pub blocks : Shelf BasicBlock
  pub regions : Shelf Region

-- the tables of the records
abbrev pub tables : Records → Model
tables r = record { operations = shelf r.operations; blocks = shelf r.blocks; regions = shelf r.regions }

-- tables in which nothing was ever made
pub record Untouched (m : Model) : Type 0 where
  pub operations : m.operations.pool ≡ unused_pool 512
  pub blocks : m.blocks.pool ≡ unused_pool 256
  pub regions : m.regions.pool ≡ unused_pool 256

-- the operation's record that a handle names, or none where it is dead
abbrev pub operation_at : Model → OpPtr → Option Operation
operation_at m p = at m.operations p.handle

-- the same for a block
abbrev pub block_at : Model → BlockPtr → Option BasicBlock
block_at m p = at m.blocks p.handle

-- the same for a region
abbrev pub region_at : Model → RegionPtr → Option Region
region_at m p = at m.regions p.handle

-- a handle as one of an operation, of a block, of a region
abbrev pub op_of : Handle → OpPtr
op_of h = record { handle = h }

abbrev pub block_of : Handle → BlockPtr
block_of h = record { handle = h }

abbrev pub region_of : Handle → RegionPtr
region_of h = record { handle = h }

-- the operation, the block and the region that the next making of each gives
abbrev pub next_op : Model → OpPtr
next_op m = op_of (next m.operations.pool)

abbrev pub next_block : Model → BlockPtr
next_block m = block_of (next m.blocks.pool)

abbrev pub next_region : Model → RegionPtr
next_region m = region_of (next m.regions.pool)
