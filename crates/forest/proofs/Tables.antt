-- What always holds of the three tables of a store. Assumes nothing.
use Rattle.std.proofs.Common.{◌≡◌, length}
use Rattle.arena.specs.Pools.{Sound}
use Rattle.arena.specs.Shelves.{Shelf}
use Rattle.arena.proofs.Shelving.{shelf_long, sound_shelf}
use Rattle.records.specs.declared.records.Records.{Records}
use Rattle.records.specs.Models.{Model, tables}

-- a table has a record for each place
abbrev pub Even : {T : Type 0} → Shelf T → Type 0
Even a = length a.records ≡ length a.pool.slots

-- what always holds of the three tables
pub record Tables (m : Model) : Type 0 where
  pub op_places : Sound m.operations.pool
  pub block_places : Sound m.blocks.pool
  pub region_places : Sound m.regions.pool
  pub ops_even : Even m.operations
  pub blocks_even : Even m.blocks
  pub regions_even : Even m.regions

-- the tables of a store are as they always are
pub tables_of : (r : Records) → Tables (tables r)
tables_of r = record {
  op_places = sound_shelf r.operations;
  block_places = sound_shelf r.blocks;
  region_places = sound_shelf r.regions;
  ops_even = shelf_long r.operations;
  blocks_even = shelf_long r.blocks;
  regions_even = shelf_long r.regions;
}
