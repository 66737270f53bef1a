-- The links of operations in blocks, and of blocks in regions, as the tables of records have them.
use Rattle.std.specs.Prelude.{map, Some, None, Option}
use Rattle.arena.specs.Pools.{live}
use Rattle.arena.specs.Shelves.{Shelf}
use Rattle.linked_list.specs.Links.{View}
use Rattle.records.specs.declared.basic_block.BasicBlock.{BasicBlock}
use Rattle.records.specs.declared.handles.BlockPtr.{BlockPtr}
use Rattle.records.specs.declared.handles.OpPtr.{OpPtr}
use Rattle.records.specs.declared.handles.RegionPtr.{RegionPtr}
use Rattle.records.specs.declared.operation.Operation.{Operation}
use Rattle.records.specs.declared.records.Records.{Records}
use Rattle.records.specs.declared.region.Region.{Region}
use Rattle.records.specs.Models.{Model, tables, operation_at, block_at, region_at}

-- a part of a record that may be absent, or none where there is no record
abbrev pub part : {T B : Type 0} → (T → Option B) → Option T → Option B
part f None = None
part f (Some x) = f x

-- operations in blocks; a dead handle has no neighbours, no container and no ends
abbrev pub op_links : Model → View OpPtr BlockPtr
op_links m = record {
  live = λ n. live m.operations.pool n.handle;
  held = λ c. live m.blocks.pool c.handle;
  next = λ n. part (λ o. o.next) (operation_at m n);
  prev = λ n. part (λ o. o.prev) (operation_at m n);
  within = λ n. part (λ o. o.container) (operation_at m n);
  head = λ c. part (λ b. b.head) (block_at m c);
  tail = λ c. part (λ b. b.tail) (block_at m c);
}

-- blocks in regions
abbrev pub block_links : Model → View BlockPtr RegionPtr
block_links m = record {
  live = λ n. live m.blocks.pool n.handle;
  held = λ c. live m.regions.pool c.handle;
  next = λ n. part (λ b. b.next) (block_at m n);
  prev = λ n. part (λ b. b.prev) (block_at m n);
  within = λ n. part (λ b. b.container) (block_at m n);
  head = λ c. part (λ r. r.head) (region_at m c);
  tail = λ c. part (λ r. r.tail) (region_at m c);
}

abbrev pub op_view : Records → View OpPtr BlockPtr
op_view r = op_links (tables r)

abbrev pub block_view : Records → View BlockPtr RegionPtr
block_view r = block_links (tables r)

-- a record without its links as a node
abbrev pub loose_op : Operation → Operation
loose_op o = record { kind = o.kind; name = o.name; regions = o.regions; note = o.note; next = None; prev = None; container = None }

abbrev pub loose_block : BasicBlock → BasicBlock
loose_block b = record { head = b.head; tail = b.tail; next = None; prev = None; container = None }

-- a record without its ends as a container
abbrev pub endless_block : BasicBlock → BasicBlock
endless_block b = record { head = None; tail = None; next = b.next; prev = b.prev; container = b.container }

abbrev pub endless_region : Region → Region
endless_region r = record { parent_op = r.parent_op; index = r.index; head = None; tail = None }

-- a table each of whose records is changed in this way
abbrev pub all_as : {T : Type 0} → (T → T) → Shelf T → Shelf T
all_as f a = record { pool = a.pool; records = map f a.records }

-- all of the tables but the links of operations in blocks
abbrev pub but_op_links : Model → Model
but_op_links m = record {
  operations = all_as loose_op m.operations;
  blocks = all_as endless_block m.blocks;
  regions = m.regions;
}

-- all of the tables but the links of blocks in regions
abbrev pub but_block_links : Model → Model
but_block_links m = record {
  operations = m.operations;
  blocks = all_as loose_block m.blocks;
  regions = all_as endless_region m.regions;
}

-- all of the store but the links of operations in blocks
abbrev pub op_rest : Records → Model
op_rest r = record {
  operations = all_as loose_op (tables r).operations;
  blocks = all_as endless_block (tables r).blocks;
  regions = (tables r).regions;
}

-- all of the store but the links of blocks in regions
abbrev pub block_rest : Records → Model
block_rest r = record {
  operations = (tables r).operations;
  blocks = all_as loose_block (tables r).blocks;
  regions = all_as endless_region (tables r).regions;
}
