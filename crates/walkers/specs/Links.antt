-- The neighbours of a node as the tables of records have them, and how a walk reads them.
use Rattle.std.specs.Prelude.{ℕ, ◌+◌, ◌-◌, ◌==◌, cond, length, None, Option}
use Rattle.std.specs.Option.{option_map}
use Rattle.arena.specs.Pools.{live}
use Rattle.arena.specs.Shelves.{item}
use Rattle.linked_list.specs.Links.{View}
use Rattle.records.specs.declared.ir_node.IRNode.{IRNode}
use Rattle.records.specs.declared.ir_node.IRNode.TheVariants as node
use Rattle.records.specs.declared.handles.OpPtr.{OpPtr}
use Rattle.records.specs.declared.handles.RegionPtr.{RegionPtr}
use Rattle.records.specs.declared.region.Region.{Region}
use Rattle.records.specs.Children.{is_live}
use Rattle.records.specs.Models.{Model, operation_at, region_at}
use Rattle.records.specs.Nodes.{owner, parent, regions_of}
use Rattle.records.specs.Views.{block_links, op_links, part}
use Rattle.orders.specs.Places.{Links}
use Rattle.orders.specs.Trees.{Raw, Reading, read}
use Rattle.walkers.specs.declared.config.WalkConfig.{WalkConfig}
use Rattle.walkers.specs.Configs.{as_child, as_parent, early, is_reverse}

-- the region of an operation at an index, or none past its last; a dead operation has none
abbrev pub nth_region : Model → ℕ → OpPtr → Option RegionPtr
nth_region m i op = part (λ o. item (regions_of o) i) (operation_at m op)

-- the last region of an operation
abbrev pub last_region : Model → OpPtr → Option RegionPtr
last_region m op = part (λ o. item (regions_of o) (length (regions_of o) - 1)) (operation_at m op)

-- the region after a region, and the one before it, in the operation to which it belongs
abbrev pub after_it : Model → Region → Option RegionPtr
after_it m x = nth_region m (x.index + 1) x.parent_op

abbrev pub before_it : Model → Region → Option RegionPtr
before_it m x = cond (x.index == 0) None (nth_region m (x.index - 1) x.parent_op)

-- regions in operations, as blocks in regions and operations in blocks
abbrev pub region_links : Model → View RegionPtr OpPtr
region_links m = record {
  live = λ r. live m.regions.pool r.handle;
  held = λ op. live m.operations.pool op.handle;
  next = λ r. part (after_it m) (region_at m r);
  prev = λ r. part (before_it m) (region_at m r);
  within = owner m;
  head = nth_region m 0;
  tail = last_region m;
}

-- the first child of a node, and its last
abbrev pub first_child : Model → IRNode → Option IRNode
first_child m (node.Operation op) = option_map node.Region ((region_links m).head op)
first_child m (node.BasicBlock block) = option_map node.Operation ((op_links m).head block)
first_child m (node.Region region) = option_map node.BasicBlock ((block_links m).head region)

abbrev pub last_child : Model → IRNode → Option IRNode
last_child m (node.Operation op) = option_map node.Region ((region_links m).tail op)
last_child m (node.BasicBlock block) = option_map node.Operation ((op_links m).tail block)
last_child m (node.Region region) = option_map node.BasicBlock ((block_links m).tail region)

-- the sibling after a node, and the one before it
abbrev pub next_sibling : Model → IRNode → Option IRNode
next_sibling m (node.Operation op) = option_map node.Operation ((op_links m).next op)
next_sibling m (node.BasicBlock block) = option_map node.BasicBlock ((block_links m).next block)
next_sibling m (node.Region region) = option_map node.Region ((region_links m).next region)

abbrev pub prev_sibling : Model → IRNode → Option IRNode
prev_sibling m (node.Operation op) = option_map node.Operation ((op_links m).prev op)
prev_sibling m (node.BasicBlock block) = option_map node.BasicBlock ((block_links m).prev block)
prev_sibling m (node.Region region) = option_map node.Region ((region_links m).prev region)

-- one number for each place: operations, then blocks, then regions
abbrev pub place_of : IRNode → ℕ
place_of (node.Operation op) = op.handle.place
place_of (node.BasicBlock block) = 512 + block.handle.place
place_of (node.Region region) = 768 + region.handle.place

-- the links of all nodes, which have 1,024 places
unfoldable pub raw : Model → Raw IRNode
raw m = record {
  first = first_child m;
  last = last_child m;
  next = next_sibling m;
  prev = prev_sibling m;
  up = parent m;
  live = is_live m;
  place = place_of;
  limit = 1024;
}

-- how a configuration reads the links
unfoldable pub reading : WalkConfig → Reading IRNode
reading k = record {
  early = early k;
  turn_in = λ n. is_reverse (as_parent k n).1;
  turn_on = λ n. is_reverse (as_child k n).1;
}

-- the links that a walk follows
unfoldable pub links : Model → WalkConfig → Links IRNode
links m k = read (raw m) (reading k)
