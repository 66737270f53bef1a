-- The children of a node: the regions of an operation, the blocks of a region, the operations of a block.
use Rattle.std.specs.Prelude.{Bool, cond, List, [], map, Some, None, Option}
use Rattle.arena.specs.Pools.{live}
use Rattle.linked_list.specs.Links.{Holds}
use Rattle.records.specs.declared.handles.BlockPtr.{BlockPtr}
use Rattle.records.specs.declared.handles.OpPtr.{OpPtr}
use Rattle.records.specs.declared.handles.RegionPtr.{RegionPtr}
use Rattle.records.specs.declared.ir_node.IRNode.{IRNode}
use Rattle.records.specs.declared.ir_node.IRNode.TheVariants as node
use Rattle.records.specs.declared.operation.Operation.{Operation}
use Rattle.records.specs.Models.{Model, operation_at}
use Rattle.records.specs.Nodes.{regions_of}
use Rattle.records.specs.Views.{block_links, op_links}

-- The lists that the links of a store describe: the operations of each block and the blocks of each region.
pub record Lists (m : Model) : Type 0 where
  pub ops : BlockPtr → List OpPtr
  pub blocks : RegionPtr → List BlockPtr
  pub ops_hold : Holds (op_links m) ops
  pub blocks_hold : Holds (block_links m) blocks

-- the regions of what may be an operation
abbrev pub regions_in : Option Operation → List RegionPtr
regions_in None = []
regions_in (Some o) = regions_of o

-- the children of a node, in order; a dead node has none
abbrev pub children : (m : Model) → Lists m → IRNode → List IRNode
children m l (node.Operation op) = map node.Region (regions_in (operation_at m op))
children m l (node.BasicBlock block) = cond (live m.blocks.pool block.handle) (map node.Operation (l.ops block)) []
children m l (node.Region region) = cond (live m.regions.pool region.handle) (map node.BasicBlock (l.blocks region)) []

-- the node is live
abbrev pub is_live : Model → IRNode → Bool
is_live m (node.Operation op) = live m.operations.pool op.handle
is_live m (node.BasicBlock block) = live m.blocks.pool block.handle
is_live m (node.Region region) = live m.regions.pool region.handle
