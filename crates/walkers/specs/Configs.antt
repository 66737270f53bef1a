-- What a configuration says of a node.
use Rattle.std.specs.Prelude.{Bool, true, false}
use Rattle.records.specs.declared.ir_node.IRNode.{IRNode}
use Rattle.records.specs.declared.ir_node.IRNode.TheVariants as node
use Rattle.walkers.specs.declared.config.Direction.{Direction}
use Rattle.walkers.specs.declared.config.Direction.TheVariants.{Forward, Reverse}
use Rattle.walkers.specs.declared.config.Order.{Order}
use Rattle.walkers.specs.declared.config.Order.TheVariants.{PreOrder, PostOrder}
use Rattle.walkers.specs.declared.config.WalkConfig.{WalkConfig}

-- whether the order is that of nodes shown before their children
abbrev pub is_pre : Order → Bool
is_pre PreOrder = true
is_pre PostOrder = false

-- whether the direction is from the last to the first
abbrev pub is_reverse : Direction → Bool
is_reverse Forward = false
is_reverse Reverse = true

-- the order and direction of a node as a parent
abbrev pub as_parent : WalkConfig → IRNode → Order × Direction
as_parent k (node.Operation op) = k.regions_in_op
as_parent k (node.BasicBlock block) = k.ops_in_block
as_parent k (node.Region region) = k.blocks_in_region

-- the order and direction of the parent that a node may have
abbrev pub as_child : WalkConfig → IRNode → Order × Direction
as_child k (node.Operation op) = k.ops_in_block
as_child k (node.BasicBlock block) = k.blocks_in_region
as_child k (node.Region region) = k.regions_in_op

-- which nodes are shown before their children
abbrev pub early : WalkConfig → IRNode → Bool
early k n = is_pre (as_parent k n).0

-- each node before its children, these from the first to the last
abbrev pub preorder_forward : WalkConfig
preorder_forward = record {
  regions_in_op = (PreOrder, Forward);
  ops_in_block = (PreOrder, Forward);
  blocks_in_region = (PreOrder, Forward);
}

-- the other order, and the other direction
abbrev pub other_order : Order → Order
other_order PreOrder = PostOrder
other_order PostOrder = PreOrder

abbrev pub other_direction : Direction → Direction
other_direction Forward = Reverse
other_direction Reverse = Forward

-- both
abbrev pub other_pair : Order × Direction → Order × Direction
other_pair p = (other_order p.0, other_direction p.1)

-- the configuration with all orders and directions turned about
abbrev pub mirror : WalkConfig → WalkConfig
mirror k = record {
  regions_in_op = other_pair k.regions_in_op;
  ops_in_block = other_pair k.ops_in_block;
  blocks_in_region = other_pair k.blocks_in_region;
}
