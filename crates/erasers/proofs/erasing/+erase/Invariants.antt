use Rattle.std.proofs.Common.{◌+◌, ◌*◌}
use Rattle.records.specs.declared.ir_node.IRNode.TheVariants.{BasicBlock, Region}
use Rattle.records.specs.Models.{tables}
use Rattle.erasers.specs.Erasings.{in_lists}
use Rattle.erasers.proofs.Turns.{OpTurn, Turn}
use Rattle.erasers.proofs.erasing.+erase.Given as goal

-- each node that an eraser takes out of its list leaves fewer in lists, and an operation hands its regions on as they are
abbrev pub decreases-erase_block : goal.decreases-erase_block
decreases-erase_block l = 2 * in_lists (tables l.records.now)

abbrev pub decreases-erase_op : goal.decreases-erase_op
decreases-erase_op l = 2 * in_lists (tables l.records.now) + 1

abbrev pub decreases-erase_region : goal.decreases-erase_region
decreases-erase_region l = 2 * in_lists (tables l.records.now)

abbrev pub invariant-erase_block-children : goal.invariant-erase_block-children
invariant-erase_block-children l = Turn (tables l.initial.records) (tables l.records) (BasicBlock l.block)

abbrev pub decreases-erase_block-children : goal.decreases-erase_block-children
decreases-erase_block-children l = in_lists (tables l.records)

abbrev pub invariant-erase_op-children : goal.invariant-erase_op-children
invariant-erase_op-children l = OpTurn (tables l.initial.records) (tables l.records) l.op l.region-items l.region-index

abbrev pub invariant-erase_region-children : goal.invariant-erase_region-children
invariant-erase_region-children l = Turn (tables l.initial.records) (tables l.records) (Region l.region)

abbrev pub decreases-erase_region-children : goal.decreases-erase_region-children
decreases-erase_region-children l = in_lists (tables l.records)
