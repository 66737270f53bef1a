-- The order and direction of each constant at every node. Assumes nothing.
use Rattle.std.proofs.Common.{◌≡◌, refl}
use Rattle.records.specs.declared.ir_node.IRNode.{IRNode}
use Rattle.records.specs.declared.ir_node.IRNode.TheVariants as node
use Rattle.walkers.specs.declared.config.Direction.TheVariants.{Forward, Reverse}
use Rattle.walkers.specs.declared.config.Order.TheVariants.{PreOrder, PostOrder}
use Rattle.walkers.specs.declared.config.TheConstants.{WALKCONFIG_PREORDER_FORWARD, WALKCONFIG_POSTORDER_FORWARD, WALKCONFIG_PREORDER_REVERSE, WALKCONFIG_POSTORDER_REVERSE}
use Rattle.walkers.specs.Configs.{as_parent}

pub preorder_forward : (n : IRNode) → as_parent WALKCONFIG_PREORDER_FORWARD n ≡ (PreOrder, Forward)
preorder_forward (node.Operation op) = refl
preorder_forward (node.BasicBlock block) = refl
preorder_forward (node.Region region) = refl

pub postorder_forward : (n : IRNode) → as_parent WALKCONFIG_POSTORDER_FORWARD n ≡ (PostOrder, Forward)
postorder_forward (node.Operation op) = refl
postorder_forward (node.BasicBlock block) = refl
postorder_forward (node.Region region) = refl

pub preorder_reverse : (n : IRNode) → as_parent WALKCONFIG_PREORDER_REVERSE n ≡ (PreOrder, Reverse)
preorder_reverse (node.Operation op) = refl
preorder_reverse (node.BasicBlock block) = refl
preorder_reverse (node.Region region) = refl

pub postorder_reverse : (n : IRNode) → as_parent WALKCONFIG_POSTORDER_REVERSE n ≡ (PostOrder, Reverse)
postorder_reverse (node.Operation op) = refl
postorder_reverse (node.BasicBlock block) = refl
postorder_reverse (node.Region region) = refl
