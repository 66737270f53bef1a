use Rattle.records.specs.declared.ir_node.IRNode.TheVariants as node
use Rattle.script.proofs.Shown.{same_list_at_end}
use Rattle.script.proofs.state.State.walk.Goals as goal

pub returns-in-Operation-clause-same_reference : goal.returns-in-Operation-clause-same_reference
returns-in-Operation-clause-same_reference c = same_list_at_end c.args.self.now.context c.args.config (node.Operation c.in-Operation.op) c.args.trail.now _ c.walk_op.new.visitor c.walk_op.ensures

pub returns-in-BasicBlock-clause-same_reference : goal.returns-in-BasicBlock-clause-same_reference
returns-in-BasicBlock-clause-same_reference c = same_list_at_end c.args.self.now.context c.args.config (node.BasicBlock c.in-BasicBlock.block) c.args.trail.now _ c.walk_block.new.visitor c.walk_block.ensures

pub returns-in-Region-clause-same_reference : goal.returns-in-Region-clause-same_reference
returns-in-Region-clause-same_reference c = same_list_at_end c.args.self.now.context c.args.config (node.Region c.in-Region.region) c.args.trail.now _ c.walk_region.new.visitor c.walk_region.ensures
