use Rattle.std.proofs.Common.{refl}
use Rattle.passes.proofs.Counting.{number_call}
use Rattle.passes.proofs.subtree.number_operations.Goals as goal

pub returns : goal.returns
returns c = number_call c.args.context.now c.walk_op.new.context c.args.root (record { count = 0 }) c.walk_op.new.visitor c.walk_op.result refl c.walk_op.ensures
