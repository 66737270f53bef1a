use Rattle.script.proofs.Keeping.{found_op_taken}
use Rattle.script.proofs.state.State.run_unlink_operation.Goals as goal

pub invariant_of-self : goal.invariant_of-self
invariant_of-self c = record { found = found_op_taken c.args.self.now _ _ _ c.unlink_op.ensures }
