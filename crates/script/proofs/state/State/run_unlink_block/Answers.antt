use Rattle.script.proofs.Keeping.{found_block_taken}
use Rattle.script.proofs.state.State.run_unlink_block.Goals as goal

pub invariant_of-self : goal.invariant_of-self
invariant_of-self c = record { found = found_block_taken c.args.self.now _ _ _ c.unlink_block.ensures }
