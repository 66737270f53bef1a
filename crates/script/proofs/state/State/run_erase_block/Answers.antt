use Rattle.script.proofs.Keeping.{found_block_erased}
use Rattle.script.proofs.state.State.run_erase_block.Goals as goal

pub invariant_of-self : goal.invariant_of-self
invariant_of-self c = record { found = found_block_erased c.args.self.now _ _ _ c.erase_block.ensures }
