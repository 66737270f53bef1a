use Rattle.std.proofs.Common.{refl}
use Rattle.script.proofs.Keeping.{found_block}
use Rattle.script.proofs.state.State.run_make_block.Goals as goal

pub invariant_of-self-2 : goal.invariant_of-self-2
invariant_of-self-2 c = record { found = found_block c.args.self.now _ _ _ _ _ _ c.in_ok-block.ensures refl c.number.ensures }
