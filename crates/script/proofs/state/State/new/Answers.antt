use Rattle.script.proofs.Keeping.{found_none}
use Rattle.script.proofs.state.State.new.Goals as goal

pub invariant_of-result : goal.invariant_of-result
invariant_of-result c = record { found = found_none _ _ _ _ c.in_ok-context.ensures c.in_ok-operations.ensures c.in_ok-blocks.ensures c.in_ok-regions.ensures }
