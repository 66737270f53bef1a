use Rattle.names.proofs.Holding.{once}
use Rattle.names.proofs.calls.numbers_are_one.Goals as goal

pub returns : goal.returns
returns c = once
