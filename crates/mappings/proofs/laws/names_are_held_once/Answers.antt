use Rattle.mappings.proofs.Counting.{once, follow}
use Rattle.mappings.proofs.laws.names_are_held_once.Goals as goal

pub returns : goal.returns
returns c = record { once = once; counts = follow }
