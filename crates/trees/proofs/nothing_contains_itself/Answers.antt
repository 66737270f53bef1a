use Rattle.trees.proofs.Climbing.{not_itself}
use Rattle.trees.proofs.nothing_contains_itself.Goals as goal

pub returns : goal.returns
returns g c = not_itself
