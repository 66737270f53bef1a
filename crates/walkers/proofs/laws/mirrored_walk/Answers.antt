use Rattle.walkers.proofs.WalkLaws.{mirrored_walk}
use Rattle.walkers.proofs.laws.mirrored_walk.Goals as goal

pub returns : goal.returns
returns g c = mirrored_walk
