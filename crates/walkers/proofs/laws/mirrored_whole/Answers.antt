use Rattle.walkers.proofs.WalkLaws.{mirrored_whole}
use Rattle.walkers.proofs.laws.mirrored_whole.Goals as goal

pub returns : goal.returns
returns c = mirrored_whole
