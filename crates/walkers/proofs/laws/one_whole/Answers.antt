use Rattle.walkers.proofs.WalkLaws.{one_whole}
use Rattle.walkers.proofs.laws.one_whole.Goals as goal

pub returns : goal.returns
returns c = one_whole
