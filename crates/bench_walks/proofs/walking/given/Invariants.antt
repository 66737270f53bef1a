use Rattle.walkers.specs.HeldWalks.{to_come}
use Rattle.bench_walks.proofs.walking.given.Given as goal

abbrev pub decreases-walk : goal.decreases-walk
decreases-walk l = to_come l.walk
