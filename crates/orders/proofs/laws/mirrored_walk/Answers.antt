use Rattle.orders.proofs.Logs.{mirrored_walk}
use Rattle.orders.proofs.laws.mirrored_walk.Goals as goal

pub returns : goal.returns
returns g c = mirrored_walk
