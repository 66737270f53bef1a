use Rattle.orders.proofs.Logs.{one_walk}
use Rattle.orders.proofs.laws.one_walk.Goals as goal

pub returns : goal.returns
returns g c = one_walk
