use Rattle.orders.proofs.Logs.{seen_once}
use Rattle.orders.proofs.laws.seen_once.Goals as goal

pub returns : goal.returns
returns g c = seen_once
