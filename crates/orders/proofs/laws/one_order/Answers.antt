use Rattle.orders.proofs.Orders.{one}
use Rattle.orders.proofs.laws.one_order.Goals as goal

pub returns : goal.returns
returns g c = λ early children ns xs ys t u. one t u
