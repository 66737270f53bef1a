use Rattle.orders.proofs.Orders.{mirrored}
use Rattle.orders.proofs.laws.mirrored.Goals as goal

pub returns : goal.returns
returns g c = λ early late children back other turns ns xs ys t u. mirrored early late children back other turns t u
