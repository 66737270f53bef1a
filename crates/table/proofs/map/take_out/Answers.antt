use Rattle.table.proofs.Taking.{take_at}
use Rattle.table.proofs.map.take_out.Goals as goal

pub returns : goal.returns
returns g c = take_at _ _ _ _ _ _ c.requires c.close.ensures
