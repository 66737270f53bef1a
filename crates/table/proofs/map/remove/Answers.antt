use Rattle.std.proofs.Common.{rules}
use Rattle.table.proofs.Searching.{got}
use Rattle.table.proofs.Taking.{take_none}
use Rattle.table.proofs.map.remove.Goals as goal

pub returns-in_err-x : goal.returns-in_err-x
returns-in_err-x g c = take_none _ _ _ _ (search rules) (got _ _ _ _ _ c.find.ensures (search rules))
