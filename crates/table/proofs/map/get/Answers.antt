use Rattle.std.proofs.Common.{rules}
use Rattle.table.proofs.Searching.{got}
use Rattle.table.proofs.map.get.Goals as goal

pub returns-clause-meaning : goal.returns-clause-meaning
returns-clause-meaning g c = got _ _ _ _ _ c.find.ensures (search rules)
