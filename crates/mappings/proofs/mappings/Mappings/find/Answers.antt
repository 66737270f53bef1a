use Rattle.mappings.proofs.Holding.{found}
use Rattle.mappings.proofs.mappings.Mappings.find.Goals as goal

pub returns : goal.returns
returns c = found c.args.self.now c.deref.result.now c.args.table c.args.name c.get.result c.deref.ensures.value c.get.ensures.meaning
