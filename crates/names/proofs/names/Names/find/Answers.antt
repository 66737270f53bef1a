use Rattle.names.proofs.Holding.{looked}
use Rattle.names.proofs.names.Names.find.Goals as goal

pub returns : goal.returns
returns c = looked c.args.self.now c.deref.result.now c.args.name c.get.result c.deref.ensures.value c.get.ensures.meaning
