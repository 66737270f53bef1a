use Rattle.identifier.specs.Identifiers.{text}
use Rattle.ir.proofs.Tabling.{found, nowhere_found}
use Rattle.ir.proofs.context.Context.find_symbol.Goals as goal

pub returns-in_default : goal.returns-in_default
returns-in_default c = nowhere_found c.args.self.now c.args.table (text c.args.name) c.in_default.ensures

pub returns : goal.returns
returns c = found c.args.self.now c.args.table (text c.args.name) c.in-Some.number c.in-Some.ensures c.lookup.result c.lookup.ensures.stands
