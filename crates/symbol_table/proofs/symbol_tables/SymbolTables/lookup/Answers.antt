use Rattle.mappings.specs.Held.{mapped}
use Rattle.symbol_table.specs.Carried.{nodes}
use Rattle.symbol_table.proofs.Findings.{follows_in, looks_up}
use Rattle.symbol_table.proofs.symbol_tables.SymbolTables.lookup.Goals as goal

pub returns-clause-stands : goal.returns-clause-stands
returns-clause-stands c = let s = c.args.self.now in looks_up (nodes s) (mapped s.mappings) (follows_in s) c.args.table c.args.number c.find.result c.find.ensures
