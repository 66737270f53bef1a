use Rattle.symbol_table.proofs.Erased.{both_done}
use Rattle.symbol_table.proofs.symbol_tables.SymbolTables.erase.Goals as goal

pub returns : goal.returns
returns c = both_done c.args.self.now c.remove.new.self c.erase_op.new.self c.args.table c.args.op c.in_ok-remove.ensures c.erase_op.result c.erase_op.ensures
