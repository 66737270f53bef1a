use Rattle.ir.specs.Stores.{nodes}
use Rattle.ir.proofs.Tabling.{nearest_table}
use Rattle.ir.proofs.context.Context.lookup_symbol_in_nearest_table.Goals as goal

pub find_symbol-requires : goal.find_symbol-requires
find_symbol-requires c = nearest_table (nodes c.args.self.now) c.args.op c.in_ok-table.table c.in-Some.table c.in_ok-table.ensures.1 c.in-Some.is
