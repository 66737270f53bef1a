use Rattle.symbol_table.proofs.Erased.{op_whole}
use Rattle.symbol_table.proofs.symbol_tables.SymbolTables.erase_op.Goals as goal

pub invariant_of-self-2 : goal.invariant_of-self-2
invariant_of-self-2 c =
    let e = c.in_ok-erase_op.ensures in
    let w = op_whole c.args.self.now c.erase_op.new.self c.end_names.new.mappings c.end_names.ensures c.args.op e.0 e.1 in
    record { bodied = w.bodied; named = w.named; follows = w.follows }
