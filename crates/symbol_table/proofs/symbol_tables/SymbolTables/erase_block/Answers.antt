use Rattle.symbol_table.proofs.Erased.{block_whole}
use Rattle.symbol_table.proofs.symbol_tables.SymbolTables.erase_block.Goals as goal

pub invariant_of-self-2 : goal.invariant_of-self-2
invariant_of-self-2 c =
    let e = c.in_ok-erase_block.ensures in
    let w = block_whole c.args.self.now c.erase_block.new.self c.end_names.new.mappings c.end_names.ensures c.args.block e.0 e.1 in
    record { bodied = w.bodied; named = w.named; follows = w.follows }
