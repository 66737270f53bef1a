use Rattle.symbol_table.proofs.Freshness.{fresh_whole}
use Rattle.symbol_table.proofs.symbol_tables.SymbolTables.new.Goals as goal

pub invariant_of-result : goal.invariant_of-result
invariant_of-result c =
    let w = fresh_whole c.in_ok-forest.forest c.in_ok-mappings.mappings c.in_ok-forest.ensures c.in_ok-mappings.ensures in
    record { bodied = w.bodied; named = w.named; follows = w.follows }
