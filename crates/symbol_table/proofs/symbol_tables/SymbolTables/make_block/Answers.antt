use Rattle.std.proofs.Common.{refl}
use Rattle.forest.specs.Calls.{BlockMade, block_rows}
use Rattle.mappings.specs.Held.{mapped}
use Rattle.symbol_table.specs.Carried.{nodes}
use Rattle.symbol_table.proofs.Carrying.{made_block}
use Rattle.symbol_table.proofs.Stores.{carried, whole}
use Rattle.symbol_table.proofs.symbol_tables.SymbolTables.make_block.Goals as goal

pub invariant_of-self : goal.invariant_of-self
invariant_of-self c =
    let s = c.args.self.now in
    let w = made_block s.forest c.make_block.new.self (mapped s.mappings) (whole s) c.make_block.result c.make_block.ensures in
    record { bodied = w.bodied; named = w.named; follows = w.follows }

pub returns : goal.returns
returns c =
    let s = c.args.self.now in
    carried (block_rows (nodes s)) (BlockMade s.forest) s _ refl c.make_block.result c.make_block.ensures
