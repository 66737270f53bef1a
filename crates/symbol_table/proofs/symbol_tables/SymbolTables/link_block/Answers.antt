use Rattle.std.proofs.Common.{refl}
use Rattle.forest.specs.Forests.{model}
use Rattle.forest.specs.Linkings.{BlockLinked, link_block_rows}
use Rattle.mappings.specs.Held.{mapped}
use Rattle.symbol_table.specs.Carried.{nodes}
use Rattle.symbol_table.proofs.Carrying.{linked_block}
use Rattle.symbol_table.proofs.Stores.{carried, whole}
use Rattle.symbol_table.proofs.symbol_tables.SymbolTables.link_block.Goals as goal

pub invariant_of-self : goal.invariant_of-self
invariant_of-self c =
    let s = c.args.self.now in
    let w = linked_block s.forest c.link_block.new.self (mapped s.mappings) (whole s) c.args.block c.args.spot c.link_block.result c.link_block.ensures in
    record { bodied = w.bodied; named = w.named; follows = w.follows }

pub returns : goal.returns
returns c =
    let s = c.args.self.now in
    carried (link_block_rows (nodes s) c.args.block c.args.spot) (λ _ u. BlockLinked (nodes s) c.args.block c.args.spot (model u)) s _ refl c.link_block.result c.link_block.ensures
