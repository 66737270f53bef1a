use Rattle.std.proofs.Common.{refl}
use Rattle.forest.specs.Forests.{model}
use Rattle.forest.specs.Linkings.{BlockUnlinked, unlink_block_rows}
use Rattle.mappings.specs.Held.{mapped}
use Rattle.symbol_table.specs.Carried.{nodes}
use Rattle.symbol_table.proofs.Carrying.{unlinked_block}
use Rattle.symbol_table.proofs.Stores.{carried, whole}
use Rattle.symbol_table.proofs.symbol_tables.SymbolTables.unlink_block.Goals as goal

pub invariant_of-self : goal.invariant_of-self
invariant_of-self c =
    let s = c.args.self.now in
    let w = unlinked_block s.forest c.unlink_block.new.self (mapped s.mappings) (whole s) c.args.block c.unlink_block.result c.unlink_block.ensures in
    record { bodied = w.bodied; named = w.named; follows = w.follows }

pub returns : goal.returns
returns c =
    let s = c.args.self.now in
    carried (unlink_block_rows (nodes s) c.args.block) (λ _ u. BlockUnlinked (nodes s) c.args.block (model u)) s _ refl c.unlink_block.result c.unlink_block.ensures
