use Rattle.std.proofs.Common.{refl}
use Rattle.forest.specs.Forests.{model}
use Rattle.forest.specs.Linkings.{OpLinked, link_op_rows}
use Rattle.mappings.specs.Held.{mapped}
use Rattle.symbol_table.specs.Carried.{nodes}
use Rattle.symbol_table.proofs.Carrying.{linked_op}
use Rattle.symbol_table.proofs.Stores.{carried, whole}
use Rattle.symbol_table.proofs.symbol_tables.SymbolTables.link_op.Goals as goal

pub invariant_of-self : goal.invariant_of-self
invariant_of-self c =
    let s = c.args.self.now in
    let w = linked_op s.forest c.link_op.new.self (mapped s.mappings) (whole s) c.args.op c.args.spot c.link_op.result c.link_op.ensures in
    record { bodied = w.bodied; named = w.named; follows = w.follows }

pub returns : goal.returns
returns c =
    let s = c.args.self.now in
    carried (link_op_rows (nodes s) c.args.op c.args.spot) (λ _ u. OpLinked (nodes s) c.args.op c.args.spot (model u)) s _ refl c.link_op.result c.link_op.ensures
