use Rattle.std.proofs.Common.{refl}
use Rattle.forest.specs.Forests.{model}
use Rattle.forest.specs.Linkings.{OpUnlinked, unlink_op_rows}
use Rattle.mappings.specs.Held.{mapped}
use Rattle.symbol_table.specs.Carried.{nodes}
use Rattle.symbol_table.proofs.Carrying.{unlinked_op}
use Rattle.symbol_table.proofs.Stores.{carried, whole}
use Rattle.symbol_table.proofs.symbol_tables.SymbolTables.unlink_op.Goals as goal

pub invariant_of-self : goal.invariant_of-self
invariant_of-self c =
    let s = c.args.self.now in
    let w = unlinked_op s.forest c.unlink_op.new.self (mapped s.mappings) (whole s) c.args.op c.unlink_op.result c.unlink_op.ensures in
    record { bodied = w.bodied; named = w.named; follows = w.follows }

pub returns : goal.returns
returns c =
    let s = c.args.self.now in
    carried (unlink_op_rows (nodes s) c.args.op) (λ _ u. OpUnlinked (nodes s) c.args.op (model u)) s _ refl c.unlink_op.result c.unlink_op.ensures
