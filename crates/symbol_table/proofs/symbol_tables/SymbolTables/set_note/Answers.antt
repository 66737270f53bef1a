use Rattle.std.proofs.Common.{refl}
use Rattle.forest.specs.Calls.{Noted, handle_rows}
use Rattle.mappings.specs.Held.{mapped}
use Rattle.symbol_table.specs.Carried.{nodes}
use Rattle.symbol_table.proofs.Carrying.{noted}
use Rattle.symbol_table.proofs.Stores.{carried, whole}
use Rattle.symbol_table.proofs.symbol_tables.SymbolTables.set_note.Goals as goal

pub invariant_of-self : goal.invariant_of-self
invariant_of-self c =
    let s = c.args.self.now in
    let w = noted s.forest c.set_note.new.self (mapped s.mappings) (whole s) c.args.op c.args.note c.set_note.result c.set_note.ensures in
    record { bodied = w.bodied; named = w.named; follows = w.follows }

pub returns : goal.returns
returns c =
    let s = c.args.self.now in
    carried (handle_rows (nodes s) c.args.op) (λ _ u. Noted s.forest c.args.op c.args.note u) s _ refl c.set_note.result c.set_note.ensures
