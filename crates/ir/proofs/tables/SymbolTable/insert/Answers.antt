use Rattle.std.proofs.Common.{refl}
use Rattle.symbol_table.specs.Inserting.{Inserted, insert_rows}
use Rattle.ir.specs.Stores.{nodes}
use Rattle.ir.specs.Tables.{SymbolInserted}
use Rattle.ir.proofs.Numbering.{answered, inserted_held, numbers_held}
use Rattle.ir.proofs.tables.SymbolTable.insert.Goals as goal

pub invariant_of-context : goal.invariant_of-context
invariant_of-context c =
    let s = c.args.context.now in
    record { numbers = ∣ inserted_held s.tables c.insert.new.self _ (numbers_held _ _ s.numbers) c.args.self.op c.args.op c.args.point c.insert.result c.insert.ensures ∣₁ }

pub returns : goal.returns
returns c =
    let s = c.args.context.now in
    let t = c.args.self.op in
    answered (insert_rows (nodes s) t c.args.op c.args.point) (λ _ u. Inserted s.tables t c.args.op c.args.point u) (λ _ u. SymbolInserted s t c.args.op c.args.point u) s _ refl
    (λ x e. record { inserted = e; held = refl }) c.insert.result c.insert.ensures
