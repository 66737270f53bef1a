use Rattle.std.proofs.Common.{refl}
use Rattle.symbol_table.specs.Inserting.{Removed, remove_rows}
use Rattle.ir.specs.Stores.{nodes}
use Rattle.ir.specs.Tables.{SymbolRemoved}
use Rattle.ir.proofs.Numbering.{answered, numbers_held, removed_held}
use Rattle.ir.proofs.tables.SymbolTable.remove.Goals as goal

pub invariant_of-context : goal.invariant_of-context
invariant_of-context c =
    let s = c.args.context.now in
    record { numbers = ∣ removed_held s.tables c.remove.new.self _ (numbers_held _ _ s.numbers) c.args.self.op c.args.op c.remove.result c.remove.ensures ∣₁ }

pub returns : goal.returns
returns c =
    let s = c.args.context.now in
    let t = c.args.self.op in
    answered (remove_rows (nodes s) t c.args.op) (λ _ u. Removed s.tables t c.args.op u) (λ _ u. SymbolRemoved s t c.args.op u) s _ refl
    (λ x e. record { removed = e; held = refl }) c.remove.result c.remove.ensures
