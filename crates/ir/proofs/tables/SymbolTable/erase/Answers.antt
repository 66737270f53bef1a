use Rattle.std.proofs.Common.{refl}
use Rattle.symbol_table.specs.Erasing.{ErasedFrom}
use Rattle.symbol_table.specs.Inserting.{remove_rows}
use Rattle.ir.specs.Stores.{nodes}
use Rattle.ir.specs.Tables.{SymbolErased}
use Rattle.ir.proofs.Erased.{symbol_erased_held}
use Rattle.ir.proofs.Numbering.{answered, numbers_held}
use Rattle.ir.proofs.tables.SymbolTable.erase.Goals as goal

pub invariant_of-context : goal.invariant_of-context
invariant_of-context c =
    let s = c.args.context.now in
    record { numbers = ∣ symbol_erased_held s.tables c.erase.new.self _ (numbers_held _ _ s.numbers) c.args.self.op c.args.op c.erase.result c.erase.ensures ∣₁ }

pub returns : goal.returns
returns c =
    let s = c.args.context.now in
    let t = c.args.self.op in
    answered (remove_rows (nodes s) t c.args.op) (λ _ u. ErasedFrom s.tables t c.args.op u) (λ _ u. SymbolErased s t c.args.op u) s _ refl
    (λ x e. record { erased = e; held = refl }) c.erase.result c.erase.ensures
