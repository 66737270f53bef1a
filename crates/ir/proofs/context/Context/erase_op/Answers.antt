use Rattle.std.proofs.Common.{refl}
use Rattle.forest.specs.Erasings.{OpErased, erase_op_rows}
use Rattle.symbol_table.specs.Erasing.{Erased}
use Rattle.ir.specs.Erasings.{OpEnded}
use Rattle.ir.specs.Stores.{nodes}
use Rattle.ir.proofs.Erased.{op_erased_held}
use Rattle.ir.proofs.Numbering.{answered, numbers_held}
use Rattle.ir.proofs.context.Context.erase_op.Goals as goal

pub invariant_of-self : goal.invariant_of-self
invariant_of-self c =
    let s = c.args.self.now in
    record { numbers = ∣ op_erased_held s.tables c.erase_op.new.self _ (numbers_held _ _ s.numbers) c.args.op c.erase_op.result c.erase_op.ensures ∣₁ }

pub returns : goal.returns
returns c =
    let s = c.args.self.now in
    answered (erase_op_rows (nodes s) c.args.op) (λ _ u. Erased (OpErased (nodes s) c.args.op) s.tables u) (λ _ u. OpEnded s c.args.op u) s _ refl
    (λ x e. record { erased = e; held = refl }) c.erase_op.result c.erase_op.ensures
