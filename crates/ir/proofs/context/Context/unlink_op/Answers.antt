use Rattle.std.proofs.Common.{refl}
use Rattle.forest.specs.Forests.{model}
use Rattle.forest.specs.Linkings.{OpUnlinked, unlink_op_rows}
use Rattle.symbol_table.specs.Carried.{Carried}
use Rattle.ir.specs.Linkings.{OpTaken}
use Rattle.ir.specs.Stores.{nodes}
use Rattle.ir.proofs.Numbering.{answered, op_unlinked_held, numbers_held}
use Rattle.ir.proofs.context.Context.unlink_op.Goals as goal

pub invariant_of-self : goal.invariant_of-self
invariant_of-self c = record { numbers = ∣ op_unlinked_held c.args.self.now.tables c.unlink_op.new.self _ (numbers_held _ _ c.args.self.now.numbers) c.args.op c.unlink_op.result c.unlink_op.ensures ∣₁ }

pub returns : goal.returns
returns c =
    let s = c.args.self.now in
    answered (unlink_op_rows (nodes s) c.args.op) (Carried (λ _ u. OpUnlinked (nodes s) c.args.op (model u)) s.tables) (λ _ u. OpTaken s c.args.op u) s _ refl (λ x e. record { unlinked = e.0; held = refl; mapped = e.1 }) c.unlink_op.result c.unlink_op.ensures
