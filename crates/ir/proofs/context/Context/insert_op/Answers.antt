use Rattle.std.proofs.Common.{refl}
use Rattle.forest.specs.Forests.{model}
use Rattle.forest.specs.Linkings.{OpLinked, link_op_rows}
use Rattle.symbol_table.specs.Carried.{Carried}
use Rattle.ir.specs.Linkings.{OpInserted}
use Rattle.ir.specs.Stores.{nodes}
use Rattle.ir.proofs.Numbering.{answered, op_linked_held, numbers_held}
use Rattle.ir.proofs.context.Context.insert_op.Goals as goal

pub invariant_of-self : goal.invariant_of-self
invariant_of-self c = record { numbers = ∣ op_linked_held c.args.self.now.tables c.link_op.new.self _ (numbers_held _ _ c.args.self.now.numbers) c.args.op c.args.spot c.link_op.result c.link_op.ensures ∣₁ }

pub returns : goal.returns
returns c =
    let s = c.args.self.now in
    answered (link_op_rows (nodes s) c.args.op c.args.spot) (Carried (λ _ u. OpLinked (nodes s) c.args.op c.args.spot (model u)) s.tables) (λ _ u. OpInserted s c.args.op c.args.spot u) s _ refl (λ x e. record { linked = e.0; held = refl; mapped = e.1 }) c.link_op.result c.link_op.ensures
