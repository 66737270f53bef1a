use Rattle.std.proofs.Common.{refl}
use Rattle.forest.specs.Forests.{model}
use Rattle.forest.specs.Linkings.{BlockLinked, link_block_rows}
use Rattle.symbol_table.specs.Carried.{Carried}
use Rattle.ir.specs.Linkings.{BlockInserted}
use Rattle.ir.specs.Stores.{nodes}
use Rattle.ir.proofs.Numbering.{answered, block_linked_held, numbers_held}
use Rattle.ir.proofs.context.Context.insert_block.Goals as goal

pub invariant_of-self : goal.invariant_of-self
invariant_of-self c = record { numbers = ∣ block_linked_held c.args.self.now.tables c.link_block.new.self _ (numbers_held _ _ c.args.self.now.numbers) c.args.block c.args.spot c.link_block.result c.link_block.ensures ∣₁ }

pub returns : goal.returns
returns c =
    let s = c.args.self.now in
    answered (link_block_rows (nodes s) c.args.block c.args.spot) (Carried (λ _ u. BlockLinked (nodes s) c.args.block c.args.spot (model u)) s.tables) (λ _ u. BlockInserted s c.args.block c.args.spot u) s _ refl (λ x e. record { linked = e.0; held = refl; mapped = e.1 }) c.link_block.result c.link_block.ensures
