use Rattle.std.proofs.Common.{refl}
use Rattle.forest.specs.Forests.{model}
use Rattle.forest.specs.Linkings.{BlockUnlinked, unlink_block_rows}
use Rattle.symbol_table.specs.Carried.{Carried}
use Rattle.ir.specs.Linkings.{BlockTaken}
use Rattle.ir.specs.Stores.{nodes}
use Rattle.ir.proofs.Numbering.{answered, block_unlinked_held, numbers_held}
use Rattle.ir.proofs.context.Context.unlink_block.Goals as goal

pub invariant_of-self : goal.invariant_of-self
invariant_of-self c = record { numbers = ∣ block_unlinked_held c.args.self.now.tables c.unlink_block.new.self _ (numbers_held _ _ c.args.self.now.numbers) c.args.block c.unlink_block.result c.unlink_block.ensures ∣₁ }

pub returns : goal.returns
returns c =
    let s = c.args.self.now in
    answered (unlink_block_rows (nodes s) c.args.block) (Carried (λ _ u. BlockUnlinked (nodes s) c.args.block (model u)) s.tables) (λ _ u. BlockTaken s c.args.block u) s _ refl (λ x e. record { unlinked = e.0; held = refl; mapped = e.1 }) c.unlink_block.result c.unlink_block.ensures
