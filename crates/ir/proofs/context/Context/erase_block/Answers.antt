use Rattle.std.proofs.Common.{refl}
use Rattle.forest.specs.Erasings.{BlockErased, erase_block_rows}
use Rattle.symbol_table.specs.Erasing.{Erased}
use Rattle.ir.specs.Erasings.{BlockEnded}
use Rattle.ir.specs.Stores.{nodes}
use Rattle.ir.proofs.Erased.{block_erased_held}
use Rattle.ir.proofs.Numbering.{answered, numbers_held}
use Rattle.ir.proofs.context.Context.erase_block.Goals as goal

pub invariant_of-self : goal.invariant_of-self
invariant_of-self c =
    let s = c.args.self.now in
    record { numbers = ∣ block_erased_held s.tables c.erase_block.new.self _ (numbers_held _ _ s.numbers) c.args.block c.erase_block.result c.erase_block.ensures ∣₁ }

pub returns : goal.returns
returns c =
    let s = c.args.self.now in
    answered (erase_block_rows (nodes s) c.args.block) (λ _ u. Erased (BlockErased (nodes s) c.args.block) s.tables u) (λ _ u. BlockEnded s c.args.block u) s _ refl
    (λ x e. record { erased = e; held = refl }) c.erase_block.result c.erase_block.ensures
