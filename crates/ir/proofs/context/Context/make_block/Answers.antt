use Rattle.std.proofs.Common.{refl}
use Rattle.forest.specs.Calls.{BlockMade, block_rows}
use Rattle.symbol_table.specs.Carried.{Carried}
use Rattle.ir.specs.Calls.{NewBlock}
use Rattle.ir.specs.Stores.{nodes}
use Rattle.ir.proofs.Numbering.{answered, block_held, numbers_held}
use Rattle.ir.proofs.context.Context.make_block.Goals as goal

pub invariant_of-self : goal.invariant_of-self
invariant_of-self c =
    record { numbers = ∣ block_held c.args.self.now.tables c.make_block.new.self c.make_block.result _ c.make_block.ensures (numbers_held _ _ c.args.self.now.numbers) ∣₁ }

pub returns : goal.returns
returns c =
    let s = c.args.self.now in
    answered (block_rows (nodes s)) (Carried (BlockMade s.tables.forest) s.tables) (NewBlock s) s _ refl (λ x e. record { made = e.0; held = refl; mapped = e.1 }) c.make_block.result c.make_block.ensures
