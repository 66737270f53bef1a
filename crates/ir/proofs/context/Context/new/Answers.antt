use Rattle.ir.proofs.Numbering.{fresh_held}
use Rattle.ir.proofs.context.Context.new.Goals as goal

pub invariant_of-result : goal.invariant_of-result
invariant_of-result c = record { numbers = ∣ fresh_held c.in_ok-tables.tables.forest _ c.in_ok-tables.ensures.fresh ∣₁ }
