use Rattle.ir.proofs.Numbering.{numbers_held, shaped_held}
use Rattle.ir.proofs.context.Context.make_admitted.Goals as goal

pub invariant_of-self : goal.invariant_of-self
invariant_of-self c = record {
  numbers = ∣ shaped_held c.args.self.now.tables c.make_operation.new.self _ _ c.args.admitted.shape c.args.admitted.name c.hold_name-number.result c.make_operation.result
      (numbers_held _ _ c.args.self.now.numbers) c.hold_name-number.ensures c.make_operation.ensures c.requires.roomy c.requires.named ∣₁;
}
