use Rattle.orders.specs.declared.walk_result.WalkResult.TheVariants.{Advance, Break, Skip}
use Rattle.passes.proofs.FirstMet.{found}
use Rattle.passes.proofs.finding.first_terminator.Goals as goal

pub returns-in-Break : goal.returns-in-Break
returns-in-Break c = found c.args.context.now c.args.root _ _ c.in_ok-op.field-0 (Break c.in-Break.op) c.in_ok-op.ensures c.in-Break.is

pub returns-in-Advance : goal.returns-in-Advance
returns-in-Advance c = found c.args.context.now c.args.root _ _ c.in_ok-op.field-0 Advance c.in_ok-op.ensures c.in-Advance.is

pub returns-in-Skip : goal.returns-in-Skip
returns-in-Skip c = found c.args.context.now c.args.root _ _ c.in_ok-op.field-0 Skip c.in_ok-op.ensures c.in-Skip.is
