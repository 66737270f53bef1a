use Rattle.walkers.specs.HeldWalks.{to_come}
use Rattle.walkers.specs.Walks.{Reads}
use Rattle.passes.proofs.Stepped.{Stepped}
use Rattle.passes.proofs.stepping.walk_by_steps.Given as goal

abbrev pub invariant-steps : goal.invariant-steps
invariant-steps g l = Stepped (Reads g.V.Visitor.answer g.V.Visitor.next l.fn.context) l.fn.context l.fn.config l.fn.root l.fn.visitor l.walk l.visitor l.answer

abbrev pub decreases-steps : goal.decreases-steps
decreases-steps g l = to_come l.walk
