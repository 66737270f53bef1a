use mathlib.Core.Logic.{∥∥₁_map}
use Rattle.walkers.proofs.HeldSteps.{less, steps}
use Rattle.walkers.proofs.walk.Walk.step.Goals as goal

pub invariant_of-self : goal.invariant_of-self
invariant_of-self g c = record { fits = ∥∥₁_map c.args.self.now.fits c.after-self.ensures.fits }

pub returns : goal.returns
returns g c =
    let e = c.after-self.ensures in record {
      steps = steps c.args.self.now c.after-self.result c.args.answer.now e.left e.fits e.begun c.node_at.result c.node_at.ensures _;
      fewer = less c.args.self.now c.after-self.result c.args.answer.now e.left e.fits e.begun c.node_at.result c.node_at.ensures;
    }
