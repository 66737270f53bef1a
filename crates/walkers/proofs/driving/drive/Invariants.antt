use Rattle.std.proofs.Common.{length}
use Rattle.orders.specs.Places.{never, remaining}
use Rattle.ir.specs.Stores.{nodes}
use Rattle.walkers.specs.Links.{links}
use Rattle.walkers.specs.Walks.{Reads}
use Rattle.walkers.proofs.Loops.{Driven}
use Rattle.walkers.proofs.driving.drive.Given as goal

abbrev pub invariant-walk : goal.invariant-walk
invariant-walk g l = Driven (Reads g.V.Visitor.answer g.V.Visitor.next l.context) (links (nodes l.context) l.config) l.root l.initial.visitor l.visitor l.at l.answer

abbrev pub decreases-walk : goal.decreases-walk
decreases-walk g l = length (remaining (links (nodes l.context) l.config) l.root never l.at)
