use Rattle.std.proofs.Common.{length}
use Rattle.orders.specs.Places.{never, remaining}
use Rattle.ir.specs.Stores.{nodes}
use Rattle.walkers.specs.Links.{links}
use Rattle.walkers.specs.Notes.{OnlyNotes}
use Rattle.walkers.specs.Walks.{Writes}
use Rattle.walkers.proofs.Loops.{Driven}
use Rattle.walkers.proofs.driving_mut.drive_mut.Given as goal

abbrev pub invariant-walk : goal.invariant-walk
invariant-walk g l =
    OnlyNotes l.initial.context l.context
    × Driven (Writes g.V.VisitorMut.answer g.V.VisitorMut.next g.V.VisitorMut.notes) (links (nodes l.initial.context) l.config) l.root (l.initial.visitor, l.initial.context) (l.visitor, l.context) l.at l.answer

abbrev pub decreases-walk : goal.decreases-walk
decreases-walk g l = length (remaining (links (nodes l.context) l.config) l.root never l.at)
