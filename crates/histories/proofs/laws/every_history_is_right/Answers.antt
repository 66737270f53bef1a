use Rattle.histories.proofs.Right.{law}
use Rattle.histories.proofs.laws.every_history_is_right.Goals as goal

pub returns : goal.returns
returns g c = law g.R.Visitor.answer g.R.Visitor.next g.V.VisitorMut.answer g.V.VisitorMut.next g.V.VisitorMut.notes
