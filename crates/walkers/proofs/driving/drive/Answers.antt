use Rattle.std.proofs.Common.{sym, ◌∙◌, subst}
use Rattle.ir.specs.Stores.{nodes}
use Rattle.walkers.specs.Links.{links}
use Rattle.walkers.specs.Walks.{Reads, WalkedIn}
use Rattle.walkers.proofs.Loops.{ends, goes_on, starts}
use Rattle.walkers.proofs.Stores.{have, walked_in}
use Rattle.walkers.proofs.driving.drive.Goals as goal

pub walk-init : goal.walk-init
walk-init g c = starts (Reads g.V.Visitor.answer g.V.Visitor.next c.args.context.now) (links (nodes c.args.context.now) c.args.config) c.args.root c.args.visitor.now

pub walk-preserved : goal.walk-preserved
walk-preserved g c =
    let s = c.args.context.now in
    let i = c.walk.invariant in
    goes_on (Reads g.V.Visitor.answer g.V.Visitor.next s) (links (nodes s) c.args.config) c.args.root c.args.visitor.now (have s c.args.config) c.walk.visitor c.walk.at c.after-at.result c.walk.answer
    (c.after-at.ensures.left i.going.fits) i (c.after-at.ensures.fits i.going.fits) c.in-Some.node (sym c.node_at.ensures ∙ c.in-Some.is) c.visit-answer.result c.visit-answer.new.self (c.visit-answer.ensures.answers, c.visit-answer.ensures.moves)

pub returns-in-None : goal.returns-in-None
returns-in-None g c =
    let s = c.args.context.now in
    let k = c.args.config in
    let i = c.walk.invariant in record {
      log = i.log;
      shows = i.shown;
      walked = subst (WalkedIn s k c.args.root i.log) (sym c.closed.ensures) (walked_in s k c.args.root i.log _
          (ends (Reads g.V.Visitor.answer g.V.Visitor.next s) (links (nodes s) k) c.args.root c.args.visitor.now (have s k) c.walk.visitor c.walk.at c.after-at.result c.walk.answer
          (c.after-at.ensures.left i.going.fits) i c.after-at.ensures.begun (sym c.node_at.ensures ∙ c.in-None.is)));
    }
