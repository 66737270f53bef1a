use Rattle.std.proofs.Common.{◌≡◌, ◌++◌, ◌<◌, Bool, length, sym, ◌∙◌, subst}
use Rattle.orders.specs.Places.{Fit, Links, goes, never, remaining, shows}
use Rattle.records.specs.declared.ir_node.IRNode.{IRNode}
use Rattle.ir.specs.Stores.{nodes}
use Rattle.walkers.specs.Links.{links}
use Rattle.walkers.specs.Walks.{WalkedIn, Writes}
use Rattle.walkers.proofs.Loops.{ends, fewer, goes_on, starts}
use Rattle.walkers.proofs.Stores.{have, walked_in}
use Rattle.walkers.proofs.Unnoted.{as_after, as_before, kept_more, kept_none}
use Rattle.walkers.proofs.driving_mut.drive_mut.Goals as goal

pub walk-init : goal.walk-init
walk-init g c = (
  kept_none c.args.context.now,
  starts (Writes g.V.VisitorMut.answer g.V.VisitorMut.next g.V.VisitorMut.notes) (links (nodes c.args.context.now) c.args.config) c.args.root (c.args.visitor.now, c.args.context.now),
)

pub walk-smaller : goal.walk-smaller
walk-smaller g c =
    let k = c.args.config in
    let s = c.walk.context in
    let t = c.visit-answer.new.context in
    let i = c.walk.invariant in
    let f = as_after (λ (L : Links IRNode). Fit L c.args.root c.walk.at) c.args.context.now s k i.0 i.1.going.fits in
    as_after (λ (L : Links IRNode). length (remaining L c.args.root never c.after-at.result) < length (remaining (links (nodes s) k) c.args.root never c.walk.at)) s t k c.visit-answer.ensures.notes.only
    (fewer (Writes g.V.VisitorMut.answer g.V.VisitorMut.next g.V.VisitorMut.notes) (links (nodes s) k) c.args.root (c.args.visitor.now, c.args.context.now) (have s k) (c.walk.visitor, s) c.walk.at c.after-at.result c.walk.answer
    (c.after-at.ensures.left f) c.in-Some.node (sym c.node_at.ensures ∙ c.in-Some.is))

pub walk-preserved : goal.walk-preserved
walk-preserved g c =
    let k = c.args.config in
    let z = c.args.context.now in
    let s = c.walk.context in
    let t = c.visit-answer.new.context in
    let i = c.walk.invariant in
    let f = as_after (λ (L : Links IRNode). Fit L c.args.root c.walk.at) z s k i.0 i.1.going.fits in
    let e = c.visit-answer.ensures in (
      kept_more z s t i.0 e.notes.only,
      goes_on (Writes g.V.VisitorMut.answer g.V.VisitorMut.next g.V.VisitorMut.notes) (links (nodes z) k) c.args.root (c.args.visitor.now, z) (have z k) (c.walk.visitor, s) c.walk.at c.after-at.result c.walk.answer
          (as_before (λ (L : Links IRNode). (S : IRNode → Bool) → goes L c.args.root S c.walk.at c.walk.answer ≡ shows c.after-at.result ++ remaining L c.args.root S c.after-at.result) z s k i.0 (c.after-at.ensures.left f))
          i.1 (as_before (λ (L : Links IRNode). Fit L c.args.root c.after-at.result) z s k i.0 (c.after-at.ensures.fits f)) c.in-Some.node (sym c.node_at.ensures ∙ c.in-Some.is)
          c.visit-answer.result (c.visit-answer.new.self, t) (e.answers, e.moves, e.notes),
    )

pub returns-in-None : goal.returns-in-None
returns-in-None g c =
    let k = c.args.config in
    let z = c.args.context.now in
    let s = c.walk.context in
    let i = c.walk.invariant in
    let f = as_after (λ (L : Links IRNode). Fit L c.args.root c.walk.at) z s k i.0 i.1.going.fits in record {
      log = i.1.log;
      shows = i.1.shown;
      walked = subst (WalkedIn z k c.args.root i.1.log) (sym c.closed.ensures) (walked_in z k c.args.root i.1.log _
          (ends (Writes g.V.VisitorMut.answer g.V.VisitorMut.next g.V.VisitorMut.notes) (links (nodes z) k) c.args.root (c.args.visitor.now, z) (have z k) (c.walk.visitor, s) c.walk.at c.after-at.result c.walk.answer
          (as_before (λ (L : Links IRNode). (S : IRNode → Bool) → goes L c.args.root S c.walk.at c.walk.answer ≡ shows c.after-at.result ++ remaining L c.args.root S c.after-at.result) z s k i.0 (c.after-at.ensures.left f))
          i.1 c.after-at.ensures.begun (sym c.node_at.ensures ∙ c.in-None.is)));
      only = i.0;
    }
