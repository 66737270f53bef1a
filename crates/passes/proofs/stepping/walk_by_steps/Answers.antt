use Rattle.std.proofs.Common.{sym, subst}
use Rattle.walkers.specs.Walks.{Reads, WalkedIn}
use Rattle.passes.proofs.Stepped.{begins, steps_end, steps_on}
use Rattle.passes.proofs.stepping.walk_by_steps.Goals as goal

pub steps-init : goal.steps-init
steps-init g c = begins (Reads g.V.Visitor.answer g.V.Visitor.next c.args.context.now) c.args.context.now c.args.config c.args.root c.args.visitor.now c.in_ok-walk.walk c.in_ok-walk.ensures.1

pub steps-preserved : goal.steps-preserved
steps-preserved g c =
    let s = c.args.context.now in
    steps_on (Reads g.V.Visitor.answer g.V.Visitor.next s) s c.args.config c.args.root c.args.visitor.now c.steps.walk c.step.new.self c.steps.visitor c.steps.answer c.steps.invariant
    c.step.result c.step.ensures.steps c.in-Some.node c.in-Some.is c.visit-answer.result c.visit-answer.new.self (c.visit-answer.ensures.answers, c.visit-answer.ensures.moves)

pub returns-in-None : goal.returns-in-None
returns-in-None g c =
    let s = c.args.context.now in
    let k = c.args.config in
    let i = c.steps.invariant in (
      c.in_ok-walk.ensures.0,
      record {
        log = _;
        shows = i.shown;
        walked = subst (WalkedIn s k c.args.root _) (sym c.closed.ensures)
            (steps_end (Reads g.V.Visitor.answer g.V.Visitor.next s) s k c.args.root c.args.visitor.now c.steps.walk c.step.new.self c.steps.visitor c.steps.answer i c.step.result c.step.ensures.steps c.in-None.is);
      },
    )
