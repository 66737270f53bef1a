use Rattle.std.proofs.Common.{rules, refl, sym, ◌∙◌, Some, None}
use Rattle.passes.proofs.Seconds.{is_first}
use Rattle.passes.proofs.holding.unlink_first_by_walk.Goals as goal

pub returns-in_default : goal.returns-in_default
returns-in_default c =
    let f = is_first c.args.context.now c.args.block c.in_ok-walk.ensures.0 c.in_ok-walk.walk c.step.new.self c.step-2.new.self c.step.result c.step-2.result
    c.in_ok-walk.ensures.1 c.step.ensures.steps c.step-2.ensures.steps None (sym c.in_default.is ∙ c.operation_in.ensures) in
    (c.in_ok-walk.ensures.0, f, refl)

pub returns-in_err-unlink_op : goal.returns-in_err-unlink_op
returns-in_err-unlink_op c =
    let f = is_first c.args.context.now c.args.block c.in_ok-walk.ensures.0 c.in_ok-walk.walk c.step.new.self c.step-2.new.self c.step.result c.step-2.result
    c.in_ok-walk.ensures.1 c.step.ensures.steps c.step-2.ensures.steps (Some c.in-Some.op) (sym c.in-Some.is ∙ c.operation_in.ensures) in
    search rules

pub returns : goal.returns
returns c =
    let f = is_first c.args.context.now c.args.block c.in_ok-walk.ensures.0 c.in_ok-walk.walk c.step.new.self c.step-2.new.self c.step.result c.step-2.result
    c.in_ok-walk.ensures.1 c.step.ensures.steps c.step-2.ensures.steps (Some c.in-Some.op) (sym c.in-Some.is ∙ c.operation_in.ensures) in
    (c.in_ok-walk.ensures.0, f, c.in_ok-unlink_op.ensures)
