use Rattle.linked_list.proofs.Steps.{back_live, none_back_steps, before_last_steps, before_last_spanned}
use Rattle.linked_list.proofs.iter.step_back.Goals as goal

pub past_back-requires : goal.past_back-requires
past_back-requires g c = back_live (g.N.LinkedList.view c.args.ctx.now) c.args.span c.in-Some.n c.requires.spanned c.in-Some.is

pub returns-in-Some : goal.returns-in-Some
returns-in-Some g c =
    let v = g.N.LinkedList.view c.args.ctx.now in
    let p = c.past_back.ensures in
    record {
      steps = before_last_steps v c.args.span _ c.in-Some.n c.in-Some.is p.end p.on;
      spanned = before_last_spanned v c.args.span _ c.in-Some.n c.in-Some.is p.end p.on c.requires.spanned;
    }

pub returns-in-None-clause-steps : goal.returns-in-None-clause-steps
returns-in-None-clause-steps g c = none_back_steps (g.N.LinkedList.view c.args.ctx.now) c.args.span c.in-None.is
