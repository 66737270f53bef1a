use Rattle.linked_list.proofs.Steps.{front_live, none_front_steps, after_first_steps, after_first_spanned}
use Rattle.linked_list.proofs.iter.step_front.Goals as goal

pub past_front-requires : goal.past_front-requires
past_front-requires g c = front_live (g.N.LinkedList.view c.args.ctx.now) c.args.span c.in-Some.n c.requires.spanned c.in-Some.is

pub returns-in-Some : goal.returns-in-Some
returns-in-Some g c =
    let v = g.N.LinkedList.view c.args.ctx.now in
    let p = c.past_front.ensures in
    record {
      steps = after_first_steps v c.args.span _ c.in-Some.n c.in-Some.is p.end p.on;
      spanned = after_first_spanned v c.args.span _ c.in-Some.n c.in-Some.is p.end p.on c.requires.spanned;
    }

pub returns-in-None-clause-steps : goal.returns-in-None-clause-steps
returns-in-None-clause-steps g c = none_front_steps (g.N.LinkedList.view c.args.ctx.now) c.args.span c.in-None.is
