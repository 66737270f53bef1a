use Rattle.linked_list.specs.declared.spot.Spot.TheVariants.{Before, After}
use Rattle.linked_list.proofs.Relinks.{relinked}
use Rattle.linked_list.proofs.Sounds.{removed}
use Rattle.linked_list.proofs.Spots.{spot_held, before_live, after_live, held_on}
use Rattle.linked_list.proofs.edits.unlink_from.Goals as goal

pub set_forward-requires : goal.set_forward-requires
set_forward-requires g c =
    let v = g.N.LinkedList.view c.args.ctx.now in
    let a = c.args in
    let r = c.requires in
    record { container = spot_held v r.sound a.c (Before a.n) r.node r.inside; node = before_live v r.sound a.c (Before a.n) r.node r.inside _ c.around-gap.ensures.before }

pub set_backward-requires : goal.set_backward-requires
set_backward-requires g c =
    let v = g.N.LinkedList.view c.args.ctx.now in
    let a = c.args in
    let r = c.requires in
    let f = c.set_forward.ensures.sets in
    record {
      container = held_on v r.sound a.c (Before a.n) r.node r.inside _ _ _ f;
      node = after_live v r.sound a.c (After a.n) r.node r.inside _ _ _ f _ c.around-gap.ensures.after;
    }

pub returns : goal.returns
returns g c =
    let v = g.N.LinkedList.view c.args.ctx.now in
    let a = c.args in
    let r = c.requires in
    let m = g.met.N.LinkedList in
    let rel = relinked v _ _ _ _ _ a.c a.n _ _ _ _ _ _ _
    c.set_forward.ensures.sets c.set_backward.ensures.sets c.set_prev.ensures.sets c.set_next.ensures.sets c.set_container.ensures.sets in
    let done = removed m.containers v _ a.n a.c m.nodes _ _ r.sound r.node r.inside c.around-gap.ensures.before c.around-gap.ensures.after rel in
    record { removes = done.0; sound = done.1; rest = cc }
