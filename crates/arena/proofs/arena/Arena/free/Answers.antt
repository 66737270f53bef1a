use Rattle.std.proofs.Common.{◌≤◌, vec_len, vec_capacity, sym, refl, ap, ◌∙◌, arith}
use Rattle.arena.specs.declared.arena.Arena.{Arena}
use Rattle.arena.specs.Lending.{values_kept}
use Rattle.arena.specs.Recorded.{shelf}
use Rattle.arena.proofs.Filling.{push_fits, renewed, retired, sound_as, sound}
use Rattle.arena.proofs.Pooling.{free_sound, last_is}
use Rattle.arena.proofs.Shelving.{at_none, at_some, ended_by, shelf_long}
use Rattle.arena.proofs.arena.Arena.free.Goals as goal
use Rattle.arena.proofs.arena.Arena.free.Goals.{then-h-lt4294967295, else-h-lt4294967295}

pub returns-in_err-x : goal.returns-in_err-x
returns-in_err-x g c = rw c.from_residual.ensures (at_none (shelf c.args.self.now) c.args.h (shelf_long c.args.self.now) c.in_err-x.ensures, refl)

pub push_reserved-requires : goal.push_reserved-requires
push_reserved-requires g c = push_fits c.args.self.now c.args.h (at_some (shelf c.args.self.now) c.args.h c.in_ok-x.x c.in_ok-x.ensures)

pub invariant_of-self : goal.invariant_of-self
invariant_of-self g c =
    let a = c.args.self.now in
    let live = at_some (shelf a) c.args.h c.in_ok-x.x c.in_ok-x.ensures in
    let r : vec_len a.places ≤ vec_capacity a.freed = a.roomy in
    let k = c.push_reserved.ensures.capacity in
    let roomy : vec_len a.places ≤ vec_capacity c.push_reserved.new.self = omega arith in
    record {
      few = a.few;
      roomy = roomy;
      sound = sound_as _ _ (renewed a c.args.h _ _ c.raised.ensures c.if-h-lt4294967295.true c.push_reserved.ensures.items) (free_sound (shelf a).pool c.args.h (sound a) live);
    }

pub invariant_of-self-else-h-lt4294967295 : goal.invariant_of-self-else-h-lt4294967295
invariant_of-self-else-h-lt4294967295 g c =
    let a = c.args.self.now in
    let live = at_some (shelf a) c.args.h c.in_ok-x.x c.in_ok-x.ensures in
    let last = last_is (shelf a).pool c.args.h (sound a) live c.if-h-lt4294967295.false in
    record {
      few = a.few;
      roomy = a.roomy;
      sound = sound_as _ _ (retired a c.args.h _ c.raised.ensures last) (free_sound (shelf a).pool c.args.h (sound a) live);
    }

pub returns : goal.returns
returns g c =
    let a = c.args.self.now in
    let live = at_some (shelf a) c.args.h c.in_ok-x.x c.in_ok-x.ensures in
    let records = values_kept a.places.items c.args.h.place c.index_mut.result.now c.raised.result c.index_mut.ensures.value in
    let b = c.if-h-lt4294967295.self in (
      sym c.in_ok-x.ensures,
      elim c.if-h-lt4294967295.branch [
        | then-h-lt4294967295 w ↦
            ended_by a b c.args.h live
            (ap (λ (d : Arena _). (shelf d).pool) w.self-is ∙ renewed a c.args.h _ _ c.raised.ensures w.if-h-lt4294967295.true w.push_reserved.ensures.items)
            (ap (λ (d : Arena _). (shelf d).records) w.self-is ∙ records)
        | else-h-lt4294967295 w ↦
            ended_by a b c.args.h live
            (ap (λ (d : Arena _). (shelf d).pool) w.self-is ∙ retired a c.args.h _ c.raised.ensures (last_is (shelf a).pool c.args.h (sound a) live w.if-h-lt4294967295.false))
            (ap (λ (d : Arena _). (shelf d).records) w.self-is ∙ records)
      ],
    )
