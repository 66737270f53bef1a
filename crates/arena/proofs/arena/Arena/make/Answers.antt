use Rattle.std.proofs.Common.{◌≡◌, ◌≤◌, length, vec_len, vec_capacity, ap, ◌∙◌, arith}
use Rattle.std.proofs.lemmas.List.{map-set}
use Rattle.arena.specs.declared.slot.Place.{Place}
use Rattle.arena.specs.Pools.{take_place}
use Rattle.arena.specs.Recorded.{shelf}
use Rattle.arena.proofs.Filling.{count_fits, fresh_rises, fresh_stays, sound_as, sound, took}
use Rattle.arena.proofs.Pooling.{take_sound}
use Rattle.arena.proofs.Shelving.{made_by, next_within_table}
use Rattle.arena.proofs.arena.Arena.make.Goals as goal
use Rattle.arena.proofs.arena.Arena.make.Goals.{then-is_none, else-is_none}

-- the lowest place never used, where the two branches join
fresh : (g : _) (c : goal.After-self-1 g) → c.if-is_none.self.1.1.1.0 ≡ (take_place (shelf c.args.self.now).pool).fresh
fresh g c =
    let n = c.args.self.now.freed.ok.0 in
    elim c.if-is_none.branch [
      | then-is_none w ↦ (let e : length c.args.self.now.freed.items ≡ 0 = grind (arith, n, c.pop.ensures.variant, c.is_none.ensures, w.if-is_none.true) in ap (λ x. x.1.1.1.0) w.self-is ∙ fresh_rises (shelf c.args.self.now).pool e)
      | else-is_none w ↦ (ap (λ x. x.1.1.1.0) w.self-is ∙ fresh_stays (shelf c.args.self.now).pool (λ e. grind (arith, e, n, c.pop.ensures.variant, c.is_none.ensures, w.if-is_none.false)))
    ]

pub index_mut-requires : goal.index_mut-requires
index_mut-requires g c = next_within_table c.args.self.now c.in_ok-h.h c.in_ok-h.ensures.0 c.in_ok-h.ensures.1

pub overflow_add-self-2 : goal.overflow_add-self-2
overflow_add-self-2 g c = let n = count_fits c.args.self.now in omega arith

pub invariant_of-self : goal.invariant_of-self
invariant_of-self g c =
    let a = c.args.self.now in
    let r : vec_len a.places ≤ vec_capacity a.freed = a.roomy in
    let k = c.pop.ensures.capacity in
    let roomy : vec_len a.places ≤ vec_capacity c.pop.new.self = omega arith in
    record {
      few = a.few;
      roomy = roomy;
      sound = sound_as _ _ (took a c.in_ok-h.h c.args.x _ _ c.in_ok-h.ensures.1 c.pop.ensures.rest (fresh g c)) (take_sound (shelf a).pool (sound a) c.in_ok-h.ensures.0);
    }

pub returns : goal.returns
returns g c =
    let a = c.args.self.now in
    made_by a _ c.args.x c.in_ok-h.h c.in_ok-h.ensures.0 c.in_ok-h.ensures.1
    (took a c.in_ok-h.h c.args.x _ _ c.in_ok-h.ensures.1 c.pop.ensures.rest (fresh g c.before))
    (map-set (λ (p : Place _). p.value) a.places.items c.in_ok-h.h.place _)
