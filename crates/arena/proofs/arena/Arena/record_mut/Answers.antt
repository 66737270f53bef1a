use Rattle.std.proofs.Common.{set, sym, refl, ap, subst}
use Rattle.std.specs.Vec.{with_item}
use Rattle.arena.specs.declared.slot.Place.{Place}
use Rattle.arena.specs.Pools.{Sound}
use Rattle.arena.specs.Shelves.{pool_of}
use Rattle.arena.specs.Lending.{read_with, still_sound}
use Rattle.arena.proofs.Shelving.{live_within_items, read_at, same_arena}
use Rattle.arena.proofs.arena.Arena.record_mut.Goals as goal

pub invariant_of-self-lent : goal.invariant_of-self-lent
invariant_of-self-lent g c = λ w.
    let a = c.args.self.now in
    let e = read_with a.places.items c.args.h.place c.index_mut.result.now w (live_within_items a c.args.h c.requires) c.index_mut.ensures.value in (
      a.few,
      (
        a.roomy,
        (
          subst (λ (p : Place _). ∥ Sound (pool_of (set a.places.items c.args.h.place p) a.freed.items a.fresh a.taken) ∥₁) (sym e) (still_sound a.places.items c.args.h.place w a.freed.items a.fresh a.taken a.sound),
          tt,
        ),
      ),
    )

pub returns : goal.returns
returns g c =
    let a = c.args.self.now in (
      (refl, λ w. same_arena _ _ (ap (with_item a.places c.args.h.place) (read_with a.places.items c.args.h.place c.index_mut.result.now w (live_within_items a c.args.h c.requires) c.index_mut.ensures.value)) refl refl refl),
      record { lends = tt; value = read_at a c.args.h c.index_mut.result.now c.requires c.index_mut.ensures.value },
    )
