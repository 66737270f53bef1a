use Rattle.std.proofs.Common.{◌≡◌, ℕ, ◌≤◌, List, length, replicate, vec_len, vec_capacity, sym, ap, ◌∙◌, arith, rules}
use Rattle.arena.specs.declared.slot.Slot.{Slot}
use Rattle.arena.specs.Pools.{unused, unused_pool}
use Rattle.arena.specs.Shelves.{pool_of, slots_of}
use Rattle.arena.proofs.Filling.{cloned_slots, sound_as}
use Rattle.arena.proofs.Pooling.{unused_sound}
use Rattle.arena.proofs.arena.Arena.new.Goals as goal

-- every place is unused, and none is freed
fresh : (g : _) (c : goal.In_ok-freed g) → pool_of c.in_ok-places.places.items c.in_ok-freed.freed.items 0 0 ≡ unused_pool c.args.size
fresh g c =
    let places = c.in_ok-places.places in
    let count : length places.items ≡ c.args.size = sym places.ok.0 ∙ c.in_ok-places.ensures.len in
    let slots : slots_of places.items ≡ replicate c.args.size unused = cloned_slots _ _ places.items c.in_ok-places.ensures.items (λ q h. search (rules, h.0)) ∙ ap (λ (n : ℕ). replicate n unused) count in
    ap (λ (ss : List Slot). record { slots = ss; freed = c.in_ok-freed.freed.items; fresh = 0; taken = 0 }) slots
    ∙ ap (λ (xs : List ℕ). record { slots = replicate c.args.size unused; freed = xs; fresh = 0; taken = 0 }) c.in_ok-freed.ensures.items

pub invariant_of-result : goal.invariant_of-result
invariant_of-result g c =
    let n = c.in_ok-places.ensures.len in
    let k = c.in_ok-freed.ensures.capacity in
    let few : vec_len c.in_ok-places.places ≤ 65535 = omega arith in
    let roomy : vec_len c.in_ok-places.places ≤ vec_capacity c.in_ok-freed.freed = omega arith in
    record { few = few; roomy = roomy; sound = sound_as _ _ (fresh g c) (unused_sound c.args.size) }

pub returns : goal.returns
returns g c = record { unused = fresh g c.before; capacity = c.in_ok-places.ensures.len }
