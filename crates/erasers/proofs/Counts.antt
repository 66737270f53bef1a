-- How many nodes stand in lists: an unlinking makes it one less, and an end does not raise it. Assumes nothing.
use Rattle.std.proofs.Common.{◌≡◌, ℕ, zero, suc, ◌+◌, ◌<◌, ◌≤◌, true, length, Some, None, Option, sym, refl, ap, ◌∙◌, subst, inl, inr, arith}
use Rattle.std.proofs.lemmas.Bool.{cases_eq}
use Rattle.arena.specs.declared.handle.Handle.{Handle}
use Rattle.arena.specs.declared.slot.Slot.{Slot}
use Rattle.arena.specs.Pools.{Pool, free_place, live}
use Rattle.arena.specs.Shelves.{Shelf, at, ended}
use Rattle.arena.proofs.Pooling.{live_parts, live_within}
use Rattle.arena.proofs.Shelving.{at_dead, end_only, free_dead, free_long, free_other, same_handle}
use Rattle.records.specs.Views.{part}
use Rattle.records.specs.Writes.{handles}
use Rattle.erasers.specs.Erasings.{handle_at, having, tally, weigh}

tally_most : (f g : ℕ → ℕ) (n : ℕ) → ((i : ℕ) → f i ≤ g i) → tally f n ≤ tally g n
unfolding tally
tally_most f g zero h = omega arith
tally_most f g (suc n) h = omega (arith, h n, tally_most f g n h)

tally_less : (f g : ℕ → ℕ) (n j : ℕ) → ((i : ℕ) → f i ≤ g i) → j < n → f j + 1 ≤ g j → tally f n + 1 ≤ tally g n
unfolding tally
tally_less f g zero j h lt e = absurd (omega arith)
tally_less f g (suc n) j h lt e =
    elim (cases_eq j n) [
      | inl z ↦ (let q : f n + 1 ≤ g n = subst (λ (k : ℕ). f k + 1 ≤ g k) z e in omega (arith, q, tally_most f g n h))
      | inr ne ↦ (let l : j < n = omega arith in omega (arith, h n, tally_less f g n j h l e))
    ]

weigh_none : {C : Type 0} (o p : Option C) → o ≡ None → weigh o ≤ weigh p
weigh_none o p e = let z : weigh o ≡ 0 = ap weigh e in omega arith

module _ {T C : Type 0} (f : T → Option C) where
  -- the end of a record
  pub ended_fewer : (a : Shelf T) (h : Handle) → live a.pool h ≡ true → having f (ended h a) ≤ having f a
  ended_fewer a h e =
      subst (λ (n : ℕ). tally (λ i. weigh (part f (at (ended h a) (handle_at (free_place h a.pool) i)))) n ≤ having f a) (sym (free_long h a.pool))
      (tally_most _ _ (length a.pool.slots) (λ i.
      elim (cases_eq i h.place) [
        | inl z ↦ weigh_none _ _ (ap (part f) (at_dead (ended h a) (handle_at (free_place h a.pool) i) (free_dead h (handle_at (free_place h a.pool) i) a.pool e z)))
        | inr ne ↦
            (let same : handle_at (free_place h a.pool) i ≡ handle_at a.pool i = ap (λ (s : Slot). record { place = i; version = s.version }) (free_other h a.pool i ne) in
            let other : handle_at a.pool i ≡ h → ⊥ = λ q. ne (ap (λ (k : Handle). k.place) q) in
            let q : weigh (part f (at (ended h a) (handle_at (free_place h a.pool) i))) ≡ weigh (part f (at a (handle_at a.pool i)))
            = ap (λ (k : Handle). weigh (part f (at (ended h a) k))) same ∙ ap (λ (o : Option T). weigh (part f o)) ((end_only a h e).others (handle_at a.pool i) other) in
            omega arith)
      ]))

  -- one record loses the part
  pub one_fewer : (a b : Shelf T) (h : Handle) (c : C) → b.pool ≡ a.pool → live a.pool h ≡ true → part f (at a h) ≡ Some c → part f (at b h) ≡ None
      → ((k : Handle) → (k ≡ h → ⊥) → part f (at b k) ≡ part f (at a k)) → having f b + 1 ≤ having f a
  one_fewer a b h c pools e was gone others =
      subst (λ (p : Pool). tally (λ i. weigh (part f (at b (handle_at p i)))) (length p.slots) + 1 ≤ having f a) (sym pools)
      (let here : handle_at a.pool h.place ≡ h = same_handle (handle_at a.pool h.place) h refl (live_parts a.pool h e).1 in
      let old : weigh (part f (at a (handle_at a.pool h.place))) ≡ 1 = ap (λ (k : Handle). weigh (part f (at a k))) here ∙ ap weigh was in
      let new : weigh (part f (at b (handle_at a.pool h.place))) ≡ 0 = ap (λ (k : Handle). weigh (part f (at b k))) here ∙ ap weigh gone in
      tally_less _ _ (length a.pool.slots) h.place (λ i.
      elim (handles (handle_at a.pool i) h) [
        | inl z ↦ weigh_none _ _ (ap (λ (k : Handle). part f (at b k)) z ∙ gone)
        | inr ne ↦ (let q : weigh (part f (at b (handle_at a.pool i))) ≡ weigh (part f (at a (handle_at a.pool i))) = ap weigh (others (handle_at a.pool i) ne) in omega arith)
      ])
      (live_within a.pool h e) (omega arith))

  -- the parts are the same
  pub same_many : (a b : Shelf T) → b.pool ≡ a.pool → ((k : Handle) → part f (at b k) ≡ part f (at a k)) → having f b ≤ having f a
  same_many a b pools others =
      subst (λ (p : Pool). tally (λ i. weigh (part f (at b (handle_at p i)))) (length p.slots) ≤ having f a) (sym pools)
      (tally_most _ _ (length a.pool.slots) (λ i.
      let q : weigh (part f (at b (handle_at a.pool i))) ≡ weigh (part f (at a (handle_at a.pool i))) = ap weigh (others (handle_at a.pool i)) in omega arith))
