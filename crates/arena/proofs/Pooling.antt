-- Taking and freeing keep what always holds of the places. Assumes nothing.
use Rattle.std.proofs.Common.{◌≡◌, ℕ, zero, suc, ◌+◌, ◌-◌, ◌<◌, ◌≤◌, Bool, true, false, cond, eqb, List, [], ◌∷◌, ◌++◌, length, get_or, take, set, replicate, sym, refl, ap, ◌∙◌, subst, ⊎_elim, arith, eq-eqb}
use mathlib.Core.Logic.{∥∥₁_elim}
use native.Mathlib.Bridge.{le_prop}
use native.Mathlib.Nat.{ℕ_set}
use Rattle.std.specs.List.{All}
use Rattle.std.proofs.lemmas.List.{get_or_past, get_or-set_same, get_or-set_other, get_or-take, get_or_push, get_or_append_left, length-set, length_push, length-take-le, length-replicate}
use Rattle.std.proofs.lemmas.List.Sums.{sum_by-set, sum_by-le}
use Rattle.std.proofs.lemmas.List.Folds.{sum_by-replicate}
use Rattle.std.proofs.lemmas.List.Elements.{All-from_get_or}
use Rattle.std.proofs.lemmas.Bool.{cases_eq, cases_lt, eqb-true, eqb-false, ne_eqb, and_parts}
use Rattle.arena.specs.declared.handle.Handle.{Handle}
use Rattle.arena.specs.declared.slot.Slot.{Slot}
use Rattle.arena.specs.declared.slot.State.{State}
use Rattle.arena.specs.declared.slot.State.TheVariants.{Vacant, Live, Retired}
use Rattle.arena.specs.Pools.{last_version, unused, Pool, unused_pool, slot_at, is_live, live_slot, live, room, next_place, take_place, free_place, vacancy_of, vacancy, wear_of, wear, Freed, Sound}

-- Out of the truncated ghost field: each part is an order or an equation of numbers.
pub whole : (p : Pool) → ∥ Sound p ∥₁ → Sound p
whole p t = record {
  within = ∥∥₁_elim t le_prop (λ x. x.within);
  free = λ i h. record {
    old = ∥∥₁_elim t le_prop (λ x. (x.free i h).old);
    vacant = ∥∥₁_elim t (ℕ_set _ _) (λ x. (x.free i h).vacant);
  };
  apart = λ i j h k e. ∥∥₁_elim t (ℕ_set i j) (λ x. x.apart i j h k e);
  never = λ k h. record {
    first = ∥∥₁_elim t (ℕ_set _ _) (λ x. (x.never k h).first);
    vacant = ∥∥₁_elim t (ℕ_set _ _) (λ x. (x.never k h).vacant);
  };
  small = λ k. ∥∥₁_elim t le_prop (λ x. x.small k);
  fewer = ∥∥₁_elim t le_prop (λ x. x.fewer);
  counted = ∥∥₁_elim t (ℕ_set _ _) (λ x. x.counted);
}

-- Slots.

vacant_wear : (s : State) (v : ℕ) → vacancy_of s ≡ 1 → wear_of s v ≡ v
vacant_wear Vacant v e = refl
vacant_wear Live v e = absurd (omega arith)
vacant_wear Retired v e = absurd (omega arith)

live_wear : (s : State) (v : ℕ) → is_live s ≡ true → wear_of s v ≡ v + 1
live_wear Vacant v e = let z : ◌≡◌ {A = ℕ} 0 1 = cc in absurd (omega arith)
live_wear Live v e = refl
live_wear Retired v e = let z : ◌≡◌ {A = ℕ} 0 1 = cc in absurd (omega arith)

live_full : (s : State) → is_live s ≡ true → vacancy_of s ≡ 0
live_full Vacant e = let z : ◌≡◌ {A = ℕ} 0 1 = cc in absurd (omega arith)
live_full Live e = refl
live_full Retired e = refl

wear_most : (s : State) (v : ℕ) → wear_of s v ≤ v + 1
wear_most Vacant v = omega arith
wear_most Live v = omega arith
wear_most Retired v = omega arith

-- Which place is next.

-- What is known of the next place where one is left.
pub record Ready (p : Pool) (n : ℕ) (fresh : ℕ) : Type 0 where
  pub within : n < length p.slots
  pub vacant : vacancy (slot_at p n) ≡ 1
  pub old : n < fresh
  pub more : p.fresh ≤ fresh
  pub most : fresh ≤ length p.slots
  pub apart : (i : ℕ) → i < length p.freed - 1 → get_or p.freed i 0 ≡ n → ⊥

ready_none : (p : Pool) → Sound p → length p.freed ≡ 0 → 0 < room p → Ready p p.fresh (p.fresh + 1)
ready_none p s e h = record {
  within = omega arith;
  vacant = (s.never p.fresh (omega arith)).vacant;
  old = omega arith;
  more = omega arith;
  most = omega arith;
  apart = λ i lt. absurd (omega arith);
}

ready_last : (p : Pool) → Sound p → (length p.freed ≡ 0 → ⊥) → Ready p (get_or p.freed (length p.freed - 1) 0) p.fresh
ready_last p s e =
    let n : 0 < length p.freed = ⊎_elim (λ z. absurd (e z)) (λ z. omega arith) (cases_eq (length p.freed) 0) in
    let lt : length p.freed - 1 < length p.freed = omega arith in
    let f = s.free (length p.freed - 1) lt in
    let w = s.within in
    let o = f.old in
    record {
      within = omega arith;
      vacant = f.vacant;
      old = o;
      more = omega arith;
      most = w;
      apart = λ i h same. let k : i < length p.freed = omega arith in let z = s.apart i (length p.freed - 1) k lt same in omega arith;
    }

-- Taking.

abbrev take_at : Pool → ℕ → ℕ → Pool
take_at p n fresh = record {
  slots = set p.slots n (record { version = (slot_at p n).version; state = Live });
  freed = take (length p.freed - 1) p.freed;
  fresh = fresh;
  taken = p.taken + 1;
}

short : (p : Pool) → length (take (length p.freed - 1) p.freed) ≡ length p.freed - 1
short p = length-take-le (length p.freed - 1) p.freed (omega arith)

other_slot : (p : Pool) (n k : ℕ) (x : Slot) → (k ≡ n → ⊥) → get_or (set p.slots n x) k unused ≡ slot_at p k
other_slot p n k x ne = get_or-set_other p.slots n k x unused ne

take_free : (p : Pool) (n fresh : ℕ) → Sound p → Ready p n fresh → (i : ℕ) → i < length (take_at p n fresh).freed → Freed (take_at p n fresh).slots fresh (get_or (take_at p n fresh).freed i 0)
take_free p n fresh s r i h =
    let l = short p in
    let lt : i < length p.freed - 1 = omega arith in
    let e : get_or (take (length p.freed - 1) p.freed) i 0 ≡ get_or p.freed i 0 = get_or-take _ p.freed i 0 lt in
    let f = s.free i (omega arith) in
    let o = f.old in
    let more = r.more in
    subst (λ (m : ℕ). Freed (take_at p n fresh).slots fresh m) (sym e)
    (record {
      old = omega arith;
      vacant = ap vacancy (other_slot p n (get_or p.freed i 0) _ (r.apart i lt)) ∙ f.vacant;
    })

take_apart : (p : Pool) (n fresh : ℕ) → Sound p → (i j : ℕ) → i < length (take_at p n fresh).freed → j < length (take_at p n fresh).freed
    → get_or (take_at p n fresh).freed i 0 ≡ get_or (take_at p n fresh).freed j 0 → i ≡ j
take_apart p n fresh s i j hi hj e =
    let l = short p in
    let li : i < length p.freed - 1 = omega arith in
    let lj : j < length p.freed - 1 = omega arith in
    s.apart i j (omega arith) (omega arith) (sym (get_or-take _ p.freed i 0 li) ∙ e ∙ get_or-take _ p.freed j 0 lj)

take_small : (p : Pool) (n fresh : ℕ) → Sound p → Ready p n fresh → (k : ℕ) → (slot_at (take_at p n fresh) k).version ≤ last_version
take_small p n fresh s r k =
    ⊎_elim
    (λ (e : k ≡ n).
    let is : (slot_at (take_at p n fresh) k).version ≡ (slot_at p n).version
    = ap (λ (m : ℕ). (slot_at (take_at p n fresh) m).version) e ∙ ap (λ (x : Slot). x.version) (get_or-set_same p.slots n _ unused r.within) in
    let b = s.small n in omega arith)
    (λ (ne : k ≡ n → ⊥).
    let is : (slot_at (take_at p n fresh) k).version ≡ (slot_at p k).version = ap (λ (x : Slot). x.version) (other_slot p n k _ ne) in
    let b = s.small k in omega arith)
    (cases_eq k n)

take_at_sound : (p : Pool) (n fresh : ℕ) → Sound p → Ready p n fresh → Sound (take_at p n fresh)
take_at_sound p n fresh s r =
    let x : Slot = record { version = (slot_at p n).version; state = Live } in
    let l = short p in
    let long : length (set p.slots n x) ≡ length p.slots = length-set p.slots n x in
    let v = sum_by-set vacancy p.slots n x unused r.within in
    let w = sum_by-set wear p.slots n x unused r.within in
    let was = r.vacant in
    let worn : wear (slot_at p n) ≡ (slot_at p n).version = vacant_wear (slot_at p n).state (slot_at p n).version was in
    let few = s.fewer in
    let count = s.counted in
    let more = r.more in
    let most = r.most in
    let old = r.old in
    record {
      within = omega arith;
      free = take_free p n fresh s r;
      apart = take_apart p n fresh s;
      never = λ k h. let ne : k ≡ n → ⊥ = λ e. omega arith in let u = s.never k (omega arith) in record {
        first = ap (λ (y : Slot). y.version) (other_slot p n k x ne) ∙ u.first;
        vacant = ap vacancy (other_slot p n k x ne) ∙ u.vacant;
      };
      small = take_small p n fresh s r;
      fewer = omega arith;
      counted = omega arith;
    }

-- the two ways in which a place is taken, as one
ready : (p : Pool) → Sound p → 0 < room p → Ready p (next_place p) (cond (eqb (length p.freed) 0) (p.fresh + 1) p.fresh)
ready p s h =
    ⊎_elim
    (λ (e : length p.freed ≡ 0).
    subst (λ (b : Bool). Ready p (cond b p.fresh (get_or p.freed (length p.freed - 1) 0)) (cond b (p.fresh + 1) p.fresh)) (sym (eq-eqb _ _ e))
    (ready_none p s e h))
    (λ (ne : length p.freed ≡ 0 → ⊥).
    subst (λ (b : Bool). Ready p (cond b p.fresh (get_or p.freed (length p.freed - 1) 0)) (cond b (p.fresh + 1) p.fresh)) (sym (ne_eqb _ _ ne))
    (ready_last p s ne))
    (cases_eq (length p.freed) 0)

pub next_within : (p : Pool) → Sound p → 0 < room p → next_place p < length p.slots
next_within p s h = (ready p s h).within

pub next_vacant : (p : Pool) → Sound p → 0 < room p → vacancy (slot_at p (next_place p)) ≡ 1
next_vacant p s h = (ready p s h).vacant

pub take_sound : (p : Pool) → Sound p → 0 < room p → Sound (take_place p)
unfolding take_place
take_sound p s h = take_at_sound p (next_place p) _ s (ready p s h)

-- one place fewer is left
room_by : (p : Pool) (b : Bool) → Sound p → 0 < room p → eqb (length p.freed) 0 ≡ b
    → (length p.freed - 1) + (length p.slots - cond b (p.fresh + 1) p.fresh) + 1 ≡ room p
room_by p true s h e = let z = eqb-true _ _ e in let w = s.within in omega arith
room_by p false s h e = let z = eqb-false _ _ e in omega arith

pub room_take : (p : Pool) → Sound p → 0 < room p → room (take_place p) + 1 ≡ room p
unfolding take_place
room_take p s h =
    let l = short p in
    let n = length-set p.slots (next_place p) (record { version = (slot_at p (next_place p)).version; state = Live }) in
    let r = room_by p (eqb (length p.freed) 0) s h refl in
    omega arith

-- The count of takings is far from the largest number of 64 bits.

pub taken_most : (p : Pool) → Sound p → length p.slots ≤ 65535 → p.taken ≤ 281474976710655
taken_most p s few =
    let worn : All (λ x. wear x ≤ last_version + 1) p.slots
    = All-from_get_or (λ x. wear x ≤ last_version + 1) p.slots unused (λ k _. let b = s.small k in let w = wear_most (slot_at p k).state (slot_at p k).version in omega arith) in
    let sum = sum_by-le wear (last_version + 1) p.slots worn in
    let count = s.counted in
    omega arith

-- Freeing.

pub live_parts : (p : Pool) (h : Handle) → live p h ≡ true → (is_live (slot_at p h.place).state ≡ true) × ((slot_at p h.place).version ≡ h.version)
live_parts p h e = let both = and_parts _ _ e in (both.0, eqb-true _ _ both.1)

pub live_within : (p : Pool) (h : Handle) → live p h ≡ true → h.place < length p.slots
live_within p h e =
    ⊎_elim
    (λ (lt : h.place < length p.slots). lt)
    (λ (ge : length p.slots ≤ h.place).
    let f : live_slot unused h.version ≡ true = ap (λ (x : Slot). live_slot x h.version) (sym (get_or_past p.slots h.place unused ge)) ∙ e in
    let z : ◌≡◌ {A = ℕ} 0 1 = cc in absurd (omega arith))
    (cases_lt h.place (length p.slots))

live_old : (p : Pool) (h : Handle) → Sound p → live p h ≡ true → h.place < p.fresh
live_old p h s e =
    ⊎_elim
    (λ (lt : h.place < p.fresh). lt)
    (λ (ge : p.fresh ≤ h.place).
    let v = (s.never h.place ge).vacant in
    let f = live_full (slot_at p h.place).state (live_parts p h e).0 in
    absurd (omega arith))
    (cases_lt h.place p.fresh)

-- the freed places are not the live one
free_apart : (p : Pool) (h : Handle) → Sound p → live p h ≡ true → (i : ℕ) → i < length p.freed → get_or p.freed i 0 ≡ h.place → ⊥
free_apart p h s e i lt same =
    let v = (s.free i lt).vacant in
    let f = live_full (slot_at p h.place).state (live_parts p h e).0 in
    let w : vacancy (slot_at p h.place) ≡ 1 = ap (λ (m : ℕ). vacancy (slot_at p m)) (sym same) ∙ v in
    omega arith

-- the version of a live handle that is not below the last one
pub last_is : (p : Pool) (h : Handle) → Sound p → live p h ≡ true → last_version ≤ h.version → h.version ≡ last_version
last_is p h s e ge = let small = s.small h.place in let v = (live_parts p h e).1 in omega arith

-- a place that is freed, with the slot that it then has and the freed places after it
abbrev free_at : Pool → Handle → Slot → List ℕ → Pool
free_at p h x freed = record { slots = set p.slots h.place x; freed = freed; fresh = p.fresh; taken = p.taken }

record Ended (p : Pool) (h : Handle) (x : Slot) (freed : List ℕ) : Type 0 where
  small : x.version ≤ last_version
  worn : wear x ≡ h.version + 1
  free : (i : ℕ) → i < length freed → Freed (set p.slots h.place x) p.fresh (get_or freed i 0)
  apart : (i j : ℕ) → i < length freed → j < length freed → get_or freed i 0 ≡ get_or freed j 0 → i ≡ j
  fewer : length freed ≤ length p.freed + vacancy x

free_at_sound : (p : Pool) (h : Handle) (x : Slot) (freed : List ℕ) → Sound p → live p h ≡ true → Ended p h x freed → Sound (free_at p h x freed)
free_at_sound p h x freed s e end =
    let in_List = live_within p h e in
    let old = live_old p h s e in
    let parts = live_parts p h e in
    let same = parts.1 in
    let full : vacancy (slot_at p h.place) ≡ 0 = live_full (slot_at p h.place).state parts.0 in
    let worn : wear (slot_at p h.place) ≡ (slot_at p h.place).version + 1 = live_wear (slot_at p h.place).state _ parts.0 in
    let long : length (set p.slots h.place x) ≡ length p.slots = length-set p.slots h.place x in
    let v = sum_by-set vacancy p.slots h.place x unused in_List in
    let w = sum_by-set wear p.slots h.place x unused in_List in
    let now-worn = end.worn in
    let fewer = end.fewer in
    let few = s.fewer in
    let count = s.counted in
    let within = s.within in
    record {
      within = omega arith;
      free = end.free;
      apart = end.apart;
      never = λ k ge. let ne : k ≡ h.place → ⊥ = λ z. omega arith in let u = s.never k ge in record {
        first = ap (λ (y : Slot). y.version) (other_slot p h.place k x ne) ∙ u.first;
        vacant = ap vacancy (other_slot p h.place k x ne) ∙ u.vacant;
      };
      small = λ k.
          ⊎_elim
          (λ (z : k ≡ h.place).
          let is : (slot_at (free_at p h x freed) k).version ≡ x.version
          = ap (λ (m : ℕ). (slot_at (free_at p h x freed) m).version) z ∙ ap (λ (y : Slot). y.version) (get_or-set_same p.slots h.place x unused in_List) in
          let b = end.small in omega arith)
          (λ (ne : k ≡ h.place → ⊥).
          let is : (slot_at (free_at p h x freed) k).version ≡ (slot_at p k).version = ap (λ (y : Slot). y.version) (other_slot p h.place k x ne) in
          let b = s.small k in omega arith)
          (cases_eq k h.place);
      fewer = omega arith;
      counted = omega arith;
    }

-- what was freed before stays freed
still_free : (p : Pool) (h : Handle) (x : Slot) → Sound p → live p h ≡ true → (i : ℕ) → i < length p.freed → Freed (set p.slots h.place x) p.fresh (get_or p.freed i 0)
still_free p h x s e i lt = record {
  old = (s.free i lt).old;
  vacant = ap vacancy (other_slot p h.place (get_or p.freed i 0) x (free_apart p h s e i lt)) ∙ (s.free i lt).vacant;
}

retired : (p : Pool) (h : Handle) → Sound p → live p h ≡ true → Ended p h (record { version = h.version; state = Retired }) p.freed
retired p h s e = record {
  small = let b = s.small h.place in let v = (live_parts p h e).1 in omega arith;
  worn = refl;
  free = still_free p h _ s e;
  apart = s.apart;
  fewer = omega arith;
}

-- each place of a pushed list is one of the list, or the last
pushed_cases : (P : ℕ → Type 0) (xs : List ℕ) (n i : ℕ) → i < length (xs ++ n ∷ []) → (i < length xs → P (get_or xs i 0)) → (i ≡ length xs → P n) → P (get_or (xs ++ n ∷ []) i 0)
pushed_cases P xs n i h inner last =
    let l = length_push xs n in
    ⊎_elim
    (λ (lt : i < length xs). subst P (sym (get_or_append_left xs (n ∷ []) 0 i lt)) (inner lt))
    (λ (ge : length xs ≤ i). let z : length xs ≡ i = omega arith in subst P (sym (get_or_push xs n 0 i z)) (last (sym z)))
    (cases_lt i (length xs))

pushed_apart : (p : Pool) (h : Handle) → Sound p → live p h ≡ true → (i j : ℕ) → i < length (p.freed ++ h.place ∷ []) → j < length (p.freed ++ h.place ∷ [])
    → get_or (p.freed ++ h.place ∷ []) i 0 ≡ get_or (p.freed ++ h.place ∷ []) j 0 → i ≡ j
pushed_apart p h s e i j hi hj =
    pushed_cases (λ (m : ℕ). m ≡ get_or (p.freed ++ h.place ∷ []) j 0 → i ≡ j) p.freed h.place i hi
    (λ li. pushed_cases (λ (m : ℕ). get_or p.freed i 0 ≡ m → i ≡ j) p.freed h.place j hj
    (λ lj same. s.apart i j li lj same)
    (λ zj same. absurd (free_apart p h s e i li same)))
    (λ zi. pushed_cases (λ (m : ℕ). h.place ≡ m → i ≡ j) p.freed h.place j hj
    (λ lj same. absurd (free_apart p h s e j lj (sym same)))
    (λ zj same. zi ∙ sym zj))

renewed : (p : Pool) (h : Handle) → Sound p → live p h ≡ true → (h.version ≡ last_version → ⊥) → Ended p h (record { version = h.version + 1; state = Vacant }) (p.freed ++ h.place ∷ [])
renewed p h s e ne = record {
  small = let b = s.small h.place in let v = (live_parts p h e).1 in omega arith;
  worn = refl;
  free = λ i lt. pushed_cases (λ (m : ℕ). Freed (set p.slots h.place (record { version = h.version + 1; state = Vacant })) p.fresh m) p.freed h.place i lt
      (λ li. still_free p h _ s e i li)
      (λ z. record { old = live_old p h s e; vacant = ap vacancy (get_or-set_same p.slots h.place _ unused (live_within p h e)) });
  apart = pushed_apart p h s e;
  fewer = let l = length_push p.freed h.place in omega arith;
}

abbrev free_by : Pool → Handle → Bool → Pool
free_by p h b =
    free_at p h (cond b (record { version = h.version; state = Retired }) (record { version = h.version + 1; state = Vacant }))
    (cond b p.freed (p.freed ++ h.place ∷ []))

pub free_sound : (p : Pool) (h : Handle) → Sound p → live p h ≡ true → Sound (free_place h p)
unfolding free_place
free_sound p h s e =
    ⊎_elim
    (λ (z : h.version ≡ last_version).
    subst (λ (b : Bool). Sound (free_by p h b)) (sym (eq-eqb _ _ z)) (free_at_sound p h _ _ s e (retired p h s e)))
    (λ (ne : h.version ≡ last_version → ⊥).
    subst (λ (b : Bool). Sound (free_by p h b)) (sym (ne_eqb _ _ ne)) (free_at_sound p h _ _ s e (renewed p h s e ne)))
    (cases_eq h.version last_version)

vacancy_one : (s : State) → vacancy_of s ≤ 1
vacancy_one Vacant = omega arith
vacancy_one Live = omega arith
vacancy_one Retired = omega arith

-- there is room for one more freed place
pub freed_fits : (p : Pool) (h : Handle) → Sound p → live p h ≡ true → length p.freed < length p.slots
freed_fits p h s e =
    let in_List = live_within p h e in
    let full : vacancy (slot_at p h.place) ≡ 0 = live_full (slot_at p h.place).state (live_parts p h e).0 in
    let v = sum_by-set vacancy p.slots h.place unused unused in_List in
    let long : length (set p.slots h.place unused) ≡ length p.slots = length-set p.slots h.place unused in
    let after = set p.slots h.place unused in
    let one : All (λ x. vacancy x ≤ 1) after = All-from_get_or (λ x. vacancy x ≤ 1) after unused (λ k _. vacancy_one (get_or after k unused).state) in
    let most = sum_by-le vacancy 1 after one in
    let few = s.fewer in
    omega arith

-- Places none of which was ever taken.

pub unused_at : (n k : ℕ) → get_or (replicate n unused) k unused ≡ unused
unused_at zero k = refl
unused_at (suc n) zero = refl
unused_at (suc n) (suc k) = unused_at n k

pub unused_sound : (n : ℕ) → Sound (unused_pool n)
unused_sound n = record {
  within = omega arith;
  free = λ i h. absurd (omega arith);
  apart = λ i j h. absurd (omega arith);
  never = λ k h. record { first = ap (λ (x : Slot). x.version) (unused_at n k); vacant = ap vacancy (unused_at n k) };
  small = λ k. let e : (get_or (replicate n unused) k unused).version ≡ 1 = ap (λ (x : Slot). x.version) (unused_at n k) in omega arith;
  fewer = omega arith;
  counted = let l = length-replicate n unused in let w = sum_by-replicate wear n unused in omega arith;
}
