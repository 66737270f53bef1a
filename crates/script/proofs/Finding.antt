-- Makings keep the numbers of live nodes found.
use Rattle.std.proofs.Common.{◌≡◌, ℕ, zero, suc, ◌<◌, ◌≤◌, true, List, [], ◌∷◌, ◌++◌, ◌⊎◌, length, get_or, set, slice_get, slice_index, Some, Option, sym, refl, ap, ◌∙◌, subst, inl, inr, ⊎_elim, append_assoc, append-nil, arith}
use Rattle.std.proofs.lemmas.List.{get_or-set_same, get_or-set_other, length-append, length-set}
use Rattle.std.proofs.lemmas.Bool.{cases_eq, cases_lt}
use Rattle.std.proofs.lemmas.Option.{slice_get_within}
use Rattle.arena.specs.declared.handle.Handle.{Handle}
use Rattle.arena.specs.Pools.{Pool, Sound, live, next, room, slot_at, take_place}
use Rattle.arena.specs.Shelves.{Shelf}
use Rattle.arena.proofs.Filling.{long}
use Rattle.arena.proofs.Pooling.{live_parts, next_within}
use Rattle.arena.proofs.Shelving.{live_made, same_handle, take_live_other, take_long}
use Rattle.linked_list.proofs.Lists.{some_same}
use Rattle.records.specs.Writes.{handles}
use Rattle.records.specs.declared.handles.BlockPtr.{BlockPtr}
use Rattle.records.specs.declared.handles.OpPtr.{OpPtr}
use Rattle.records.specs.declared.handles.RegionPtr.{RegionPtr}
use Rattle.records.specs.declared.region.Region.{Region}
use Rattle.records.specs.Makings.{region_ptrs, with_regions}
use Rattle.records.proofs.Regions.{regions_grown}
use Rattle.script.specs.Found.{Found}
use Rattle.script.specs.Numbers.{latest_from}
use Rattle.script.proofs.Following.{latest_more}

module _ {T : Type 0} where
  get_left : (xs ys : List T) (n : ℕ) → n < length xs → slice_get (xs ++ ys) n ≡ slice_get xs n
  get_left [] ys n h = absurd (omega arith)
  get_left (x ∷ xs) ys zero h = refl
  get_left (x ∷ xs) ys (suc n) h = get_left xs ys n (omega arith)

  get_end : (xs : List T) (y : T) → slice_get (xs ++ y ∷ []) (length xs) ≡ Some y
  get_end [] y = refl
  get_end (x ∷ xs) y = get_end xs y

  pub latest_long : (place : T → ℕ) (n : ℕ) (xs : List T) (latest : List ℕ) → length (latest_from place n xs latest) ≡ length latest
  latest_long place n [] latest = refl
  latest_long place n (x ∷ xs) latest = latest_long place (suc n) xs (set latest (place x) n) ∙ length-set latest (place x) n

module _ {T : Type 0} (handle : T → Handle) (inj : (x y : T) → handle x ≡ handle y → x ≡ y) where
  place : T → ℕ
  place x = (handle x).place

  -- one node more is numbered: a live node is it, or was live at another place
  module _ (p q : Pool) (hs : List T) (ls : List ℕ) (x : T) (long : length ls ≡ 512) (within : (handle x).place < 512)
      (either : (y : T) → live q (handle y) ≡ true → (y ≡ x) ⊎ ((live p (handle y) ≡ true) × ((handle y).place ≡ (handle x).place → ⊥))) (f : Found handle p hs ls) where
    abbrev ls' : List ℕ
    ls' = set ls (handle x).place (length hs)

    here : (y : T) → (handle y).place ≡ (handle x).place → slice_index ls' (handle y).place ≡ length hs
    here y e = ap (λ n. get_or ls' n 0) e ∙ get_or-set_same ls (handle x).place (length hs) 0 (omega (arith, long))

    other : (y : T) → ((handle y).place ≡ (handle x).place → ⊥) → slice_index ls' (handle y).place ≡ slice_index ls (handle y).place
    other y ne = get_or-set_other ls (handle x).place (handle y).place (length hs) 0 ne

    found_one : Found handle q (hs ++ x ∷ []) ls'
    found_one = record {
      finds = λ y e. ⊎_elim
          (λ (same : y ≡ x). ap (slice_get (hs ++ x ∷ [])) (here y (ap (λ z. (handle z).place) same)) ∙ get_end hs x ∙ ap Some (sym same))
          (λ (o : (live p (handle y) ≡ true) × ((handle y).place ≡ (handle x).place → ⊥)).
          let is = f.finds y o.0 in
          ap (slice_get (hs ++ x ∷ [])) (other y o.1) ∙ get_left hs (x ∷ []) _ (slice_get_within hs _ y is) ∙ is)
          (either y e);
      last = λ n y e lt.
          let long_now = length-append hs (x ∷ []) in
          let inside = slice_get_within (hs ++ x ∷ []) n y e in
          ⊎_elim
          (λ (same : (handle y).place ≡ (handle x).place). let h = here y same in omega arith)
          (λ (ne : (handle y).place ≡ (handle x).place → ⊥).
          let h = other y ne in
          ⊎_elim
          (λ (before : n < length hs). let l = f.last n y (sym (get_left hs (x ∷ []) n before) ∙ e) lt in omega arith)
          (λ (after : length hs ≤ n).
          let at : n ≡ length hs = omega arith in
          absurd (ne (ap (λ z. (handle z).place) (some_same (sym e ∙ ap (slice_get (hs ++ x ∷ [])) at ∙ get_end hs x)))))
          (cases_lt n (length hs)))
          (cases_eq (handle y).place (handle x).place);
    }

  -- the node that takes the next place is numbered
  pub found_taken : (p : Pool) (hs : List T) (ls : List ℕ) (x : T) → Sound p → 0 < room p → length p.slots ≤ 512 → length ls ≡ 512 → handle x ≡ next p → Found handle p hs ls
      → Found handle (take_place p) (hs ++ x ∷ []) (set ls (handle x).place (length hs))
  found_taken p hs ls x s h few long is f =
      let w = next_within p s h in
      let at : (handle x).place ≡ (next p).place = ap (λ (k : Handle). k.place) is in
      let mine : live (take_place p) (handle x) ≡ true = ap (live (take_place p)) is ∙ live_made p s h in
      found_one p (take_place p) hs ls x long (omega arith)
      (λ y e. elim (handles (handle y) (next p)) [
        | inl same ↦ inl (inj y x (same ∙ sym is))
        | inr ne ↦ inr (
          sym (take_live_other p (handle y) s h ne) ∙ e,
          λ q. ne (same_handle (handle y) (handle x) q (sym (live_parts (take_place p) (handle y) e).1 ∙ ap (λ (i : ℕ). (slot_at (take_place p) i).version) q ∙ (live_parts (take_place p) (handle x) mine).1) ∙ is),
        )
      ]) f

region_inj : (x y : RegionPtr) → x.handle ≡ y.handle → x ≡ y
region_inj x y e = ap (λ (h : Handle). record { handle = h }) e

pub op_inj : (x y : OpPtr) → x.handle ≡ y.handle → x ≡ y
op_inj x y e = ap (λ (h : Handle). record { handle = h }) e

pub block_inj : (x y : BlockPtr) → x.handle ≡ y.handle → x ≡ y
block_inj x y e = ap (λ (h : Handle). record { handle = h }) e

-- the regions of an operation are numbered, one after the other
module _ (op : OpPtr) (body : Option BlockPtr) (a : Shelf Region) (s : Sound a.pool) (few : length a.pool.slots ≤ 512) (hs : List RegionPtr) (ls : List ℕ) (all : length ls ≡ 512)
    (f : Found {T = RegionPtr} (λ r. r.handle) a.pool hs ls) where
  same_size : (n : ℕ) → length (with_regions op body n a).pool.slots ≡ length a.pool.slots
  unfolding with_regions
  same_size zero = refl
  same_size (suc n) = take_long (with_regions op body n a).pool ∙ same_size n

  abbrev from : List RegionPtr → List ℕ
  from rs = latest_from (λ (r : RegionPtr). r.handle.place) (length hs) rs ls

  pub found_regions : (n : ℕ) → n ≤ room a.pool → Found {T = RegionPtr} (λ r. r.handle) (with_regions op body n a).pool (hs ++ region_ptrs op body n a) (from (region_ptrs op body n a))
  unfolding with_regions region_ptrs
  found_regions zero h = subst (λ (l : List RegionPtr). Found {T = RegionPtr} (λ r. r.handle) a.pool l ls) (sym (append-nil hs)) f
  found_regions (suc n) h =
      let b = with_regions op body n a in
      let rs = region_ptrs op body n a in
      let x : RegionPtr = record { handle = next b.pool } in
      let g = regions_grown op body a n s (omega arith) in
      let r = g.rooms in
      let z = same_size n in
      let l = latest_long (λ (r : RegionPtr). r.handle.place) (length hs) rs ls in
      let k = found_taken (λ (r : RegionPtr). r.handle) region_inj b.pool (hs ++ rs) (from rs) x g.sound (omega arith) (omega arith) (l ∙ all) refl (found_regions n (omega arith)) in
      let at : set (from rs) x.handle.place (length (hs ++ rs)) ≡ from (rs ++ x ∷ []) =
      ap (set (from rs) x.handle.place) (length-append hs rs) ∙ sym (latest_more (λ (r : RegionPtr). r.handle.place) (length hs) rs x ls) in
      subst (λ (m : List ℕ). Found {T = RegionPtr} (λ r. r.handle) (with_regions op body (suc n) a).pool (hs ++ (rs ++ x ∷ [])) m) at
      (subst (λ (l : List RegionPtr). Found {T = RegionPtr} (λ r. r.handle) (with_regions op body (suc n) a).pool l (set (from rs) x.handle.place (length (hs ++ rs)))) (append_assoc hs rs (x ∷ [])) k)
