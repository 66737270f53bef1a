-- Makings keep that operations and their regions know each other. Assumes nothing.
use Rattle.std.proofs.Common.{◌≡◌, ℕ, zero, suc, ◌<◌, ◌≤◌, true, List, [], ◌∷◌, ◌++◌, length, Some, None, Option, sym, refl, ap, ◌∙◌, subst, inl, inr, ⊎_elim, arith}
use mathlib.Core.Logic.{∥∥₁_map}
use Rattle.std.proofs.lemmas.Bool.{cases_eq}
use Rattle.arena.specs.declared.handle.Handle.{Handle}
use Rattle.arena.specs.Pools.{live, next, room}
use Rattle.arena.specs.Shelves.{Shelf, at, item}
use Rattle.arena.proofs.Shelving.{at_dead, enter_keeps, enter_only}
use Rattle.records.specs.declared.handles.BlockPtr.{BlockPtr}
use Rattle.records.specs.declared.handles.OpPtr.{OpPtr}
use Rattle.records.specs.declared.handles.RegionPtr.{RegionPtr}
use Rattle.records.specs.declared.kind.Kind.{Kind}
use Rattle.records.specs.declared.operation.Operation.{Operation}
use Rattle.records.specs.declared.region.Region.{Region}
use Rattle.records.specs.Makings.{Roomy, body_of, new_operation, new_region, region_ptrs, regions_made, with_block, with_operation, with_regions}
use Rattle.records.specs.Models.{Untouched, Model, next_op, operation_at, region_at, region_of}
use Rattle.records.specs.Nodes.{Belongs, Has, Owned, regions_of}
use Rattle.records.proofs.Regions.{ptrs_long, regions_grown}
use Rattle.records.specs.Writes.{same_opptr, same_regionptr}
use Rattle.forest.proofs.Kept.{unused_dead}
use Rattle.forest.proofs.Listed.{Made, MadeRegion, More, decide, more_one, more_regions, no_some, regions_even}
use Rattle.forest.proofs.Tables.{Tables}

-- Items of lists.

module _ {T : Type 0} where
  item_front : (xs ys : List T) (i : ℕ) → i < length xs → item (xs ++ ys) i ≡ item xs i
  item_front [] ys i h = absurd (omega arith)
  item_front (x ∷ xs) ys zero h = refl
  item_front (x ∷ xs) ys (suc i) h = item_front xs ys i (omega arith)

  item_last : (xs : List T) (x : T) (i : ℕ) → i ≡ length xs → item (xs ++ x ∷ []) i ≡ Some x
  item_last [] x zero e = refl
  item_last [] x (suc i) e = absurd (omega arith)
  item_last (y ∷ xs) x zero e = absurd (omega arith)
  item_last (y ∷ xs) x (suc i) e = item_last xs x i (omega arith)

  pub item_within : (xs : List T) (i : ℕ) (x : T) → item xs i ≡ Some x → i < length xs
  item_within [] i x e = absurd (no_some x None refl e)
  item_within (y ∷ xs) zero x e = omega arith
  item_within (y ∷ xs) (suc i) x e = let h = item_within xs i x e in omega arith

  -- a handle that names a record is live
  pub named_live : (a : Shelf T) (k : Handle) (x : T) → at a k ≡ Some x → live a.pool k ≡ true
  named_live a k x e = elim (decide (live a.pool k)) [ inl l ↦ l | inr d ↦ absurd (no_some x (at a k) (at_dead a k d) e) ]

-- The regions of a new operation.

module _ (op : OpPtr) (body : Option BlockPtr) (m : Model) (t : Tables m) where
  pub region_handle : ℕ → Handle
  region_handle i = next (with_regions op body i m.regions).pool

  pub handle_is : (i : ℕ) → next (with_regions op body i m.regions).pool ≡ region_handle i
  unfolding region_handle
  handle_is i = refl

  pub ptr_item : (n i : ℕ) → i < n → item (region_ptrs op body n m.regions) i ≡ Some (region_of (region_handle i))
  unfolding region_ptrs region_handle
  ptr_item zero i h = absurd (omega arith)
  ptr_item (suc n) i h =
      let l = ptrs_long op body m.regions n in
      let xs = region_ptrs op body n m.regions in
      elim (cases_eq i n) [
        | inl e ↦
            let z : i ≡ length xs = omega arith in
            item_last xs (region_of (region_handle n)) i z ∙ ap (λ (j : ℕ). Some (region_of (region_handle j))) (sym e)
        | inr ne ↦
            let z : i < length xs = omega arith in
            item_front xs (region_of (region_handle n) ∷ []) i z ∙ ptr_item n i (omega arith)
      ]

  pub region_there : (n i : ℕ) → i < n → n ≤ room m.regions.pool → at (with_regions op body n m.regions) (region_handle i) ≡ Some (new_region op body i)
  unfolding with_regions region_handle
  region_there zero i h f = absurd (omega arith)
  region_there (suc n) i h f =
      let g = regions_grown op body m.regions n t.region_places (omega arith) in
      let r = g.rooms in
      let some : 0 < room (with_regions op body n m.regions).pool = omega arith in
      let even = regions_even op body m.regions t.region_places t.regions_even n in
      let x = new_region op body n in
      elim (cases_eq i n) [
        | inl e ↦
            ap (λ (j : ℕ). at (with_regions op body (suc n) m.regions) (region_handle j)) e
            ∙ (enter_only (with_regions op body n m.regions) x g.sound some even).here
            ∙ ap (λ (j : ℕ). Some (new_region op body j)) (sym e)
        | inr ne ↦
            let old = region_there n i (omega arith) (omega arith) in
            enter_keeps (with_regions op body n m.regions) x g.sound some (region_handle i) (named_live (with_regions op body n m.regions) (region_handle i) (new_region op body i) old) ∙ old
      ]

-- The making of an operation.

module _ (m : Model) (t : Tables m) (kind : Kind) (name : Option ℕ) (count : ℕ) (roomy : Roomy kind count m) (w : Owned m) where
  abbrev after : Model
  after = with_operation kind name count m

  abbrev body : Option BlockPtr
  body = body_of kind.table m

  abbrev made : Operation
  made = new_operation kind name (regions_made kind count m)

  ops : More m.operations after.operations (Made m.operations made)
  ops = more_one m.operations made t.op_places roomy.operations t.ops_even

  regions : More m.regions after.regions (MadeRegion (next_op m) body m.regions t.region_places t.regions_even count)
  regions = more_regions (next_op m) body m.regions t.region_places t.regions_even count roomy.regions

  is_region : (i : ℕ) → i < count → item (regions_of made) i ≡ Some (region_of (region_handle (next_op m) body m t i))
  is_region i h = ptr_item (next_op m) body m t count i h

  new_belongs : (i : ℕ) (r : RegionPtr) → item (regions_of made) i ≡ Some r → Belongs after (next_op m) i r
  new_belongs i r e =
      let l = ptrs_long (next_op m) body m.regions count in
      let h = item_within (regions_of made) i r e in
      let lt : i < count = omega arith in
      let same : region_of (region_handle (next_op m) body m t i) ≡ r = some_same (sym (is_region i lt) ∙ e) in
      record {
        is_live = new_region (next_op m) body i;
        record_is = ap (region_at after) (sym same) ∙ region_there (next_op m) body m t count i lt roomy.regions;
        operation = refl;
        place = refl;
      }
    where
      some_same : {a b : RegionPtr} → Some a ≡ Some b → a ≡ b
      some_same q = cc

  all_belong : (op : OpPtr) (o : Operation) (i : ℕ) (r : RegionPtr) → operation_at after op ≡ Some o → item (regions_of o) i ≡ Some r → Belongs after op i r
  all_belong op o i r e f =
      ⊎_elim
      (λ (old : live m.operations.pool op.handle ≡ true).
      let b = w.belongs op o i r (sym (ops.keeps op.handle old) ∙ e) f in
      record {
        is_live = b.is_live;
        record_is = regions.keeps r.handle (named_live m.regions r.handle b.is_live b.record_is) ∙ b.record_is;
        operation = b.operation;
        place = b.place;
      })
      (λ (new : (y : Operation) × (at after.operations op.handle ≡ Some y) × Made m.operations made op.handle y).
      let same : o ≡ made = same_record o new.0 (sym e ∙ new.1) ∙ new.2.1 in
      let is : next_op m ≡ op = sym (same_opptr op (next_op m) new.2.0) in
      subst (λ (p : OpPtr). Belongs after p i r) is (new_belongs i r (ap (λ (z : Operation). item (regions_of z) i) (sym same) ∙ f)))
      (ops.new op.handle (named_live after.operations op.handle o e))
    where
      same_record : (a b : Operation) → Some a ≡ Some b → a ≡ b
      same_record a b q = cc

  all_have : (r : RegionPtr) (x : Region) → region_at after r ≡ Some x → Has after x.parent_op x.index r
  all_have r x e =
      ⊎_elim
      (λ (old : live m.regions.pool r.handle ≡ true).
      let h = w.has r x (sym (regions.keeps r.handle old) ∙ e) in
      record {
        is_live = h.is_live;
        record_is = ops.keeps x.parent_op.handle (named_live m.operations x.parent_op.handle h.is_live h.record_is) ∙ h.record_is;
        listed = h.listed;
      })
      (λ (new : (y : Region) × (at after.regions r.handle ≡ Some y) × MadeRegion (next_op m) body m.regions t.region_places t.regions_even count r.handle y).
      let i = new.2.0 in
      let same : x ≡ new_region (next_op m) body i = same_record x new.0 (sym e ∙ new.1) ∙ new.2.3 in
      let is : region_of (region_handle (next_op m) body m t i) ≡ r = sym (same_regionptr r (region_of (region_handle (next_op m) body m t i)) (new.2.2 ∙ handle_is (next_op m) body m t i)) in
      let there : Has after (next_op m) i r = record {
        is_live = made;
        record_is = is_made;
        listed = is_region i new.2.1 ∙ ap Some is;
      } in
      subst (λ (y : Region). Has after y.parent_op y.index r) (sym same) there)
      (regions.new r.handle (named_live after.regions r.handle x e))
    where
      same_record : (a b : Region) → Some a ≡ Some b → a ≡ b
      same_record a b q = cc

      is_made : operation_at after (next_op m) ≡ Some made
      is_made = (enter_only m.operations made t.op_places roomy.operations t.ops_even).here

pub made_owned : (m : Model) (t : Tables m) (kind : Kind) (name : Option ℕ) (count : ℕ) → Roomy kind count m → ∥ Owned m ∥₁ → ∥ Owned (with_operation kind name count m) ∥₁
made_owned m t kind name count r o = ∥∥₁_map o (λ w. record { belongs = all_belong m t kind name count r w; has = all_have m t kind name count r w })

-- The making of a block changes neither table.
pub block_owned : (m : Model) → ∥ Owned m ∥₁ → ∥ Owned (with_block m) ∥₁
block_owned m o =
    ∥∥₁_map o (λ w. record {
      belongs = λ op o i r e f. let b = w.belongs op o i r e f in record { is_live = b.is_live; record_is = b.record_is; operation = b.operation; place = b.place };
      has = λ r x e. let h = w.has r x e in record { is_live = h.is_live; record_is = h.record_is; listed = h.listed };
    })

-- where nothing was made there is nothing to know
pub fresh_owned : (m : Model) → Untouched m → ∥ Owned m ∥₁
fresh_owned m f =
    ∣ record {
      belongs = λ op o i r e g. absurd (no_some o (operation_at m op) (at_dead m.operations op.handle (unused_dead _ 512 op.handle f.operations)) e);
      has = λ r x e. absurd (no_some x (region_at m r) (at_dead m.regions r.handle (unused_dead _ 256 r.handle f.regions)) e);
    } ∣₁
