-- What insertions and removals leave, from what their steps answer. Assumes nothing.
use Rattle.std.proofs.Common.{◌≡◌, ℕ, true, false, is_some, Some, None, Ok, Err, Option, Result, sym, refl, ap, ◌∙◌, subst, inl, inr, ⊎_elim}
use Rattle.std.specs.Prelude.{IsOk}
use Rattle.records.specs.declared.handles.OpPtr.{OpPtr}
use Rattle.records.specs.Views.{op_links}
use Rattle.result.specs.declared.refusal.Refusal.{Refusal}
use Rattle.result.specs.Rows.{NoRow, Uppermost}
use Rattle.table.specs.declared.entry.Full.{Full}
use Rattle.records.proofs.Rests.{op_edit_links}
use Rattle.forest.specs.declared.forest.Forest.{Forest}
use Rattle.forest.specs.Forests.{model}
use Rattle.forest.specs.Linkings.{OpLinked, OpUnlinked}
use Rattle.forest.specs.Placings.{place_op_rows, take_op_rows}
use Rattle.forest.proofs.Listed.{clash}
use Rattle.mappings.specs.declared.mappings.Mappings.{Mappings}
use Rattle.mappings.specs.Edits.{Changed, Puts}
use Rattle.mappings.specs.Held.{mapped}
use Rattle.mappings.proofs.Counting.{never_full}
use Rattle.symbol_table.specs.declared.admitting.Admitted.{Admitted}
use Rattle.symbol_table.specs.declared.op_insertion_point.OpInsertionPoint.{OpInsertionPoint}
use Rattle.symbol_table.specs.declared.symbol_tables.SymbolTables.{SymbolTables}
use Rattle.symbol_table.specs.Bodies.{block_parent, parent_op}
use Rattle.symbol_table.specs.Carried.{nodes}
use Rattle.symbol_table.specs.Inserting.{Inserted, Removed, insert_rows, remove_rows}
use Rattle.symbol_table.specs.Steps.{AdmittedFor, Wanted}
use Rattle.symbol_table.proofs.Carrying.{Whole, op_bodied, op_named, op_owners}
use Rattle.symbol_table.proofs.Faces.{op_edit_faces}
use Rattle.symbol_table.proofs.Findings.{follows_in, some_same}
use Rattle.symbol_table.proofs.Following.{part_none, same_block_parent}
use Rattle.symbol_table.proofs.Putting.{apart, body_parent, follows_put, follows_taken, passed, place_few, spare}
use Rattle.symbol_table.proofs.Stores.{whole}

loose_none : {X : Type 0} (x : Option X) → (is_some x ≡ true → ⊥) → x ≡ None
loose_none None h = refl
loose_none (Some y) h = absurd (h refl)

module _ (s : SymbolTables) (t op : OpPtr) (point : Option OpInsertionPoint) (a : Admitted) (p : AdmittedFor (nodes s) t op point a) (f : Forest)
    (r : NoRow (place_op_rows (nodes s) op a.spot)) (e : OpLinked (nodes s) op a.spot (model f)) (x : Result (Option OpPtr) Full) (g : Mappings) (put : Puts s.mappings t a.number op x g) where
  loose : (op_links (nodes s)).within op ≡ None
  loose = loose_none ((op_links (nodes s)).within op) r.1.0

  done : (y : Result (Option OpPtr) Full) → Puts s.mappings t a.number op y g → IsOk y → Changed s.mappings t a.number (Some op) g
  done (Ok old) q h = q.changed
  done (Err z) q h = absurd (clash (sym h))

  changed : Changed s.mappings t a.number (Some op) g
  changed = done x put (never_full s.mappings g op.handle.place t a.number op x (apart s) (place_few s op p.wanted.alive) (spare s op p.wanted.alive loose) put)

  unmapped_when : (y : Option OpPtr) → mapped s.mappings t a.number ≡ y → mapped s.mappings t a.number ≡ None
  unmapped_when None q = q
  unmapped_when (Some o) q = absurd (p.new (record { number = a.number; named = p.wanted.named; other = o; stands = (follows_in s).found t a.number o q }))

  pub put_whole : Whole (model f) (mapped g)
  put_whole =
      let m = nodes s in
      let n = model f in
      let ops = op_edit_faces m n e.rests in
      let links = op_edit_links m n e.rests in
      let owners = op_owners m n (mapped s.mappings) (whole s) e.rests in
      let into : e.container ≡ p.found.body = some_same (sym e.into ∙ p.found.lies) in
      let up : block_parent m e.container ≡ Some t = ap (block_parent m) into ∙ body_parent m s.bodied s.forest.owned t p.wanted.table p.found.body p.found.is_body in
      record {
        bodied = op_bodied m n (mapped s.mappings) (whole s) e.rests;
        named = op_named m n (mapped s.mappings) (whole s) e.rests;
        follows =
            ∣ follows_put m n ops links owners (mapped s.mappings) (mapped g) (follows_in s) t op a.number p.wanted.table p.wanted.named changed.others e.container e.inserts.moves loose
            (same_block_parent m n ops links owners e.container ∙ up) (unmapped_when (mapped s.mappings t a.number) refl) changed.here ∣₁;
      }

  pub inserted : (u : SymbolTables) → u.forest ≡ f → u.mappings ≡ g → NoRow (insert_rows (nodes s) t op point) × Inserted s t op point u
  inserted u same_f same_g = (
    passed (nodes s) s.forest.oplists s.bodied t op point a p r,
    record {
      body = p.found.body;
      is_body = p.found.is_body;
      spot = a.spot;
      goes = p.found.goes;
      lies = p.found.lies;
      linked = subst (λ (h : Forest). OpLinked (nodes s) op a.spot (model h)) (sym same_f) e;
      number = a.number;
      named = p.wanted.named;
      mapped = subst (Changed s.mappings t a.number (Some op)) (sym same_g) changed;
    },
  )

module _ (s : SymbolTables) (t op : OpPtr) (i : ℕ) (w : Wanted (nodes s) t op i) (stood : parent_op (nodes s) op ≡ Some t) (f : Forest) where
  -- taking is not refused
  pub not_refused : {X : Type 0} (e : Refusal) → Uppermost (take_op_rows (nodes s) op) e → X
  not_refused e (inl d) = absurd (clash (sym w.alive ∙ d.1))
  not_refused e (inr (l, inl d)) = absurd (part_none (block_parent (nodes s)) ((op_links (nodes s)).within op) t d.1 stood)
  not_refused e (inr (l, inr (k, u))) = absurd u

  module _ (e : OpUnlinked (nodes s) op (model f)) (g : Mappings) (changed : Changed s.mappings t i None g) where
    pub taken_whole : Whole (model f) (mapped g)
    taken_whole =
        let m = nodes s in
        let n = model f in
        record {
          bodied = op_bodied m n (mapped s.mappings) (whole s) e.rests;
          named = op_named m n (mapped s.mappings) (whole s) e.rests;
          follows =
              ∣ follows_taken m n (op_edit_faces m n e.rests) (op_edit_links m n e.rests) (op_owners m n (mapped s.mappings) (whole s) e.rests) (mapped s.mappings) (mapped g) (follows_in s) t op i
              w.table w.named changed.others e.removes.moves stood changed.here ∣₁;
        }

    pub removed : (u : SymbolTables) → u.forest ≡ f → u.mappings ≡ g → NoRow (remove_rows (nodes s) t op) × Removed s t op u
    removed u same_f same_g = (
      (
        ⊎_elim (λ (d : (op_links (nodes s)).live t ≡ false). clash (sym w.held ∙ d)) (λ (d : (op_links (nodes s)).live op ≡ false). clash (sym w.alive ∙ d)),
        ((λ d. clash (sym w.table ∙ d)), ((λ d. clash (sym w.symbol ∙ d)), ((λ d. d stood), tt))),
      ),
      record {
        unlinked = subst (λ (h : Forest). OpUnlinked (nodes s) op (model h)) (sym same_f) e;
        number = i;
        named = w.named;
        mapped = subst (Changed s.mappings t i None) (sym same_g) changed;
      },
    )
