-- What every edit keeps of the operations: what each is, its name and its regions. Assumes nothing.
use Rattle.std.proofs.Common.{◌≡◌, ℕ, Bool, true, List, [], ◌∷◌, is_some, Some, None, Option, sym, refl, ap, ◌∙◌, subst, inl, inr}
use Rattle.std.specs.Option.{option_map}
use Rattle.arena.specs.declared.handle.Handle.{Handle}
use Rattle.arena.specs.Shelves.{Shelf, at}
use Rattle.linked_list.specs.Links.{Chain, View}
use Rattle.records.specs.declared.handles.BlockPtr.{BlockPtr}
use Rattle.records.specs.declared.handles.OpPtr.{OpPtr}
use Rattle.records.specs.declared.handles.RegionPtr.{RegionPtr}
use Rattle.records.specs.declared.kind.Kind.{Kind}
use Rattle.records.specs.declared.operation.Operation.{Operation}
use Rattle.records.specs.Models.{Model, operation_at}
use Rattle.records.specs.Nodes.{is, is_symbol, is_table, regions_of}
use Rattle.records.specs.Views.{block_links, but_block_links, but_op_links, loose_op, part}
use Rattle.records.specs.Writes.{handles}
use Rattle.records.proofs.Rests.{same_mapped}
use Rattle.forest.specs.Calls.{Noted}
use Rattle.forest.specs.declared.forest.Forest.{Forest}
use Rattle.forest.specs.Forests.{model}
use Rattle.symbol_table.specs.Bodies.{Body, Bodied, Named, name_of}

-- what an operation is, its name and its regions
abbrev pub Face : Type 0
Face = Kind × Option ℕ × List RegionPtr

abbrev pub face : Operation → Face
face o = (o.kind, o.name, regions_of o)

-- the operations of two stores are alike but for notes and links
pub record SameOps (m n : Model) : Type 0 where
  pub same : (p : OpPtr) → option_map face (operation_at n p) ≡ option_map face (operation_at m p)

-- what is read off a face is the same
face_is : (f : Face → Bool) (x : Option Operation) → is (λ (o : Operation). f (face o)) x ≡ is f (option_map face x)
face_is f None = refl
face_is f (Some o) = refl

face_part : {X : Type 0} (f : Face → Option X) (x : Option Operation) → part (λ (o : Operation). f (face o)) x ≡ part f (option_map face x)
face_part f None = refl
face_part f (Some o) = refl

face_map : {X : Type 0} (f : Face → X) (x : Option Operation) → option_map (λ (o : Operation). f (face o)) x ≡ option_map f (option_map face x)
face_map f None = refl
face_map f (Some o) = refl

-- one operation is alike in both stores
module _ (m n : Model) (p : OpPtr) (same : option_map face (operation_at n p) ≡ option_map face (operation_at m p)) where
  is_at : (f : Face → Bool) → is (λ (o : Operation). f (face o)) (operation_at n p) ≡ is (λ (o : Operation). f (face o)) (operation_at m p)
  is_at f = face_is f (operation_at n p) ∙ ap (is f) same ∙ sym (face_is f (operation_at m p))

  pub table_at : is_table n p ≡ is_table m p
  table_at = is_at (λ (x : Face). x.0.table)

  pub symbol_at : is_symbol n p ≡ is_symbol m p
  symbol_at = is_at (λ (x : Face). x.0.symbol)

  pub name_at : name_of n p ≡ name_of m p
  name_at = face_part (λ (x : Face). x.1) (operation_at n p) ∙ ap (part (λ (x : Face). x.1)) same ∙ sym (face_part (λ (x : Face). x.1) (operation_at m p))

  pub regions_at : option_map regions_of (operation_at n p) ≡ option_map regions_of (operation_at m p)
  regions_at = face_map (λ (x : Face). x.2) (operation_at n p) ∙ ap (option_map (λ (x : Face). x.2)) same ∙ sym (face_map (λ (x : Face). x.2) (operation_at m p))

module _ (m n : Model) (ops : SameOps m n) where
  pub same_table : (p : OpPtr) → is_table n p ≡ is_table m p
  same_table p = table_at m n p (ops.same p)

  pub same_symbol : (p : OpPtr) → is_symbol n p ≡ is_symbol m p
  same_symbol p = symbol_at m n p (ops.same p)

  pub same_name : (p : OpPtr) → name_of n p ≡ name_of m p
  same_name p = name_at m n p (ops.same p)

  pub same_regions : (p : OpPtr) → option_map regions_of (operation_at n p) ≡ option_map regions_of (operation_at m p)
  same_regions p = regions_at m n p (ops.same p)

  -- the symbols go on to be the operations that have a name
  pub named_same : Named m → Named n
  named_same h = record { symbols = λ p. same_symbol p ∙ h.symbols p ∙ sym (ap is_some (same_name p)) }

  -- tables go on to have their bodies where what is in regions stays
  pub bodied_same : ((t : OpPtr) → is_table m t ≡ true → (b : Body m t) → Chain (block_links n) b.region (b.block ∷ [])) → Bodied m → Bodied n
  bodied_same chain h = record {
    body = λ t e. let b = h.body t (sym (same_table t) ∙ e) in
        record { region = b.region; block = b.block; regions = same_regions t ∙ b.regions; blocks = chain t (sym (same_table t) ∙ e) b };
  }

  pub bodied_links : block_links n ≡ block_links m → Bodied m → Bodied n
  bodied_links e = bodied_same (λ t i b. subst (λ (v : View BlockPtr RegionPtr). Chain v b.region (b.block ∷ [])) (sym e) b.blocks)

-- edits of links, and notes, leave the faces
pub op_edit_faces : (m n : Model) → but_op_links n ≡ but_op_links m → SameOps m n
op_edit_faces m n rest = record { same = λ p. same_mapped loose_op m.operations n.operations (ap (λ (a : Model). a.operations) rest) face (λ o. refl) p.handle }

pub block_edit_faces : (m n : Model) → but_block_links n ≡ but_block_links m → SameOps m n
block_edit_faces m n rest = record { same = λ p. ap (λ (a : Shelf Operation). option_map face (at a p.handle)) (ap (λ (a : Model). a.operations) rest) }

pub noted_faces : (f t : Forest) (op : OpPtr) (note : ℕ) → Noted f op note t → SameOps (model f) (model t)
noted_faces f t op note e = record {
  same = λ p. elim (handles p.handle op.handle) [
    | inl z ↦ ap (λ (j : Handle). option_map face (at (model t).operations j)) z ∙ ap (option_map face) e.only.here ∙ sym (ap (option_map face) e.was) ∙ ap (λ (j : Handle). option_map face (at (model f).operations j)) (sym z)
    | inr ne ↦ ap (option_map face) (e.only.others p.handle ne)
  ];
}
