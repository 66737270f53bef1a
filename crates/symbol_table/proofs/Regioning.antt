-- A block that enters or leaves a region that is no table's leaves the bodies of tables as they were. Assumes nothing.
use Rattle.std.proofs.Common.{◌≡◌, Bool, true, List, [], ◌∷◌, Some, None, Option, sym, refl, ap, ◌∙◌, inl, inr}
use Rattle.std.specs.Option.{option_map}
use Rattle.arena.specs.Shelves.{item}
use Rattle.linked_list.specs.Links.{At, Chain, Holds}
use Rattle.records.specs.declared.handles.BlockPtr.{BlockPtr}
use Rattle.records.specs.declared.handles.OpPtr.{OpPtr}
use Rattle.records.specs.declared.handles.RegionPtr.{RegionPtr}
use Rattle.records.specs.declared.region.Region.{Region}
use Rattle.records.specs.Models.{Model, operation_at, region_at}
use Rattle.records.specs.Nodes.{Owned, is, is_table, of_table, owner, regions_of}
use Rattle.records.specs.Views.{block_links}
use Rattle.records.specs.Writes.{block_same}
use Rattle.forest.proofs.Owning.{named_live}
use Rattle.symbol_table.specs.Bodies.{Body, Bodied}
use Rattle.symbol_table.proofs.Faces.{SameOps, bodied_same}
use Rattle.symbol_table.proofs.Following.{none_some}
use Rattle.symbol_table.proofs.Growing.{part_some}
use Rattle.symbol_table.proofs.Ones.{still_one}

pub mapped_some : {X Y : Type 0} (f : X → Y) (x : Option X) (y : Y) → option_map f x ≡ Some y → (z : X) × (x ≡ Some z) × (f z ≡ y)
mapped_some f None y e = absurd (none_some e)
mapped_some f (Some z) y e = (z, refl, cc)

-- the region of a body belongs to the table
pub body_owner : (m : Model) → Owned m → (t : OpPtr) (b : Body m t) → owner m b.region ≡ Some t
body_owner m own t b =
    let o = mapped_some regions_of (operation_at m t) (b.region ∷ []) b.regions in
    let g = own.belongs t o.0 0 b.region o.1 (ap (λ (rs : List RegionPtr). item rs 0) o.2) in
    ap (option_map (λ (x : Region). x.parent_op)) g.record_is ∙ ap Some g.operation

pub body_held : (m : Model) (t : OpPtr) (b : Body m t) → (block_links m).held b.region ≡ true
body_held m t b = let h = part_some (λ (r : Region). r.head) (region_at m b.region) b.block b.blocks.head in named_live m.regions b.region.handle h.it h.is

module _ (m n : Model) (ops : SameOps m n) (own : Owned m) (L M : RegionPtr → List BlockPtr) (h : Holds (block_links m) L) (k : Holds (block_links n) M)
    (live : (block_links n).live ≡ (block_links m).live) (held : (block_links n).held ≡ (block_links m).held)
    (c : BlockPtr) (x : Option RegionPtr) (moves : At (block_links m).within (block_links n).within c x)
    (before : is (of_table m) ((block_links m).within c) ≡ true → ⊥) (after : is (of_table m) x ≡ true → ⊥) where
  of_a_table : (t : OpPtr) → is_table m t ≡ true → (b : Body m t) → of_table m b.region ≡ true
  of_a_table t i b = ap (is (is_table m)) (body_owner m own t b) ∙ i

  chain_still : (t : OpPtr) → is_table m t ≡ true → (b : Body m t) → Chain (block_links n) b.region (b.block ∷ [])
  chain_still t i b =
      let of = of_a_table t i b in
      let at = body_held m t b in
      still_one (block_links m) (block_links n) b.region b.block L M h k live at (ap (λ (f : RegionPtr → Bool). f b.region) held ∙ at) b.blocks
      (elim (block_same b.block c) [
        | inl e ↦ absurd (before (ap (is (of_table m)) (ap (block_links m).within (sym e) ∙ b.blocks.run.0.within) ∙ of))
        | inr ne ↦ moves.other b.block ne ∙ b.blocks.run.0.within
      ])
      (λ y e. elim (block_same y c) [
        | inl z ↦ absurd (after (ap (is (of_table m)) (sym moves.here ∙ ap (block_links n).within (sym z) ∙ e) ∙ of))
        | inr ne ↦ sym (moves.other y ne) ∙ e
      ])

  pub bodied_around : Bodied m → Bodied n
  bodied_around = bodied_same m n ops chain_still
