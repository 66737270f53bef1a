-- What notes and edits of links leave as it was: the other kind of link, and which region is whose. Assumes nothing.
use Rattle.std.proofs.Common.{◌≡◌, ℕ, Bool, List, Some, None, Option, sym, refl, ap, ◌∙◌, subst, inl, inr}
use mathlib.Core.Path.{fun_ext}
use mathlib.Core.Logic.{∥∥₁_map}
use Rattle.std.specs.Option.{option_map}
use Rattle.arena.specs.declared.handle.Handle.{Handle}
use Rattle.arena.specs.Pools.{Pool, live}
use Rattle.arena.specs.Shelves.{Shelf, at, item}
use Rattle.linked_list.specs.Links.{At, View}
use Rattle.trees.specs.Climbs.{Acyclic, Within}
use Rattle.trees.proofs.Climbing.{link_acyclic, unlink_acyclic}
use Rattle.records.specs.declared.basic_block.BasicBlock.{BasicBlock}
use Rattle.records.specs.declared.handles.BlockPtr.{BlockPtr}
use Rattle.records.specs.declared.handles.OpPtr.{OpPtr}
use Rattle.records.specs.declared.handles.RegionPtr.{RegionPtr}
use Rattle.records.specs.declared.ir_node.IRNode.{IRNode}
use Rattle.records.specs.declared.ir_node.IRNode.TheVariants as node
use Rattle.records.specs.declared.operation.Operation.{Operation}
use Rattle.records.specs.declared.region.Region.{Region}
use Rattle.records.specs.Models.{Model, operation_at, region_at}
use Rattle.records.specs.Nodes.{Belongs, Has, Owned, parent, regions_of}
use Rattle.records.specs.Notes.{NotedIn, noted}
use Rattle.records.specs.Views.{block_links, but_block_links, but_op_links, endless_region, loose_op, op_links, part}
use Rattle.records.proofs.Rests.{block_edit_links, op_edit_links, same_mapped, same_view, was}
use Rattle.records.specs.Writes.{handles}
use Rattle.erasers.proofs.Ends.{stand}
use Rattle.forest.proofs.Above.{node_same}

module _ (m n : Model) (ops : (p : OpPtr) → option_map regions_of (operation_at n p) ≡ option_map regions_of (operation_at m p))
    (regions : (r : RegionPtr) → option_map stand (region_at n r) ≡ option_map stand (region_at m r)) where
  belongs_same : Owned m → (op : OpPtr) (o : Operation) (i : ℕ) (r : RegionPtr) → operation_at n op ≡ Some o → item (regions_of o) i ≡ Some r → Belongs n op i r
  belongs_same w op o i r e f =
      let old = was regions_of (operation_at m op) (operation_at n op) o (ops op) e in
      let b = w.belongs op old.it i r old.is (ap (λ (rs : List RegionPtr). item rs i) old.alike ∙ f) in
      let new = was stand (region_at n r) (region_at m r) b.is_live (sym (regions r)) b.record_is in
      record {
        is_live = new.it;
        record_is = new.is;
        operation = ap (λ (p : OpPtr × ℕ). p.0) new.alike ∙ b.operation;
        place = ap (λ (p : OpPtr × ℕ). p.1) new.alike ∙ b.place;
      }

  has_same : Owned m → (r : RegionPtr) (x : Region) → region_at n r ≡ Some x → Has n x.parent_op x.index r
  has_same w r x e =
      let old = was stand (region_at m r) (region_at n r) x (regions r) e in
      let h = w.has r old.it old.is in
      let new = was regions_of (operation_at n old.it.parent_op) (operation_at m old.it.parent_op) h.is_live (sym (ops old.it.parent_op)) h.record_is in
      let there : Has n old.it.parent_op old.it.index r
      = record { is_live = new.it; record_is = new.is; listed = ap (λ (rs : List RegionPtr). item rs old.it.index) new.alike ∙ h.listed } in
      subst (λ (p : OpPtr × ℕ). Has n p.0 p.1 r) old.alike there

  pub owned_same : ∥ Owned m ∥₁ → ∥ Owned n ∥₁
  owned_same o = ∥∥₁_map o (λ w. record { belongs = belongs_same w; has = has_same w })

-- one node has another parent
module _ (m n : Model) (x : IRNode) (other : (y : IRNode) → (y ≡ x → ⊥) → parent n y ≡ parent m y) where
  pub linked_acyclic : (t : IRNode) → parent n x ≡ Some t → (Within (parent m) x t → ⊥) → Acyclic (parent m) → Acyclic (parent n)
  linked_acyclic t to out a = link_acyclic node_same (parent m) (parent n) x other t to out a

  pub unlinked_acyclic : parent n x ≡ None → Acyclic (parent m) → Acyclic (parent n)
  unlinked_acyclic gone a = unlink_acyclic node_same (parent m) (parent n) x other gone a

-- a note
module _ (m n : Model) (op : OpPtr) (note : ℕ) (e : NotedIn m op note n) where
  -- what a part of the record that is no note reads
  noted_part : {B : Type 0} (f : Option Operation → B) → f (Some (noted note e.old)) ≡ f (Some e.old) → (k : Handle) → f (at n.operations k) ≡ f (at m.operations k)
  noted_part f same k =
      elim (handles k op.handle) [
        | inl z ↦ ap (λ (j : Handle). f (at n.operations j)) z ∙ ap f e.only.here ∙ same ∙ sym (ap f e.was) ∙ ap (λ (j : Handle). f (at m.operations j)) (sym z)
        | inr ne ↦ ap f (e.only.others k ne)
      ]

  pub noted_op_links : op_links n ≡ op_links m
  noted_op_links =
      same_view
      (ap {B = OpPtr → Bool} (λ (p : Pool) (o : OpPtr). live p o.handle) e.places)
      (ap {B = BlockPtr → Bool} (λ (a : Shelf BasicBlock) (c : BlockPtr). live a.pool c.handle) e.blocks)
      (fun_ext (λ (p : OpPtr). noted_part (part (λ (o : Operation). o.next)) refl p.handle))
      (fun_ext (λ (p : OpPtr). noted_part (part (λ (o : Operation). o.prev)) refl p.handle))
      (fun_ext (λ (p : OpPtr). noted_part (part (λ (o : Operation). o.container)) refl p.handle))
      (ap {B = BlockPtr → Option OpPtr} (λ (a : Shelf BasicBlock) (c : BlockPtr). part (λ (b : BasicBlock). b.head) (at a c.handle)) e.blocks)
      (ap {B = BlockPtr → Option OpPtr} (λ (a : Shelf BasicBlock) (c : BlockPtr). part (λ (b : BasicBlock). b.tail) (at a c.handle)) e.blocks)

  pub noted_block_links : block_links n ≡ block_links m
  noted_block_links =
      ap (λ (a : Shelf BasicBlock). block_links (record { operations = n.operations; blocks = a; regions = n.regions })) e.blocks
      ∙ ap (λ (a : Shelf Region). block_links (record { operations = n.operations; blocks = m.blocks; regions = a })) e.regions

  pub noted_owned : ∥ Owned m ∥₁ → ∥ Owned n ∥₁
  noted_owned = owned_same m n
      (λ p. noted_part (option_map regions_of) refl p.handle)
      (λ r. ap (λ (a : Shelf Region). option_map stand (at a r.handle)) e.regions)

  noted_parent : (y : IRNode) → parent n y ≡ parent m y
  noted_parent (node.Operation p) = ap (λ (v : View OpPtr BlockPtr). option_map node.BasicBlock (v.within p)) noted_op_links
  noted_parent (node.BasicBlock p) = ap (λ (v : View BlockPtr RegionPtr). option_map node.Region (v.within p)) noted_block_links
  noted_parent (node.Region p) = ap (λ (a : Shelf Region). option_map node.Operation (option_map (λ (z : Region). z.parent_op) (at a p.handle))) e.regions

  pub noted_acyclic : Acyclic (parent m) → Acyclic (parent n)
  noted_acyclic = subst Acyclic (sym (fun_ext noted_parent))

-- an edit of the links of operations in blocks
module _ (m n : Model) (rest : but_op_links n ≡ but_op_links m) where
  op_edit_regions : n.regions ≡ m.regions
  op_edit_regions = ap (λ (a : Model). a.regions) rest

  pub op_edit_owned : ∥ Owned m ∥₁ → ∥ Owned n ∥₁
  op_edit_owned = owned_same m n
      (λ p. same_mapped loose_op m.operations n.operations (ap (λ (a : Model). a.operations) rest) regions_of (λ o. refl) p.handle)
      (λ r. ap (λ (a : Shelf Region). option_map stand (at a r.handle)) op_edit_regions)

  pub op_edit_other : (op : OpPtr) (x : Option BlockPtr) → At (op_links m).within (op_links n).within op x → (y : IRNode) → (y ≡ node.Operation op → ⊥) → parent n y ≡ parent m y
  op_edit_other op x moves (node.Operation p) ne = ap (option_map node.BasicBlock) (moves.other p (λ e. ne (ap (λ (z : OpPtr). node.Operation z) e)))
  op_edit_other op x moves (node.BasicBlock p) ne = ap (λ (v : View BlockPtr RegionPtr). option_map node.Region (v.within p)) (op_edit_links m n rest)
  op_edit_other op x moves (node.Region p) ne = ap (λ (a : Shelf Region). option_map node.Operation (option_map (λ (z : Region). z.parent_op) (at a p.handle))) op_edit_regions

-- an edit of the links of blocks in regions
module _ (m n : Model) (rest : but_block_links n ≡ but_block_links m) where
  block_edit_ops : n.operations ≡ m.operations
  block_edit_ops = ap (λ (a : Model). a.operations) rest

  block_edit_regions : ◌≡◌ {A = Shelf Region} (but_block_links n).regions (but_block_links m).regions
  block_edit_regions = ap (λ (a : Model). a.regions) rest

  pub block_edit_owned : ∥ Owned m ∥₁ → ∥ Owned n ∥₁
  block_edit_owned = owned_same m n
      (λ p. ap (λ (a : Shelf Operation). option_map regions_of (at a p.handle)) block_edit_ops)
      (λ r. same_mapped endless_region m.regions n.regions block_edit_regions stand (λ x. refl) r.handle)

  pub block_edit_other : (block : BlockPtr) (x : Option RegionPtr) → At (block_links m).within (block_links n).within block x → (y : IRNode) → (y ≡ node.BasicBlock block → ⊥) → parent n y ≡ parent m y
  block_edit_other block x moves (node.Operation p) ne = ap (λ (v : View OpPtr BlockPtr). option_map node.BasicBlock (v.within p)) (block_edit_links m n rest)
  block_edit_other block x moves (node.BasicBlock p) ne = ap (option_map node.Region) (moves.other p (λ e. ne (ap (λ (z : BlockPtr). node.BasicBlock z) e)))
  block_edit_other block x moves (node.Region p) ne =
      ap (option_map node.Operation) (same_mapped endless_region m.regions n.regions block_edit_regions (λ (z : Region). z.parent_op) (λ z. refl) p.handle)
