-- Makings keep that every climb ends: what is new stands in new nodes alone. Assumes nothing.
use Rattle.std.proofs.Common.{◌≡◌, ℕ, ◌<◌, ◌≤◌, Bool, true, false, cond, ◌⊎◌, Some, None, Option, sym, ap, ◌∙◌, inl, inr, ⊎_elim, arith}
use mathlib.Core.Logic.{∥∥₁_map}
use Rattle.std.specs.Option.{option_map}
use Rattle.arena.specs.declared.handle.Handle.{Handle}
use Rattle.arena.specs.Pools.{live, room}
use Rattle.arena.specs.Shelves.{Shelf, at}
use Rattle.arena.proofs.Shelving.{at_dead, next_dead}
use Rattle.trees.specs.Climbs.{Acyclic, Ends, child, root}
use Rattle.records.specs.declared.basic_block.BasicBlock.{BasicBlock}
use Rattle.records.specs.declared.handles.BlockPtr.{BlockPtr}
use Rattle.records.specs.declared.handles.OpPtr.{OpPtr}
use Rattle.records.specs.declared.handles.RegionPtr.{RegionPtr}
use Rattle.records.specs.declared.ir_node.IRNode.{IRNode}
use Rattle.records.specs.declared.ir_node.IRNode.TheVariants as node
use Rattle.records.specs.declared.kind.Kind.{Kind}
use Rattle.records.specs.declared.operation.Operation.{Operation}
use Rattle.records.specs.declared.region.Region.{Region}
use Rattle.records.specs.Children.{is_live}
use Rattle.records.specs.Makings.{Roomy, body_of, new_block, new_operation, regions_made, with_block, with_operation}
use Rattle.records.specs.Models.{Untouched, Model, next_op, next_region}
use Rattle.records.specs.Nodes.{parent}
use Rattle.records.specs.Views.{part}
use Rattle.forest.proofs.Kept.{NewBody, body_more, loose_new, unused_dead}
use Rattle.forest.proofs.Listed.{More, clash, decide, more_none, more_one, more_regions}
use Rattle.forest.proofs.Tables.{Tables}

-- a dead node has no parent
pub dead_parent : (m : Model) (x : IRNode) → is_live m x ≡ false → parent m x ≡ None
dead_parent m (node.Operation p) e = ap (λ (o : Option Operation). option_map node.BasicBlock (part (λ (y : Operation). y.container) o)) (at_dead m.operations p.handle e)
dead_parent m (node.BasicBlock p) e = ap (λ (o : Option BasicBlock). option_map node.Region (part (λ (y : BasicBlock). y.container) o)) (at_dead m.blocks p.handle e)
dead_parent m (node.Region p) e = ap (λ (o : Option Region). option_map node.Operation (option_map (λ (y : Region). y.parent_op) o)) (at_dead m.regions p.handle e)

-- where nothing is live every climb ends at once
pub fresh_acyclic : (m : Model) → Untouched m → Acyclic (parent m)
fresh_acyclic m f = ∣ (λ x. root (dead_parent m x (all_dead x))) ∣₁
  where
    all_dead : (x : IRNode) → is_live m x ≡ false
    all_dead (node.Operation p) = unused_dead _ 512 p.handle f.operations
    all_dead (node.BasicBlock p) = unused_dead _ 256 p.handle f.blocks
    all_dead (node.Region p) = unused_dead _ 256 p.handle f.regions

-- what was dead is dead, or new
dead_or_new : {T : Type 0} (a b : Shelf T) (New : Handle → T → Type 0) → More a b New → (k : Handle) → live a.pool k ≡ false → (live b.pool k ≡ false) ⊎ ((y : T) × (at b k ≡ Some y) × New k y)
dead_or_new {T} a b New more k dead =
    elim (decide (live b.pool k)) [
      | inl now ↦
          ⊎_elim
          (λ (was : live a.pool k ≡ true). absurd (clash (sym was ∙ dead)))
          (λ (new : (y : T) × (at b k ≡ Some y) × New k y). inr new)
          (more.new k now)
      | inr gone ↦ inl gone
    ]

-- the region of a new block is new
abbrev pub InNew : Model → BasicBlock → Type 0
InNew m b = (b.container ≡ None) ⊎ ((r : RegionPtr) × (b.container ≡ Some r) × (live m.regions.pool r.handle ≡ false))

module _ (m n : Model) (NewOp : Handle → Operation → Type 0) (NewBlock : Handle → BasicBlock → Type 0) (NewRegion : Handle → Region → Type 0)
    (ops : More m.operations n.operations NewOp) (blocks : More m.blocks n.blocks NewBlock) (regions : More m.regions n.regions NewRegion)
    (loose : (k : Handle) (o : Operation) → NewOp k o → o.container ≡ None)
    (placed : (k : Handle) (b : BasicBlock) → NewBlock k b → InNew m b)
    (owned : (k : Handle) (r : Region) → NewRegion k r → live m.operations.pool r.parent_op.handle ≡ false) where
  new_op : (p : OpPtr) → live m.operations.pool p.handle ≡ false → Ends (parent n) (node.Operation p)
  new_op p dead =
      ⊎_elim
      (λ (gone : live n.operations.pool p.handle ≡ false). root (dead_parent n (node.Operation p) gone))
      (λ (new : (o : Operation) × (at n.operations p.handle ≡ Some o) × NewOp p.handle o).
      root (ap (option_map node.BasicBlock) (ap (part (λ (y : Operation). y.container)) new.1 ∙ loose p.handle new.0 new.2)))
      (dead_or_new m.operations n.operations NewOp ops p.handle dead)

  new_region : (p : RegionPtr) → live m.regions.pool p.handle ≡ false → Ends (parent n) (node.Region p)
  new_region p dead =
      ⊎_elim
      (λ (gone : live n.regions.pool p.handle ≡ false). root (dead_parent n (node.Region p) gone))
      (λ (new : (r : Region) × (at n.regions p.handle ≡ Some r) × NewRegion p.handle r).
      child (node.Operation new.0.parent_op) (ap (λ (o : Option Region). option_map node.Operation (option_map (λ (y : Region). y.parent_op) o)) new.1)
      (new_op new.0.parent_op (owned p.handle new.0 new.2)))
      (dead_or_new m.regions n.regions NewRegion regions p.handle dead)

  new_block_ends : (p : BlockPtr) → live m.blocks.pool p.handle ≡ false → Ends (parent n) (node.BasicBlock p)
  new_block_ends p dead =
      ⊎_elim
      (λ (gone : live n.blocks.pool p.handle ≡ false). root (dead_parent n (node.BasicBlock p) gone))
      (λ (new : (b : BasicBlock) × (at n.blocks p.handle ≡ Some b) × NewBlock p.handle b).
      let up : (x : Option RegionPtr) → new.0.container ≡ x → parent n (node.BasicBlock p) ≡ option_map node.Region x
      = λ x e. ap (option_map node.Region) (ap (part (λ (y : BasicBlock). y.container)) new.1 ∙ e) in
      ⊎_elim
      (λ (none : new.0.container ≡ None). root (up None none))
      (λ (some : (r : RegionPtr) × (new.0.container ≡ Some r) × (live m.regions.pool r.handle ≡ false)).
      child (node.Region some.0) (up (Some some.0) some.1) (new_region some.0 some.2))
      (placed p.handle new.0 new.2))
      (dead_or_new m.blocks n.blocks NewBlock blocks p.handle dead)

  new_ends : (x : IRNode) → is_live m x ≡ false → Ends (parent n) x
  new_ends (node.Operation p) dead = new_op p dead
  new_ends (node.BasicBlock p) dead = new_block_ends p dead
  new_ends (node.Region p) dead = new_region p dead

  same_parent : (x : IRNode) → is_live m x ≡ true → parent n x ≡ parent m x
  same_parent (node.Operation p) e = ap (λ (o : Option Operation). option_map node.BasicBlock (part (λ (y : Operation). y.container) o)) (ops.keeps p.handle e)
  same_parent (node.BasicBlock p) e = ap (λ (o : Option BasicBlock). option_map node.Region (part (λ (y : BasicBlock). y.container) o)) (blocks.keeps p.handle e)
  same_parent (node.Region p) e = ap (λ (o : Option Region). option_map node.Operation (option_map (λ (y : Region). y.parent_op) o)) (regions.keeps p.handle e)

  by_life : (x : IRNode) → (parent n x ≡ parent m x → Ends (parent n) x) → Ends (parent n) x
  by_life x old = elim (decide (is_live m x)) [ inl e ↦ old (same_parent x e) | inr e ↦ new_ends x e ]

  old_ends : (x : IRNode) → Ends (parent m) x → Ends (parent n) x
  old_ends x (root e) = by_life x (λ same. root (same ∙ e))
  old_ends x (child k e w) = let up = old_ends k w in by_life x (λ same. child k (same ∙ e) up)

  grown_acyclic : Acyclic (parent m) → Acyclic (parent n)
  grown_acyclic a = ∥∥₁_map a (λ e x. old_ends x (e x))

module _ (m : Model) (t : Tables m) where
  body_in_new : (b : Bool) (count : ℕ) → cond b count 1 ≡ 1 → count ≤ room m.regions.pool → (k : Handle) (y : BasicBlock) → NewBody b m k y → InNew m y
  body_in_new true count one fits k y new =
      inr (next_region m, ap (λ (z : BasicBlock). z.container) new.1, next_dead m.regions.pool t.region_places (omega arith))
  body_in_new false count one fits k y new = absurd new

  -- after the making of an operation
  pub made_acyclic : (kind : Kind) (name : Option ℕ) (count : ℕ) → cond kind.table count 1 ≡ 1 → Roomy kind count m → Acyclic (parent m) → Acyclic (parent (with_operation kind name count m))
  made_acyclic kind name count one r =
      let new = new_operation kind name (regions_made kind count m) in
      grown_acyclic m (with_operation kind name count m) _ _ _
      (more_one m.operations new t.op_places r.operations t.ops_even)
      (body_more kind.table m t r.blocks)
      (more_regions (next_op m) (body_of kind.table m) m.regions t.region_places t.regions_even count r.regions)
      (λ k o e. (loose_new m.operations kind name (regions_made kind count m) k o e).2)
      (body_in_new kind.table count one r.regions)
      (λ k y e. ap (λ (z : Region). live m.operations.pool z.parent_op.handle) e.3 ∙ next_dead m.operations.pool t.op_places r.operations)

  -- after the making of a block
  pub block_acyclic : 0 < room m.blocks.pool → Acyclic (parent m) → Acyclic (parent (with_block m))
  block_acyclic h =
      grown_acyclic m (with_block m) _ _ _
      (more_none m.operations)
      (more_one m.blocks (new_block None) t.block_places h t.blocks_even)
      (more_none m.regions)
      (λ k o e. absurd e)
      (λ k y e. inl (ap (λ (z : BasicBlock). z.container) e.1))
      (λ k y e. absurd e)
