-- Makings leave the bodies of tables, and what stands in them, as they were; a new table has its body. Assumes nothing.
use Rattle.std.proofs.Common.{◌≡◌, ℕ, ◌<◌, ◌≤◌, Bool, true, false, cond, ◌⊎◌, List, [], ◌∷◌, is_some, Some, None, Option, sym, refl, ap, ◌∙◌, subst, inl, inr, arith}
use Rattle.std.specs.Option.{option_map}
use Rattle.arena.specs.declared.handle.Handle.{Handle}
use Rattle.arena.specs.Pools.{live, next, room}
use Rattle.arena.specs.Shelves.{at}
use Rattle.arena.proofs.Shelving.{at_dead, enter_only, live_made}
use Rattle.linked_list.specs.Links.{Chain, Holds}
use Rattle.records.specs.declared.basic_block.BasicBlock.{BasicBlock}
use Rattle.records.specs.declared.handles.BlockPtr.{BlockPtr}
use Rattle.records.specs.declared.handles.OpPtr.{OpPtr}
use Rattle.records.specs.declared.handles.RegionPtr.{RegionPtr}
use Rattle.records.specs.declared.kind.Kind.{Kind}
use Rattle.records.specs.declared.operation.Operation.{Operation}
use Rattle.records.specs.declared.region.Region.{Region}
use Rattle.records.specs.Makings.{AllKept, Roomy, blocks_needed, body_of, new_block, new_operation, new_region, region_ptrs, regions_made, with_block, with_body, with_operation, with_regions}
use Rattle.records.specs.Models.{Model, next_block, next_op, next_region, operation_at, region_at}
use Rattle.records.specs.Nodes.{Owned, is, is_symbol, is_table, owner, regions_of}
use Rattle.records.specs.Views.{block_links, op_links, part}
use Rattle.records.specs.Writes.{handles, same_opptr}
use Rattle.forest.proofs.Listed.{clash, decide}
use Rattle.forest.proofs.Owning.{named_live}
use Rattle.forest.proofs.Tables.{Tables}
use Rattle.symbol_table.specs.Bodies.{Body, Bodied, Follows, Named, Stands, block_parent, name_of, parent_op}
use Rattle.symbol_table.proofs.Following.{none_some, part_none}

-- what a part is part of
pub record Within? {X Y : Type 0} (f : X → Option Y) (x : Option X) (y : Y) : Type 0 where
  pub it : X
  pub is : x ≡ Some it
  pub part : f it ≡ Some y

pub part_some : {X Y : Type 0} (f : X → Option Y) (x : Option X) (y : Y) → part f x ≡ Some y → Within? f x y
part_some f None y e = absurd (none_some e)
part_some f (Some z) y e = record { it = z; is = refl; part = e }

-- the parent operation of an operation is live
pub parent_live : (m : Model) → Owned m → (o t : OpPtr) → parent_op m o ≡ Some t → (op_links m).live t ≡ true
parent_live m own o t e =
    let a = part_some (block_parent m) ((op_links m).within o) t e in
    let b = part_some (owner m) ((block_links m).within a.it) t a.part in
    let c = mapped_some (region_at m b.it) t b.part in
    let h = own.has b.it c.0 c.1 in
    subst (λ (p : OpPtr). live m.operations.pool p.handle ≡ true) c.2 (named_live m.operations c.0.parent_op.handle h.is_live h.record_is)
  where
    mapped_some : (x : Option Region) (p : OpPtr) → option_map (λ (r : Region). r.parent_op) x ≡ Some p → (r : Region) × (x ≡ Some r) × (r.parent_op ≡ p)
    mapped_some None p e = absurd (none_some e)
    mapped_some (Some r) p e = (r, refl, cc)

-- what is read off an operation is read off a live one
pub is_live_op : (m : Model) (f : Operation → Bool) (o : OpPtr) → is f (operation_at m o) ≡ true → (op_links m).live o ≡ true
is_live_op m f o e = from (operation_at m o) refl e
  where
    from : (x : Option Operation) → operation_at m o ≡ x → is f x ≡ true → live m.operations.pool o.handle ≡ true
    from None q h = let z : ◌≡◌ {A = ℕ} 0 1 = cc in absurd (omega arith)
    from (Some y) q h = named_live m.operations o.handle y q

module _ (m n : Model) (kept : AllKept m n) where
  same_op : (o : OpPtr) → (op_links m).live o ≡ true → operation_at n o ≡ operation_at m o
  same_op o e = kept.operations.keeps o.handle e

  -- new operations have names exactly if they are symbols
  pub named_grown : ((o : OpPtr) → (op_links m).live o ≡ false → is_symbol n o ≡ is_some (name_of n o)) → Named m → Named n
  named_grown new h = record {
    symbols = λ o. elim (decide ((op_links m).live o)) [
      | inl e ↦ ap (is (λ (x : Operation). x.kind.symbol)) (same_op o e) ∙ h.symbols o ∙ sym (ap (λ (x : Option Operation). is_some (part (λ (y : Operation). y.name) x)) (same_op o e))
      | inr e ↦ new o e
    ];
  }

  module _ (t : OpPtr) (b : Body m t) (there : (op_links m).live t ≡ true) where
    region_there : region_at n b.region ≡ region_at m b.region
    region_there =
        let h = part_some (λ (r : Region). r.head) (region_at m b.region) b.block b.blocks.head in
        kept.regions.keeps b.region.handle (named_live m.regions b.region.handle h.it h.is)

    block_there : at n.blocks b.block.handle ≡ at m.blocks b.block.handle
    block_there = kept.blocks.keeps b.block.handle b.blocks.run.0.live

    block_live : live n.blocks.pool b.block.handle ≡ true
    block_live =
        let h = part_some (λ (x : BasicBlock). x.container) (at m.blocks b.block.handle) b.region b.blocks.run.0.within in
        named_live n.blocks b.block.handle h.it (block_there ∙ h.is)

    body_still : Body n t
    body_still = record {
      region = b.region;
      block = b.block;
      regions = ap (option_map regions_of) (same_op t there) ∙ b.regions;
      blocks = record {
        head = ap (part (λ (r : Region). r.head)) region_there ∙ b.blocks.head;
        tail = ap (part (λ (r : Region). r.tail)) region_there ∙ b.blocks.tail;
        run = (
          record {
            prev = ap (part (λ (x : BasicBlock). x.prev)) block_there ∙ b.blocks.run.0.prev;
            next = ap (part (λ (x : BasicBlock). x.next)) block_there ∙ b.blocks.run.0.next;
            within = ap (part (λ (x : BasicBlock). x.container)) block_there ∙ b.blocks.run.0.within;
            live = block_live;
          },
          tt,
        );
        apart = b.blocks.apart;
      };
    }

  -- new tables have their bodies
  pub bodied_grown : ((t : OpPtr) → (op_links m).live t ≡ false → is_table n t ≡ true → Body n t) → Bodied m → Bodied n
  bodied_grown new h = record {
    body = λ t i. elim (decide ((op_links m).live t)) [
      | inl e ↦ body_still t (h.body t (sym (ap (is (λ (x : Operation). x.kind.table)) (same_op t e)) ∙ i)) e
      | inr e ↦ new t e i
    ];
  }

  module _ (L : BlockPtr → List OpPtr) (K : RegionPtr → List BlockPtr) (hl : Holds (op_links m) L) (hk : Holds (block_links m) K) (own : Owned m)
      (loose : (o : OpPtr) → (op_links m).live o ≡ false → (op_links n).within o ≡ None) where
    same_owner : (x : Option RegionPtr) → ((r : RegionPtr) → x ≡ Some r → (block_links m).held r ≡ true) → part (owner n) x ≡ part (owner m) x
    same_owner None h = refl
    same_owner (Some r) h = ap (option_map (λ (y : Region). y.parent_op)) (kept.regions.keeps r.handle (h r refl))

    same_block : (x : Option BlockPtr) → ((b : BlockPtr) → x ≡ Some b → (op_links m).held b ≡ true) → part (block_parent n) x ≡ part (block_parent m) x
    same_block None h = refl
    same_block (Some b) h =
        let there = h b refl in
        ap (λ (y : Option BasicBlock). part (owner n) (part (λ (z : BasicBlock). z.container) y)) (kept.blocks.keeps b.handle there)
        ∙ same_owner ((block_links m).within b) (λ r e. (hk.listed b r there e).0)

    pub parent_still : (o : OpPtr) → (op_links m).live o ≡ true → parent_op n o ≡ parent_op m o
    parent_still o l =
        ap (λ (y : Option Operation). part (block_parent n) (part (λ (z : Operation). z.container) y)) (same_op o l)
        ∙ same_block ((op_links m).within o) (λ b e. (hl.listed o b l e).0)

    there : (t o : OpPtr) (k : ℕ) → Stands m t k o → Stands n t k o
    there t o k s =
        elim (decide ((op_links m).live o)) [
          | inl l ↦
              record {
                parent = parent_still o l ∙ s.parent;
                table = ap (is (λ (x : Operation). x.kind.table)) (same_op t (is_live_op m (λ (x : Operation). x.kind.table) t s.table)) ∙ s.table;
                name = ap (part (λ (x : Operation). x.name)) (same_op o l) ∙ s.name;
              }
          | inr d ↦ absurd (part_none (block_parent m) ((op_links m).within o) t (ap (part (λ (x : Operation). x.container)) (at_dead m.operations o.handle d)) s.parent)
        ]

    back : (t o : OpPtr) (k : ℕ) → Stands n t k o → Stands m t k o
    back t o k s =
        elim (decide ((op_links m).live o)) [
          | inl l ↦
              (let up : parent_op m o ≡ Some t = sym (parent_still o l) ∙ s.parent in
              record {
                parent = up;
                table = sym (ap (is (λ (x : Operation). x.kind.table)) (same_op t (parent_live m own o t up))) ∙ s.table;
                name = sym (ap (part (λ (x : Operation). x.name)) (same_op o l)) ∙ s.name;
              })
          | inr d ↦ absurd (part_none (block_parent n) ((op_links n).within o) t (loose o d) s.parent)
        ]

    pub follows_grown : (f : OpPtr → ℕ → Option OpPtr) → Follows m f → Follows n f
    follows_grown f h = record { found = λ t k o e. there t o k (h.found t k o e); kept = λ t k o s. h.kept t k o (back t o k s) }

-- The making of an operation.
module _ (m : Model) (t : Tables m) (kind : Kind) (name : Option ℕ) (count : ℕ) (roomy : Roomy kind count m) where
  abbrev after : Model
  after = with_operation kind name count m

  abbrev made : Operation
  made = new_operation kind name (regions_made kind count m)

  -- what was dead is dead, or the new operation
  dead_or_new : (o : OpPtr) → (op_links m).live o ≡ false → (operation_at after o ≡ None) ⊎ (operation_at after o ≡ Some made) × (o ≡ next_op m)
  dead_or_new o d =
      let only = enter_only m.operations made t.op_places roomy.operations t.ops_even in
      elim (handles o.handle (next m.operations.pool)) [
        | inl e ↦ inr (ap (λ (h : Handle). at after.operations h) e ∙ only.here, same_opptr o (next_op m) e)
        | inr ne ↦ inl (only.others o.handle ne ∙ at_dead m.operations o.handle d)
      ]

  pub new_loose : (o : OpPtr) → (op_links m).live o ≡ false → (op_links after).within o ≡ None
  new_loose o d = elim (dead_or_new o d) [ inl e ↦ ap (part (λ (x : Operation). x.container)) e | inr e ↦ ap (part (λ (x : Operation). x.container)) e.0 ]

  pub new_named : kind.symbol ≡ is_some name → (o : OpPtr) → (op_links m).live o ≡ false → is_symbol after o ≡ is_some (name_of after o)
  new_named same o d =
      elim (dead_or_new o d) [
        | inl e ↦ ap (is (λ (x : Operation). x.kind.symbol)) e ∙ sym (ap (λ (x : Option Operation). is_some (part (λ (y : Operation). y.name) x)) e)
        | inr e ↦ ap (is (λ (x : Operation). x.kind.symbol)) e.0 ∙ same ∙ sym (ap (λ (x : Option Operation). is_some (part (λ (y : Operation). y.name) x)) e.0)
      ]

  one_region : (body : Option BlockPtr) (i : ℕ) → i ≡ 1 → region_ptrs (next_op m) body i m.regions ≡ next_region m ∷ []
  unfolding region_ptrs with_regions
  one_region body i e = ap (λ (j : ℕ). region_ptrs (next_op m) body j m.regions) e

  region_is : (body : Option BlockPtr) (i : ℕ) → i ≡ 1 → 0 < room m.regions.pool → at (with_regions (next_op m) body i m.regions) (next m.regions.pool) ≡ Some (new_region (next_op m) body 0)
  unfolding with_regions
  region_is body i e h =
      ap (λ (j : ℕ). at (with_regions (next_op m) body j m.regions) (next m.regions.pool)) e
      ∙ (enter_only m.regions (new_region (next_op m) body 0) t.region_places h t.regions_even).here

  -- the body of a new table
  body_chain : (b : Bool) → b ≡ true → count ≡ 1 → cond b 1 0 ≤ room m.blocks.pool → count ≤ room m.regions.pool
      → Chain (block_links (record { operations = after.operations; blocks = with_body b m; regions = with_regions (next_op m) (body_of b m) count m.regions })) (next_region m) (next_block m ∷ [])
  body_chain false e one h k = let z : ◌≡◌ {A = ℕ} 0 1 = cc in absurd (omega arith)
  body_chain true e one h k =
      let region = region_is (Some (next_block m)) count one (omega arith) in
      let block = (enter_only m.blocks (new_block (Some (next_region m))) t.block_places h t.blocks_even).here in
      record {
        head = ap (part (λ (z : Region). z.head)) region;
        tail = ap (part (λ (z : Region). z.tail)) region;
        run = (
          record {
            prev = ap (part (λ (z : BasicBlock). z.prev)) block;
            next = ap (part (λ (z : BasicBlock). z.next)) block;
            within = ap (part (λ (z : BasicBlock). z.container)) block;
            live = live_made m.blocks.pool t.block_places h;
          },
          tt,
        );
        apart = ((λ z. z), tt);
      }

  needed : (b : Bool) → b ≡ true → blocks_needed b ≤ room m.blocks.pool → cond b 1 0 ≤ room m.blocks.pool
  needed true e h = h
  needed false e h = omega arith

  pub new_body : cond kind.table count 1 ≡ 1 → (o : OpPtr) → (op_links m).live o ≡ false → is_table after o ≡ true → Body after o
  new_body one o d i =
      elim (dead_or_new o d) [
        | inl e ↦ absurd (clash (sym i ∙ ap (is (λ (x : Operation). x.kind.table)) e))
        | inr e ↦
            (let table : kind.table ≡ true = sym (ap (is (λ (x : Operation). x.kind.table)) e.0) ∙ i in
            let single : count ≡ 1 = sym (ap (λ (b : Bool). cond b count 1) table) ∙ one in
            record {
              region = next_region m;
              block = next_block m;
              regions = ap (option_map regions_of) e.0 ∙ ap Some (one_region (body_of kind.table m) count single);
              blocks = body_chain kind.table table single (needed kind.table table roomy.blocks) roomy.regions;
            })
      ]

-- The making of a block leaves the operations.
module _ (m : Model) where
  pub block_loose : (o : OpPtr) → (op_links m).live o ≡ false → (op_links (with_block m)).within o ≡ None
  block_loose o d = ap (part (λ (x : Operation). x.container)) (at_dead m.operations o.handle d)

  pub block_named : (o : OpPtr) → (op_links m).live o ≡ false → is_symbol (with_block m) o ≡ is_some (name_of (with_block m) o)
  block_named o d =
      let e = at_dead m.operations o.handle d in
      ap (is (λ (x : Operation). x.kind.symbol)) e ∙ sym (ap (λ (x : Option Operation). is_some (part (λ (y : Operation). y.name) x)) e)

  pub block_bodied : (o : OpPtr) → (op_links m).live o ≡ false → is_table (with_block m) o ≡ true → Body (with_block m) o
  block_bodied o d i = absurd (clash (sym i ∙ ap (is (λ (x : Operation). x.kind.table)) (at_dead m.operations o.handle d)))
