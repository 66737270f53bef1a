-- The links of a store describe a tree, with the children that its lists give. Assumes nothing.
use Rattle.std.proofs.Common.{◌≡◌, ℕ, ◌-◌, ◌<◌, true, false, cond, List, [], length, map, reverse, Some, Option, sym, refl, ap, ◌∙◌, arith}
use Rattle.std.specs.Option.{option_map}
use Rattle.arena.specs.declared.handle.Handle.{Handle}
use Rattle.arena.specs.Pools.{Pool, live, slot_at}
use Rattle.arena.specs.Shelves.{item}
use Rattle.arena.proofs.Pooling.{live_parts, live_within}
use Rattle.arena.proofs.Shelving.{at_dead, same_handle}
use Rattle.linked_list.specs.Links.{Apart, In}
use Rattle.trees.specs.Climbs.{Ends}
use Rattle.orders.specs.Trees.{Family, Linked, Tree}
use Rattle.records.specs.declared.basic_block.BasicBlock.{BasicBlock}
use Rattle.records.specs.declared.handles.BlockPtr.{BlockPtr}
use Rattle.records.specs.declared.handles.OpPtr.{OpPtr}
use Rattle.records.specs.declared.handles.RegionPtr.{RegionPtr}
use Rattle.records.specs.declared.ir_node.IRNode.{IRNode}
use Rattle.records.specs.declared.ir_node.IRNode.TheVariants as node
use Rattle.records.specs.declared.operation.Operation.{Operation}
use Rattle.records.specs.declared.region.Region.{Region}
use Rattle.records.specs.Children.{Lists, children, is_live, regions_in}
use Rattle.records.specs.Models.{Model, block_of, op_of, operation_at, region_of}
use Rattle.records.specs.Nodes.{Owned, owner, parent, regions_of}
use Rattle.records.specs.Views.{block_links, op_links, part}
use Rattle.walkers.specs.Links.{first_child, last_child, next_sibling, place_of, prev_sibling, raw, region_links}
use Rattle.walkers.proofs.Containers.{Blank, above, apart, back, contained, forth}
use Rattle.walkers.proofs.Regions.{regions_hold}

op_inj : (p q : OpPtr) → node.Operation p ≡ node.Operation q → p ≡ q
op_inj p q e = cc

block_inj : (p q : BlockPtr) → node.BasicBlock p ≡ node.BasicBlock q → p ≡ q
block_inj p q e = cc

region_inj : (p q : RegionPtr) → node.Region p ≡ node.Region q → p ≡ q
region_inj p q e = cc

-- the tables have so many places
pub record Sized (m : Model) : Type 0 where
  pub ops : length m.operations.pool.slots ≡ 512
  pub blocks : length m.blocks.pool.slots ≡ 256
  pub regions : length m.regions.pool.slots ≡ 256

-- Live nodes have places of their own.

-- one live handle at each place
one_live : (p : Pool) (h k : Handle) → live p h ≡ true → live p k ≡ true → h.place ≡ k.place → h ≡ k
one_live p h k a b e = same_handle h k e (sym (live_parts p h a).1 ∙ ap (λ (i : ℕ). (slot_at p i).version) e ∙ (live_parts p k b).1)

module _ (m : Model) (sized : Sized m) where
  op_place : (p : OpPtr) → live m.operations.pool p.handle ≡ true → p.handle.place < 512
  op_place p h = let a = live_within m.operations.pool p.handle h in let s = sized.ops in omega arith

  block_place : (p : BlockPtr) → live m.blocks.pool p.handle ≡ true → p.handle.place < 256
  block_place p h = let a = live_within m.blocks.pool p.handle h in let s = sized.blocks in omega arith

  region_place : (p : RegionPtr) → live m.regions.pool p.handle ≡ true → p.handle.place < 256
  region_place p h = let a = live_within m.regions.pool p.handle h in let s = sized.regions in omega arith

  placed : (n : IRNode) → is_live m n ≡ true → place_of n < 1024
  placed (node.Operation p) h = let a = op_place p h in omega arith
  placed (node.BasicBlock p) h = let a = block_place p h in omega arith
  placed (node.Region p) h = let a = region_place p h in omega arith

  sole : (n k : IRNode) → is_live m n ≡ true → is_live m k ≡ true → place_of n ≡ place_of k → n ≡ k
  sole (node.Operation p) (node.Operation q) h g e = ap node.Operation (ap op_of (one_live m.operations.pool p.handle q.handle h g e))
  sole (node.Operation p) (node.BasicBlock q) h g e = absurd (let a = op_place p h in omega arith)
  sole (node.Operation p) (node.Region q) h g e = absurd (let a = op_place p h in omega arith)
  sole (node.BasicBlock p) (node.Operation q) h g e = absurd (let a = op_place q g in omega arith)
  sole (node.BasicBlock p) (node.BasicBlock q) h g e = ap node.BasicBlock (ap block_of (one_live m.blocks.pool p.handle q.handle h g (omega arith)))
  sole (node.BasicBlock p) (node.Region q) h g e = absurd (let a = block_place p h in omega arith)
  sole (node.Region p) (node.Operation q) h g e = absurd (let a = op_place q g in omega arith)
  sole (node.Region p) (node.BasicBlock q) h g e = absurd (let a = block_place q g in omega arith)
  sole (node.Region p) (node.Region q) h g e = ap node.Region (ap region_of (one_live m.regions.pool p.handle q.handle h g (omega arith)))

-- Dead handles have no links.

module _ (m : Model) where
  op_blank : Blank (op_links m)
  op_blank = record {
    within = λ p d. ap (part (λ (o : Operation). o.container)) (at_dead m.operations p.handle d);
    head = λ c d. ap (part (λ (b : BasicBlock). b.head)) (at_dead m.blocks c.handle d);
    tail = λ c d. ap (part (λ (b : BasicBlock). b.tail)) (at_dead m.blocks c.handle d);
  }

  block_blank : Blank (block_links m)
  block_blank = record {
    within = λ p d. ap (part (λ (b : BasicBlock). b.container)) (at_dead m.blocks p.handle d);
    head = λ c d. ap (part (λ (r : Region). r.head)) (at_dead m.regions c.handle d);
    tail = λ c d. ap (part (λ (r : Region). r.tail)) (at_dead m.regions c.handle d);
  }

  region_blank : Blank (region_links m)
  region_blank = record {
    within = λ p d. ap (option_map (λ (r : Region). r.parent_op)) (at_dead m.regions p.handle d);
    head = λ c d. ap (part (λ (o : Operation). item (regions_of o) 0)) (at_dead m.operations c.handle d);
    tail = λ c d. ap (part (λ (o : Operation). item (regions_of o) (length (regions_of o) - 1))) (at_dead m.operations c.handle d);
  }

module _ (m : Model) (sized : Sized m) (owned : Owned m) (l : Lists m) where
  abbrev kids : IRNode → List IRNode
  kids = children m l

  -- the children of each kind of node
  abbrev of_op : OpPtr → List IRNode
  of_op p = kids (node.Operation p)

  abbrev of_block : BlockPtr → List IRNode
  of_block b = kids (node.BasicBlock b)

  abbrev of_region : RegionPtr → List IRNode
  of_region r = kids (node.Region r)

  no_regions : (p : OpPtr) → live m.operations.pool p.handle ≡ false → of_op p ≡ []
  no_regions p d = ap (λ (o : Option Operation). map node.Region (regions_in o)) (at_dead m.operations p.handle d)

  block_on : (b : BlockPtr) → live m.blocks.pool b.handle ≡ true → of_block b ≡ map node.Operation (l.ops b)
  block_on b h = ap (λ x. cond x (map node.Operation (l.ops b)) []) h

  block_off : (b : BlockPtr) → live m.blocks.pool b.handle ≡ false → of_block b ≡ []
  block_off b h = ap (λ x. cond x (map node.Operation (l.ops b)) []) h

  region_on : (r : RegionPtr) → live m.regions.pool r.handle ≡ true → of_region r ≡ map node.BasicBlock (l.blocks r)
  region_on r h = ap (λ x. cond x (map node.BasicBlock (l.blocks r)) []) h

  region_off : (r : RegionPtr) → live m.regions.pool r.handle ≡ false → of_region r ≡ []
  region_off r h = ap (λ x. cond x (map node.BasicBlock (l.blocks r)) []) h

  all_forth : (n : IRNode) → Linked (next_sibling m) (first_child m n) (kids n)
  all_forth (node.Operation p) = forth (region_links m) (λ op. regions_in (operation_at m op)) (regions_hold m owned) (region_blank m) node.Region of_op (λ c h. refl) no_regions (next_sibling m) (prev_sibling m) (λ x. refl) (λ x. refl) p
  all_forth (node.BasicBlock b) = forth (op_links m) l.ops l.ops_hold (op_blank m) node.Operation of_block block_on block_off (next_sibling m) (prev_sibling m) (λ x. refl) (λ x. refl) b
  all_forth (node.Region r) = forth (block_links m) l.blocks l.blocks_hold (block_blank m) node.BasicBlock of_region region_on region_off (next_sibling m) (prev_sibling m) (λ x. refl) (λ x. refl) r

  all_back : (n : IRNode) → Linked (prev_sibling m) (last_child m n) (reverse (kids n))
  all_back (node.Operation p) = back (region_links m) (λ op. regions_in (operation_at m op)) (regions_hold m owned) (region_blank m) node.Region of_op (λ c h. refl) no_regions (next_sibling m) (prev_sibling m) (λ x. refl) (λ x. refl) p
  all_back (node.BasicBlock b) = back (op_links m) l.ops l.ops_hold (op_blank m) node.Operation of_block block_on block_off (next_sibling m) (prev_sibling m) (λ x. refl) (λ x. refl) b
  all_back (node.Region r) = back (block_links m) l.blocks l.blocks_hold (block_blank m) node.BasicBlock of_region region_on region_off (next_sibling m) (prev_sibling m) (λ x. refl) (λ x. refl) r

  all_apart : (n : IRNode) → Apart (kids n)
  all_apart (node.Operation p) = apart (region_links m) (λ op. regions_in (operation_at m op)) (regions_hold m owned) (region_blank m) node.Region of_op (λ c h. refl) no_regions region_inj p
  all_apart (node.BasicBlock b) = apart (op_links m) l.ops l.ops_hold (op_blank m) node.Operation of_block block_on block_off op_inj b
  all_apart (node.Region r) = apart (block_links m) l.blocks l.blocks_hold (block_blank m) node.BasicBlock of_region region_on region_off block_inj r

  all_parent : (n x : IRNode) → In x (kids n) → parent m x ≡ Some n
  all_parent (node.Operation p) x i =
      let w = contained (region_links m) (λ op. regions_in (operation_at m op)) (regions_hold m owned) (region_blank m) node.Region of_op (λ c h. refl) no_regions p x i in
      ap (parent m) w.1 ∙ ap (option_map node.Operation) w.2
  all_parent (node.BasicBlock b) x i =
      let w = contained (op_links m) l.ops l.ops_hold (op_blank m) node.Operation of_block block_on block_off b x i in ap (parent m) w.1 ∙ ap (option_map node.BasicBlock) w.2
  all_parent (node.Region r) x i =
      let w = contained (block_links m) l.blocks l.blocks_hold (block_blank m) node.BasicBlock of_region region_on region_off r x i in ap (parent m) w.1 ∙ ap (option_map node.Region) w.2

  all_above : (n x : IRNode) → parent m x ≡ Some n → (is_live m x ≡ true) × (is_live m n ≡ true) × In x (kids n)
  all_above n (node.Operation p) e = above (op_links m) l.ops l.ops_hold (op_blank m) node.Operation of_block block_on block_off node.BasicBlock kids (is_live m) (λ c. refl) (λ c. refl) p n ((op_links m).within p) refl e
  all_above n (node.BasicBlock b) e = above (block_links m) l.blocks l.blocks_hold (block_blank m) node.BasicBlock of_region region_on region_off node.Region kids (is_live m) (λ c. refl) (λ c. refl) b n ((block_links m).within b) refl e
  all_above n (node.Region r) e = above (region_links m) (λ op. regions_in (operation_at m op)) (regions_hold m owned) (region_blank m) node.Region of_op (λ c h. refl) no_regions node.Operation kids (is_live m) (λ c. refl) (λ c. refl) r n (owner m r) refl e

  pub family : Family (raw m) kids
  unfolding raw
  family = record {
    forth = all_forth;
    back = all_back;
    apart = all_apart;
    parent = all_parent;
    listed = λ p c e. (all_above p c e).2;
    alive = λ p c e. ((all_above p c e).0, (all_above p c e).1);
    placed = placed m sized;
    sole = sole m sized;
  }

  pub tree : ((n : IRNode) → Ends (parent m) n) → Tree (raw m)
  unfolding raw
  tree e = record { children = kids; family = family; ends = e }
