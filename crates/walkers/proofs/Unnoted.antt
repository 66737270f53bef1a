-- Where notes alone are set, the links of all nodes stay. Assumes nothing.
use Rattle.std.proofs.Common.{◌≡◌, ℕ, ◌+◌, ◌-◌, ◌==◌, cond, length, Some, None, Option, sym, refl, ap, ◌∙◌, subst}
use mathlib.Core.Path.{fun_ext}
use Rattle.std.specs.Option.{option_map}
use Rattle.arena.specs.Pools.{Pool, live}
use Rattle.arena.specs.Shelves.{Shelf, at, item}
use Rattle.linked_list.specs.Links.{View}
use Rattle.records.specs.declared.basic_block.BasicBlock.{BasicBlock}
use Rattle.records.specs.declared.handles.BlockPtr.{BlockPtr}
use Rattle.records.specs.declared.handles.OpPtr.{OpPtr}
use Rattle.records.specs.declared.handles.RegionPtr.{RegionPtr}
use Rattle.records.specs.declared.ir_node.IRNode.{IRNode}
use Rattle.records.specs.declared.ir_node.IRNode.TheVariants as node
use Rattle.records.specs.declared.operation.Operation.{Operation}
use Rattle.records.specs.declared.region.Region.{Region}
use Rattle.records.specs.Children.{is_live}
use Rattle.records.specs.Models.{Model, operation_at}
use Rattle.records.specs.Nodes.{parent, regions_of}
use Rattle.records.specs.Views.{block_links, op_links, part}
use Rattle.ir.specs.declared.context.Context.{Context}
use Rattle.ir.specs.Stores.{nodes}
use Rattle.orders.specs.Places.{Links}
use Rattle.orders.specs.Trees.{read}
use Rattle.walkers.specs.declared.config.WalkConfig.{WalkConfig}
use Rattle.walkers.specs.Links.{after_it, before_it, first_child, last_child, links, next_sibling, nth_region, place_of, prev_sibling, raw, reading}
use Rattle.walkers.specs.Notes.{OnlyNotes, SameButNotes, unnoted}

pub kept_none : (s : Context) → OnlyNotes s s
kept_none s = record { kept = record { places = refl; operations = λ op. refl; blocks = refl; regions = refl }; held = refl; mapped = refl }

pub kept_more : (s t u : Context) → OnlyNotes s t → OnlyNotes t u → OnlyNotes s u
kept_more s t u a b = record {
  kept = record {
    places = b.kept.places ∙ a.kept.places;
    operations = λ op. b.kept.operations op ∙ a.kept.operations op;
    blocks = b.kept.blocks ∙ a.kept.blocks;
    regions = b.kept.regions ∙ a.kept.regions;
  };
  held = b.held ∙ a.held;
  mapped = b.mapped ∙ a.mapped;
}

module _ (m n : Model) (e : SameButNotes m n) where
  -- a part that no note is
  part_unnoted : {B : Type 0} (f : Operation → Option B) → ((o : Operation) → f (unnoted o) ≡ f o) → (q : Option Operation) → part f (option_map unnoted q) ≡ part f q
  part_unnoted f same None = refl
  part_unnoted f same (Some o) = same o

  part_kept : {B : Type 0} (f : Operation → Option B) → ((o : Operation) → f (unnoted o) ≡ f o) → (p : OpPtr) → part f (operation_at n p) ≡ part f (operation_at m p)
  part_kept f same p = sym (part_unnoted f same (operation_at n p)) ∙ ap (part f) (e.operations p) ∙ part_unnoted f same (operation_at m p)

  nth_kept : (i : ℕ) (p : OpPtr) → nth_region n i p ≡ nth_region m i p
  nth_kept i p = part_kept (λ o. item (regions_of o) i) (λ o. refl) p

  pub block_links_kept : block_links n ≡ block_links m
  block_links_kept =
      ap (λ (a : Shelf BasicBlock). block_links (record { operations = n.operations; blocks = a; regions = n.regions })) e.blocks
      ∙ ap (λ (a : Shelf Region). block_links (record { operations = n.operations; blocks = m.blocks; regions = a })) e.regions

  op_head : (b : BlockPtr) → (op_links n).head b ≡ (op_links m).head b
  op_head b = ap (λ (a : Shelf BasicBlock). part (λ (x : BasicBlock). x.head) (at a b.handle)) e.blocks

  op_tail : (b : BlockPtr) → (op_links n).tail b ≡ (op_links m).tail b
  op_tail b = ap (λ (a : Shelf BasicBlock). part (λ (x : BasicBlock). x.tail) (at a b.handle)) e.blocks

  pub op_links_kept : op_links n ≡ op_links m
  op_links_kept = λ i. record {
    live = λ p. ap (λ (a : Pool). live a p.handle) e.places i;
    held = λ b. ap (λ (a : Shelf BasicBlock). live a.pool b.handle) e.blocks i;
    next = λ p. part_kept (λ o. o.next) (λ o. refl) p i;
    prev = λ p. part_kept (λ o. o.prev) (λ o. refl) p i;
    within = λ p. part_kept (λ o. o.container) (λ o. refl) p i;
    head = λ b. op_head b i;
    tail = λ b. op_tail b i;
  }

  first_kept : (x : IRNode) → first_child n x ≡ first_child m x
  first_kept (node.Operation p) = ap (option_map node.Region) (nth_kept 0 p)
  first_kept (node.BasicBlock b) = ap (option_map node.Operation) (op_head b)
  first_kept (node.Region r) = ap (λ (v : View BlockPtr RegionPtr). option_map node.BasicBlock (v.head r)) block_links_kept

  last_kept : (x : IRNode) → last_child n x ≡ last_child m x
  last_kept (node.Operation p) = ap (option_map node.Region) (part_kept (λ o. item (regions_of o) (length (regions_of o) - 1)) (λ o. refl) p)
  last_kept (node.BasicBlock b) = ap (option_map node.Operation) (op_tail b)
  last_kept (node.Region r) = ap (λ (v : View BlockPtr RegionPtr). option_map node.BasicBlock (v.tail r)) block_links_kept

  -- what is read through a region's record
  by_region : {B : Type 0} (f g : Region → Option B) → ((x : Region) → f x ≡ g x) → (r : RegionPtr) → part f (at n.regions r.handle) ≡ part g (at m.regions r.handle)
  by_region {B} f g same r = ap (λ (a : Shelf Region). part f (at a r.handle)) e.regions ∙ ap (λ (h : Region → Option B). part h (at m.regions r.handle)) (fun_ext same)

  next_kept : (x : IRNode) → next_sibling n x ≡ next_sibling m x
  next_kept (node.Operation p) = ap (option_map node.Operation) (part_kept (λ o. o.next) (λ o. refl) p)
  next_kept (node.BasicBlock b) = ap (λ (v : View BlockPtr RegionPtr). option_map node.BasicBlock (v.next b)) block_links_kept
  next_kept (node.Region r) = ap (option_map node.Region) (by_region (after_it n) (after_it m) (λ x. nth_kept (x.index + 1) x.parent_op) r)

  prev_kept : (x : IRNode) → prev_sibling n x ≡ prev_sibling m x
  prev_kept (node.Operation p) = ap (option_map node.Operation) (part_kept (λ o. o.prev) (λ o. refl) p)
  prev_kept (node.BasicBlock b) = ap (λ (v : View BlockPtr RegionPtr). option_map node.BasicBlock (v.prev b)) block_links_kept
  prev_kept (node.Region r) = ap (option_map node.Region) (by_region (before_it n) (before_it m) (λ x. ap (λ o. cond (x.index == 0) None o) (nth_kept (x.index - 1) x.parent_op)) r)

  parent_kept : (x : IRNode) → parent n x ≡ parent m x
  parent_kept (node.Operation p) = ap (option_map node.BasicBlock) (part_kept (λ o. o.container) (λ o. refl) p)
  parent_kept (node.BasicBlock b) = ap (λ (v : View BlockPtr RegionPtr). option_map node.Region (v.within b)) block_links_kept
  parent_kept (node.Region r) = ap (λ (a : Shelf Region). option_map node.Operation (option_map (λ (z : Region). z.parent_op) (at a r.handle))) e.regions

  live_kept : (x : IRNode) → is_live n x ≡ is_live m x
  live_kept (node.Operation p) = ap (λ (a : Pool). live a p.handle) e.places
  live_kept (node.BasicBlock b) = ap (λ (a : Shelf BasicBlock). live a.pool b.handle) e.blocks
  live_kept (node.Region r) = ap (λ (a : Shelf Region). live a.pool r.handle) e.regions

  raw_kept : raw n ≡ raw m
  unfolding raw
  raw_kept = λ i. record {
    first = λ x. first_kept x i;
    last = λ x. last_kept x i;
    next = λ x. next_kept x i;
    prev = λ x. prev_kept x i;
    up = λ x. parent_kept x i;
    live = λ x. live_kept x i;
    place = place_of;
    limit = 1024;
  }

  -- a walk reads the same links after notes were set
  pub links_kept : (k : WalkConfig) → links n k ≡ links m k
  unfolding links
  links_kept k = ap (λ r. read r (reading k)) raw_kept

-- what holds of the links after notes were set holds of those before
pub as_before : (P : Links IRNode → Type 0) (s t : Context) (k : WalkConfig) → OnlyNotes s t → P (links (nodes t) k) → P (links (nodes s) k)
as_before P s t k e = subst P (links_kept (nodes s) (nodes t) e.kept k)

pub as_after : (P : Links IRNode → Type 0) (s t : Context) (k : WalkConfig) → OnlyNotes s t → P (links (nodes s) k) → P (links (nodes t) k)
as_after P s t k e = subst P (sym (links_kept (nodes s) (nodes t) e.kept k))
