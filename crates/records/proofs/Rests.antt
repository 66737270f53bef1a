-- What an edit of one kind of link leaves: every part of the records that it does not change. Assumes nothing.
use Rattle.std.proofs.Common.{◌≡◌, ℕ, zero, suc, Bool, true, false, cond, List, [], ◌∷◌, map, Some, None, Option, sym, refl, ap, ◌∙◌, arith}
use mathlib.Core.Path.{fun_ext}
use Rattle.std.specs.Option.{option_map}
use Rattle.arena.specs.declared.handle.Handle.{Handle}
use Rattle.arena.specs.Pools.{Pool, live}
use Rattle.arena.specs.Shelves.{Shelf, at, item}
use Rattle.linked_list.specs.Links.{View}
use Rattle.records.specs.declared.basic_block.BasicBlock.{BasicBlock}
use Rattle.records.specs.declared.handles.BlockPtr.{BlockPtr}
use Rattle.records.specs.declared.handles.OpPtr.{OpPtr}
use Rattle.records.specs.declared.handles.RegionPtr.{RegionPtr}
use Rattle.records.specs.declared.operation.Operation.{Operation}
use Rattle.records.specs.declared.region.Region.{Region}
use Rattle.records.specs.Endings.{but_links}
use Rattle.records.specs.Models.{Model}
use Rattle.records.specs.Views.{all_as, block_links, but_block_links, but_op_links, endless_block, loose_block, op_links, part}

module _ {T : Type 0} where
  item_all : (f : T → T) (xs : List T) (i : ℕ) → item (map f xs) i ≡ option_map f (item xs i)
  item_all f [] i = refl
  item_all f (x ∷ xs) zero = refl
  item_all f (x ∷ xs) (suc i) = item_all f xs i

  guarded : (f : T → T) (b : Bool) (x : Option T) → cond b (option_map f x) None ≡ option_map f (cond b x None)
  guarded f true x = refl
  guarded f false x = refl

  pub at_all : (f : T → T) (a : Shelf T) (k : Handle) → at (all_as f a) k ≡ option_map f (at a k)
  at_all f a k =
      ap (λ (x : Option T). cond (live a.pool k) x None) (item_all f a.records k.place)
      ∙ guarded f (live a.pool k) (item a.records k.place)

  part_all : {B : Type 0} (f : T → T) (g : T → Option B) → ((x : T) → g (f x) ≡ g x) → (o : Option T) → part g (option_map f o) ≡ part g o
  part_all f g e None = refl
  part_all f g e (Some x) = e x

  pub mapped_all : {B : Type 0} (f : T → T) (g : T → B) → ((x : T) → g (f x) ≡ g x) → (o : Option T) → option_map g (option_map f o) ≡ option_map g o
  mapped_all f g e None = refl
  mapped_all f g e (Some x) = ap Some (e x)

  module _ (f : T → T) (a b : Shelf T) (same : all_as f b ≡ all_as f a) where
    pub same_pool : b.pool ≡ a.pool
    same_pool = ap (λ (c : Shelf T). c.pool) same

    same_at : (k : Handle) → option_map f (at b k) ≡ option_map f (at a k)
    same_at k = sym (at_all f b k) ∙ ap (λ (c : Shelf T). at c k) same ∙ at_all f a k

    -- a part that f keeps
    pub same_part : {B : Type 0} (g : T → Option B) → ((x : T) → g (f x) ≡ g x) → (k : Handle) → part g (at b k) ≡ part g (at a k)
    same_part g e k = sym (part_all f g e (at b k)) ∙ ap (part g) (same_at k) ∙ part_all f g e (at a k)

    pub same_mapped : {B : Type 0} (g : T → B) → ((x : T) → g (f x) ≡ g x) → (k : Handle) → option_map g (at b k) ≡ option_map g (at a k)
    same_mapped g e k = sym (mapped_all f g e (at b k)) ∙ ap (option_map g) (same_at k) ∙ mapped_all f g e (at a k)

  -- what a record was of which a part is known
  pub record Was {B : Type 0} (g : T → B) (o : Option T) (y : T) : Type 0 where
    pub it : T
    pub is : o ≡ Some it
    pub alike : g it ≡ g y

  pub was : {B : Type 0} (g : T → B) (o p : Option T) (y : T) → option_map g p ≡ option_map g o → p ≡ Some y → Was g o y
  was g None p y e q = let z : None ≡ Some (g y) = sym e ∙ ap (option_map g) q in let n : ◌≡◌ {A = ℕ} 0 1 = cc in absurd_one n
    where
      absurd_one : {X : Type 0} → ◌≡◌ {A = ℕ} 0 1 → X
      absurd_one n = absurd (omega arith)
  was g (Some x) p y e q = let z : Some (g x) ≡ Some (g y) = sym e ∙ ap (option_map g) q in record { it = x; is = refl; alike = cc }

-- views that differ in no part
pub same_view : {N C : Type 0} {live live' : N → Bool} {held held' : C → Bool} {next next' prev prev' : N → Option N} {within within' : N → Option C} {head head' tail tail' : C → Option N}
    → live ≡ live' → held ≡ held' → next ≡ next' → prev ≡ prev' → within ≡ within' → head ≡ head' → tail ≡ tail'
    → ◌≡◌ {A = View N C} (record { live = live; held = held; next = next; prev = prev; within = within; head = head; tail = tail })
    (record { live = live'; held = held'; next = next'; prev = prev'; within = within'; head = head'; tail = tail' })
same_view p q r s t u v = cc

-- an edit of the links of operations in blocks leaves those of blocks in regions
module _ (m n : Model) (rest : but_op_links n ≡ but_op_links m) where
  op_edit_blocks : ◌≡◌ {A = Shelf BasicBlock} (but_op_links n).blocks (but_op_links m).blocks
  op_edit_blocks = ap (λ (a : Model). a.blocks) rest

  op_edit_regions : n.regions ≡ m.regions
  op_edit_regions = ap (λ (a : Model). a.regions) rest

  pub op_edit_links : block_links n ≡ block_links m
  op_edit_links =
      same_view
      (ap {B = BlockPtr → Bool} (λ (p : Pool) (b : BlockPtr). live p b.handle) (same_pool endless_block m.blocks n.blocks op_edit_blocks))
      (ap {B = RegionPtr → Bool} (λ (a : Shelf Region) (c : RegionPtr). live a.pool c.handle) op_edit_regions)
      (fun_ext (λ (p : BlockPtr). same_part endless_block m.blocks n.blocks op_edit_blocks (λ (b : BasicBlock). b.next) (λ b. refl) p.handle))
      (fun_ext (λ (p : BlockPtr). same_part endless_block m.blocks n.blocks op_edit_blocks (λ (b : BasicBlock). b.prev) (λ b. refl) p.handle))
      (fun_ext (λ (p : BlockPtr). same_part endless_block m.blocks n.blocks op_edit_blocks (λ (b : BasicBlock). b.container) (λ b. refl) p.handle))
      (ap {B = RegionPtr → Option BlockPtr} (λ (a : Shelf Region) (c : RegionPtr). part (λ (r : Region). r.head) (at a c.handle)) op_edit_regions)
      (ap {B = RegionPtr → Option BlockPtr} (λ (a : Shelf Region) (c : RegionPtr). part (λ (r : Region). r.tail) (at a c.handle)) op_edit_regions)

  pub op_edit_core : but_links n ≡ but_links m
  op_edit_core = ap but_block_links rest

-- ends and neighbours of a block are taken out in either order
swapped : (xs : List BasicBlock) → map loose_block (map endless_block xs) ≡ map endless_block (map loose_block xs)
swapped [] = refl
swapped (x ∷ xs) = ap (λ (ys : List BasicBlock). record { head = None; tail = None; next = None; prev = None; container = None } ∷ ys) (swapped xs)

both : (m : Model) → but_links m ≡ but_op_links (but_block_links m)
both m = ap (λ (xs : List BasicBlock). let n : Model = record { operations = (but_links m).operations; blocks = record { pool = m.blocks.pool; records = xs }; regions = (but_links m).regions } in n) (swapped m.blocks.records)

-- an edit of the links of blocks in regions leaves those of operations in blocks
module _ (m n : Model) (rest : but_block_links n ≡ but_block_links m) where
  block_edit_ops : n.operations ≡ m.operations
  block_edit_ops = ap (λ (a : Model). a.operations) rest

  block_edit_blocks : ◌≡◌ {A = Shelf BasicBlock} (but_block_links n).blocks (but_block_links m).blocks
  block_edit_blocks = ap (λ (a : Model). a.blocks) rest

  pub block_edit_links : op_links n ≡ op_links m
  block_edit_links =
      same_view
      (ap {B = OpPtr → Bool} (λ (a : Shelf Operation) (o : OpPtr). live a.pool o.handle) block_edit_ops)
      (ap {B = BlockPtr → Bool} (λ (p : Pool) (c : BlockPtr). live p c.handle) (same_pool loose_block m.blocks n.blocks block_edit_blocks))
      (ap {B = OpPtr → Option OpPtr} (λ (a : Shelf Operation) (p : OpPtr). part (λ (o : Operation). o.next) (at a p.handle)) block_edit_ops)
      (ap {B = OpPtr → Option OpPtr} (λ (a : Shelf Operation) (p : OpPtr). part (λ (o : Operation). o.prev) (at a p.handle)) block_edit_ops)
      (ap {B = OpPtr → Option BlockPtr} (λ (a : Shelf Operation) (p : OpPtr). part (λ (o : Operation). o.container) (at a p.handle)) block_edit_ops)
      (fun_ext (λ (c : BlockPtr). same_part loose_block m.blocks n.blocks block_edit_blocks (λ (b : BasicBlock). b.head) (λ b. refl) c.handle))
      (fun_ext (λ (c : BlockPtr). same_part loose_block m.blocks n.blocks block_edit_blocks (λ (b : BasicBlock). b.tail) (λ b. refl) c.handle))

  pub block_edit_core : but_links n ≡ but_links m
  block_edit_core = both n ∙ ap but_op_links rest ∙ sym (both m)
