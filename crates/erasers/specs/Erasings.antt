-- What erasing a node means: it and all that lies below it end, each node after those below it, and nothing else changes.
use Rattle.std.specs.Prelude.{◌≡◌, ℕ, zero, suc, ◌+◌, true, List, [], ◌∷◌, length, Some, None, Option}
use Rattle.arena.specs.declared.handle.Handle.{Handle}
use Rattle.arena.specs.Pools.{Pool, slot_at}
use Rattle.arena.specs.Shelves.{Shelf, at, item}
use Rattle.linked_list.specs.Links.{Apart, Holds, In}
use Rattle.orders.specs.Order.{Orders}
use Rattle.orders.specs.Places.{never}
use Rattle.records.specs.declared.basic_block.BasicBlock.{BasicBlock}
use Rattle.records.specs.declared.handles.OpPtr.{OpPtr}
use Rattle.records.specs.declared.handles.RegionPtr.{RegionPtr}
use Rattle.records.specs.declared.ir_node.IRNode.{IRNode}
use Rattle.records.specs.declared.ir_node.IRNode.TheVariants as node
use Rattle.records.specs.declared.operation.Operation.{Operation}
use Rattle.records.specs.declared.region.Region.{Region}
use Rattle.records.specs.Children.{Lists, children, is_live}
use Rattle.records.specs.Endings.{but_links, without_all}
use Rattle.records.specs.Models.{Model, operation_at, region_at}
use Rattle.records.specs.Nodes.{Belongs, regions_of}
use Rattle.records.specs.Views.{block_links, op_links, part}

-- The node n is erased. The nodes ends are n and all that lies below it, forward, each after those below it; all of them were live,
-- and each comes once. They end one after another, so their places are freed in that order. All else is as it was: the tables but
-- for links are those from which these nodes ended, and the links describe the same lists.
pub record Erased (m : Model) (n : IRNode) (t : Model) : Type 0 where
  pub ends : List IRNode
  pub order : (l : Lists m) → Orders never (children m l) (n ∷ []) ends
  pub alive : (x : IRNode) → In x ends → is_live m x ≡ true
  pub once : Apart ends
  pub places : but_links t ≡ without_all ends (but_links m)
  pub lists : (l : Lists m) → Holds (op_links t) l.ops × Holds (block_links t) l.blocks

-- The operations A are being erased: they stand in no block, and may have lost regions that they name. Every other operation
-- knows its regions.
pub record Open (m : Model) (A : List OpPtr) : Type 0 where
  pub loose : (op : OpPtr) → In op A → (op_links m).within op ≡ None
  pub belongs : (op : OpPtr) (o : Operation) (i : ℕ) (r : RegionPtr) → (In op A → ⊥) → operation_at m op ≡ Some o → item (regions_of o) i ≡ Some r → Belongs m op i r

-- the node stands in no list, and a region belongs to an operation that is being erased
abbrev pub Loose : Model → List OpPtr → IRNode → Type 0
Loose m A (node.Operation op) = (op_links m).within op ≡ None
Loose m A (node.BasicBlock block) = (block_links m).within block ≡ None
Loose m A (node.Region region) = (x : Region) × (region_at m region ≡ Some x) × In x.parent_op A

-- the node is none of the operations that are being erased
abbrev pub Closed : List OpPtr → IRNode → Type 0
Closed A (node.Operation op) = In op A → ⊥
Closed A (node.BasicBlock block) = Unit {0}
Closed A (node.Region region) = Unit {0}

-- the node may be erased
abbrev pub Erasable : Model → IRNode → Type 0
Erasable m n = ∥ ((A : List OpPtr) × Open m A × Loose m A n × Closed A n) ∥₁

-- the sum of f over the numbers below n
unfoldable pub tally : (ℕ → ℕ) → ℕ → ℕ
tally f zero = 0
tally f (suc n) = f n + tally f n

-- 1 for what is there, else 0
abbrev pub weigh : {C : Type 0} → Option C → ℕ
weigh None = 0
weigh (Some c) = 1

-- the handle of a place at its version
abbrev pub handle_at : Pool → ℕ → Handle
handle_at p i = record { place = i; version = (slot_at p i).version }

-- how many records of a table have this part
abbrev pub having : {T C : Type 0} → (T → Option C) → Shelf T → ℕ
having f a = tally (λ i. weigh (part f (at a (handle_at a.pool i)))) (length a.pool.slots)

-- how many nodes stand in lists
abbrev pub in_lists : Model → ℕ
in_lists m = having (λ (o : Operation). o.container) m.operations + having (λ (b : BasicBlock). b.container) m.blocks
