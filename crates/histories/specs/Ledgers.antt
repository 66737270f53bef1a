-- The ledger that an onlooker keeps of a store, from the arguments of the calls and their answers alone: the live nodes, each with
-- its children in order, and of an operation its kind and its name too.
use Rattle.std.specs.Prelude.{◌≡◌, ℕ, Bool, true, List, [], map, Some, None, Option}
use Rattle.std.specs.Option.{option_map}
use Rattle.linked_list.specs.declared.spot.Spot.{Spot}
use Rattle.linked_list.specs.declared.spot.Spot.TheVariants.{AtFront, AtBack, Before, After}
use Rattle.linked_list.specs.Links.{In}
use Rattle.records.specs.declared.handles.BlockPtr.{BlockPtr}
use Rattle.records.specs.declared.handles.OpPtr.{OpPtr}
use Rattle.records.specs.declared.handles.RegionPtr.{RegionPtr}
use Rattle.records.specs.declared.ir_node.IRNode.{IRNode}
use Rattle.records.specs.declared.ir_node.IRNode.TheVariants as node
use Rattle.records.specs.declared.kind.Kind.{Kind}
use Rattle.records.specs.Nodes.{is}
use Rattle.walkers.specs.declared.config.WalkConfig.{WalkConfig}
use Rattle.walkers.specs.Children.{directed}
use Rattle.walkers.specs.Configs.{as_parent}

-- What is written down of an operation: its kind, its name if it has one, and its regions in order.
pub record OpEntry : Type 0 where
  pub kind : Kind
  pub name : Option (List ℕ)
  pub regions : List RegionPtr

-- What is written down of each handle; none where it names no live node. Of a block its operations in order, of a region its blocks.
pub record Ledger : Type 0 where
  pub operation : OpPtr → Option OpEntry
  pub block : BlockPtr → Option (List OpPtr)
  pub region : RegionPtr → Option (List BlockPtr)

-- nothing is written down
abbrev pub blank : Ledger
blank = record { operation = λ op. None; block = λ b. None; region = λ r. None }

-- the list that is written down, and the empty one where none is
abbrev pub listed : {X : Type 0} → Option (List X) → List X
listed None = []
listed (Some xs) = xs

-- the regions that are written down of an operation
abbrev pub listed_regions : Option OpEntry → List RegionPtr
listed_regions None = []
listed_regions (Some e) = e.regions

-- the regions of an operation, the operations of a block and the blocks of a region
abbrev pub regions_in : Ledger → OpPtr → List RegionPtr
regions_in l op = listed_regions (l.operation op)

abbrev pub ops_in : Ledger → BlockPtr → List OpPtr
ops_in l b = listed (l.block b)

abbrev pub blocks_in : Ledger → RegionPtr → List BlockPtr
blocks_in l r = listed (l.region r)

-- the children of a node, in order
abbrev pub children : Ledger → IRNode → List IRNode
children l (node.Operation op) = map node.Region (regions_in l op)
children l (node.BasicBlock b) = map node.Operation (ops_in l b)
children l (node.Region r) = map node.BasicBlock (blocks_in l r)

-- the children of a node in the direction that a configuration gives them
abbrev pub directed_children : WalkConfig → Ledger → IRNode → List IRNode
directed_children k l n = directed (as_parent k n).1 (children l n)

-- nothing is written down of the node: it is not live
abbrev pub Gone : Ledger → IRNode → Type 0
Gone l (node.Operation op) = l.operation op ≡ None
Gone l (node.BasicBlock b) = l.block b ≡ None
Gone l (node.Region r) = l.region r ≡ None

-- the kind of an operation, and its name if it has one; none where it is not live
abbrev pub kind_in : Ledger → OpPtr → Option Kind
kind_in l op = option_map (λ (e : OpEntry). e.kind) (l.operation op)

abbrev pub name_in : Ledger → OpPtr → Option (Option (List ℕ))
name_in l op = option_map (λ (e : OpEntry). e.name) (l.operation op)

-- the operation is live and a table, a symbol, a terminator
abbrev pub is_table : Ledger → OpPtr → Bool
is_table l op = is (λ (e : OpEntry). e.kind.table) (l.operation op)

abbrev pub is_symbol : Ledger → OpPtr → Bool
is_symbol l op = is (λ (e : OpEntry). e.kind.symbol) (l.operation op)

abbrev pub is_terminator : Ledger → OpPtr → Bool
is_terminator l op = is (λ (e : OpEntry). e.kind.terminator) (l.operation op)

-- the node m is n, or a child of a node that is n or lies below it
pub data Below (children : IRNode → List IRNode) (n : IRNode) : IRNode → Type 0 where
  itself : Below children n n
  child : {c m : IRNode} → Below children n c → In m (children c) → Below children n m

-- the node m lies below n, as a child of n or deeper
abbrev pub Deeper : (IRNode → List IRNode) → IRNode → IRNode → Type 0
Deeper children n m = (c : IRNode) × Below children n c × In m (children c)

-- the region belongs to a table
abbrev pub OfTable : Ledger → RegionPtr → Type 0
OfTable l r = (op : OpPtr) × In r (regions_in l op) × (is_table l op ≡ true)

-- the block stands in the region of a table, and so is its body
abbrev pub Body : Ledger → BlockPtr → Type 0
Body l b = (r : RegionPtr) × In b (blocks_in l r) × OfTable l r

-- the container that a spot lies in: the one that it names, or the one among whose children its mark is
abbrev pub SpotIn : {N C : Type 0} → (C → List N) → Spot N C → C → Type 0
SpotIn L (AtFront c) d = d ≡ c
SpotIn L (AtBack c) d = d ≡ c
SpotIn L (Before mark) d = In mark (L d)
SpotIn L (After mark) d = In mark (L d)
