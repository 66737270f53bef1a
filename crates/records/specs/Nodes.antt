-- Nodes of all kinds: in which each stands, and which are tables, symbols and bodies of tables.
use Rattle.std.specs.Prelude.{◌≡◌, ℕ, Bool, false, ◌&&◌, List, Some, None, Option}
use Rattle.std.specs.Option.{option_map}
use Rattle.arena.specs.Shelves.{item}
use Rattle.linked_list.specs.declared.spot.Spot.{Spot}
use Rattle.linked_list.specs.declared.spot.Spot.TheVariants.{AtFront, AtBack, Before, After}
use Rattle.records.specs.declared.handles.BlockPtr.{BlockPtr}
use Rattle.records.specs.declared.handles.OpPtr.{OpPtr}
use Rattle.records.specs.declared.handles.RegionPtr.{RegionPtr}
use Rattle.records.specs.declared.ir_node.IRNode.{IRNode}
use Rattle.records.specs.declared.ir_node.IRNode.TheVariants as node
use Rattle.records.specs.declared.operation.Operation.{Operation}
use Rattle.records.specs.declared.region.Region.{Region}
use Rattle.records.specs.Models.{Model, operation_at, region_at}
use Rattle.records.specs.Views.{block_links, op_links}

-- the operation that a region belongs to; a dead handle has none
abbrev pub owner : Model → RegionPtr → Option OpPtr
owner m r = option_map (λ (x : Region). x.parent_op) (region_at m r)

-- the node that a node stands in: the block of an operation, the region of a block, the operation of a region
abbrev pub parent : Model → IRNode → Option IRNode
parent m (node.Operation op) = option_map node.BasicBlock ((op_links m).within op)
parent m (node.BasicBlock b) = option_map node.Region ((block_links m).within b)
parent m (node.Region r) = option_map node.Operation (owner m r)

-- what may be there is there and is so
abbrev pub is : {X : Type 0} → (X → Bool) → Option X → Bool
is f None = false
is f (Some x) = f x

-- the operation is a table; it is a symbol
abbrev pub is_table : Model → OpPtr → Bool
is_table m op = is (λ (o : Operation). o.kind.table) (operation_at m op)

abbrev pub is_symbol : Model → OpPtr → Bool
is_symbol m op = is (λ (o : Operation). o.kind.symbol) (operation_at m op)

-- the region belongs to a table
abbrev pub of_table : Model → RegionPtr → Bool
of_table m r = is (is_table m) (owner m r)

-- the block stands in the region of a table, and so is its body
abbrev pub is_body : Model → BlockPtr → Bool
is_body m b = is (of_table m) ((block_links m).within b)

-- the operation is a symbol, and the block that may be there is the body of a table
abbrev pub table_bound : Model → OpPtr → Option BlockPtr → Bool
table_bound m op b = is_symbol m op && is (is_body m) b

-- what a spot names, as a node: its container or its mark
abbrev pub op_target : Spot OpPtr BlockPtr → IRNode
op_target (AtFront b) = node.BasicBlock b
op_target (AtBack b) = node.BasicBlock b
op_target (Before mark) = node.Operation mark
op_target (After mark) = node.Operation mark

abbrev pub block_target : Spot BlockPtr RegionPtr → IRNode
block_target (AtFront r) = node.Region r
block_target (AtBack r) = node.Region r
block_target (Before mark) = node.BasicBlock mark
block_target (After mark) = node.BasicBlock mark

-- the regions of an operation, in order
abbrev pub regions_of : Operation → List RegionPtr
regions_of o = o.regions

-- the region r knows that it is the i-th region of an operation
pub record Belongs (m : Model) (op : OpPtr) (i : ℕ) (r : RegionPtr) : Type 0 where
  pub is_live : Region
  pub record_is : region_at m r ≡ Some is_live
  pub operation : is_live.parent_op ≡ op
  pub place : is_live.index ≡ i

-- the operation op has the region r as its i-th
pub record Has (m : Model) (op : OpPtr) (i : ℕ) (r : RegionPtr) : Type 0 where
  pub is_live : Operation
  pub record_is : operation_at m op ≡ Some is_live
  pub listed : item (regions_of is_live) i ≡ Some r

-- Operations and their regions know each other: so a region stands in one operation's list, and once.
pub record Owned (m : Model) : Type 0 where
  pub belongs : (op : OpPtr) (o : Operation) (i : ℕ) (r : RegionPtr) → operation_at m op ≡ Some o → item (regions_of o) i ≡ Some r → Belongs m op i r
  pub has : (r : RegionPtr) (x : Region) → region_at m r ≡ Some x → Has m x.parent_op x.index r
