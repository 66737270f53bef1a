-- What each call that is not denied writes into the ledger, by its arguments and its answer alone.
use Rattle.std.specs.Prelude.{◌≡◌, ℕ, cond, List, [], ◌∷◌, Some, None, Option, ◌≢◌}
use Rattle.std.specs.Option.{option_to_list}
use Rattle.linked_list.specs.declared.spot.Spot.{Spot}
use Rattle.linked_list.specs.declared.spot.Spot.TheVariants.{AtBack, Before}
use Rattle.linked_list.specs.Edits.{Puts, Takes}
use Rattle.linked_list.specs.Links.{At, In, last_or}
use Rattle.orders.specs.Order.{Less}
use Rattle.records.specs.declared.handles.BlockPtr.{BlockPtr}
use Rattle.records.specs.declared.handles.OpPtr.{OpPtr}
use Rattle.records.specs.declared.handles.RegionPtr.{RegionPtr}
use Rattle.records.specs.declared.ir_node.IRNode.{IRNode}
use Rattle.records.specs.declared.ir_node.IRNode.TheVariants as node
use Rattle.records.specs.declared.kind.Kind.{Kind}
use Rattle.records.specs.declared.making.MadeOperation.{MadeOperation}
use Rattle.records.specs.Shapes.{kind_sum}
use Rattle.symbol_table.specs.declared.op_insertion_point.OpInsertionPoint.{OpInsertionPoint}
use Rattle.symbol_table.specs.Points.{point_spot}
use Rattle.ir.specs.Calls.{given}
use Rattle.histories.specs.Ledgers.{Below, Ledger, SpotIn, children, blocks_in, is_terminator, listed, ops_in, regions_in}

-- two functions with the same value everywhere
abbrev pub Unchanged : {A B : Type 0} → (A → B) → (A → B) → Type 0
Unchanged {A} f g = (x : A) → g x ≡ f x

-- nothing is written
pub record Same (l m : Ledger) : Type 0 where
  pub operations : Unchanged l.operation m.operation
  pub blocks : Unchanged l.block m.block
  pub regions : Unchanged l.region m.region

-- the name of the bytes given; no bytes are no name
abbrev pub named : List ℕ → Option (List ℕ)
named name = cond (given name) (Some name) None

-- the handles of a list get this value, and no other changes
pub record Entering {A B : Type 0} (f g : A → Option B) (new : List A) (x : B) : Type 0 where
  pub here : (a : A) → In a new → g a ≡ Some x
  pub other : (a : A) → (In a new → ⊥) → g a ≡ f a

-- All nodes made enter: the operation, which stands in no block, with its kind, its name and its regions in order; the regions, in which
-- the body is the one block where there is one; and the body, with no operations.
pub record OperationEnters (l : Ledger) (kind : ℕ) (name : List ℕ) (made : MadeOperation) (m : Ledger) : Type 0 where
  pub is : Kind
  pub sum : kind_sum is ≡ kind
  pub operations : At l.operation m.operation made.operation (Some (record { kind = is; name = named name; regions = made.regions }))
  pub regions : Entering l.region m.region made.regions (option_to_list made.body)
  pub blocks : Entering l.block m.block (option_to_list made.body) []

-- a block enters, with no operations and in no region
pub record BlockEnters (l : Ledger) (block : BlockPtr) (m : Ledger) : Type 0 where
  pub operations : Unchanged l.operation m.operation
  pub blocks : At l.block m.block block (Some [])
  pub regions : Unchanged l.region m.region

-- the node comes to the spot among the children of the spot's container; every other list stays
pub record Put {N C : Type 0} (L M : C → Option (List N)) (n : N) (spot : Spot N C) : Type 0 where
  pub container : C
  pub into : SpotIn (λ c. listed (L c)) spot container
  pub before : List N
  pub was : L container ≡ Some before
  pub after : List N
  pub puts : Puts spot n before after
  pub change : At L M container (Some after)

-- the node goes from the children of its container; every other list stays
pub record Taken {N C : Type 0} (L M : C → Option (List N)) (n : N) : Type 0 where
  pub container : C
  pub before : List N
  pub was : L container ≡ Some before
  pub after : List N
  pub takes : Takes n before after
  pub change : At L M container (Some after)

-- an operation comes to a spot in a block
pub record OpPut (l : Ledger) (op : OpPtr) (spot : Spot OpPtr BlockPtr) (m : Ledger) : Type 0 where
  pub operations : Unchanged l.operation m.operation
  pub blocks : Put l.block m.block op spot
  pub regions : Unchanged l.region m.region

-- a block comes to a spot in a region
pub record BlockPut (l : Ledger) (block : BlockPtr) (spot : Spot BlockPtr RegionPtr) (m : Ledger) : Type 0 where
  pub operations : Unchanged l.operation m.operation
  pub blocks : Unchanged l.block m.block
  pub regions : Put l.region m.region block spot

-- an operation goes from its block
pub record OpTaken (l : Ledger) (op : OpPtr) (m : Ledger) : Type 0 where
  pub operations : Unchanged l.operation m.operation
  pub blocks : Taken l.block m.block op
  pub regions : Unchanged l.region m.region

-- a block goes from its region
pub record BlockTaken (l : Ledger) (block : BlockPtr) (m : Ledger) : Type 0 where
  pub operations : Unchanged l.operation m.operation
  pub blocks : Unchanged l.block m.block
  pub regions : Taken l.region m.region block

-- what is written of one handle goes where the handle's node is n or below it; else it stays, in a list without n
pub record Ending {A X : Type 0} (ofkind : A → IRNode) (within : X → X → Type 0) (l : Ledger) (n : IRNode) (f g : A → Option X) : Type 0 where
  pub ends : (a : A) → Below (children l) n (ofkind a) → g a ≡ None
  pub gone : (a : A) → f a ≡ None → g a ≡ None
  pub stays : (a : A) (x : X) → (Below (children l) n (ofkind a) → ⊥) → f a ≡ Some x → (y : X) × (g a ≡ Some y) × within x y

-- the list ys is xs without the node n
abbrev pub Without : {N : Type 0} → (N → IRNode) → IRNode → List N → List N → Type 0
Without inner n xs ys = Less (λ x. inner x ≢ n) xs ys

-- an erasing: the node and all that lies below it end, and the node goes from the children of its container
pub record Erased (l : Ledger) (n : IRNode) (m : Ledger) : Type 0 where
  pub operations : Ending node.Operation (λ x y. y ≡ x) l n l.operation m.operation
  pub blocks : Ending node.BasicBlock (Without node.Operation n) l n l.block m.block
  pub regions : Ending node.Region (Without node.BasicBlock n) l n l.region m.region

-- where an operation comes that is inserted into a body without a point: before the last operation if that is a terminator, else at
-- the back
abbrev pub default_after : Ledger → BlockPtr → Option OpPtr → Spot OpPtr BlockPtr
default_after l b None = AtBack b
default_after l b (Some last) = cond (is_terminator l last) (Before last) (AtBack b)

abbrev pub default_spot : Ledger → BlockPtr → Spot OpPtr BlockPtr
default_spot l b = default_after l b (last_or (ops_in l b) None)

-- the block is the one of the table's one region
pub record BodyOf (l : Ledger) (table : OpPtr) (b : BlockPtr) : Type 0 where
  pub region : RegionPtr
  pub only_region : regions_in l table ≡ region ∷ []
  pub only_block : blocks_in l region ≡ b ∷ []

-- an operation comes to the spot that a point names; one that was not set names none
abbrev pub PutAt : Ledger → OpPtr → Option (Spot OpPtr BlockPtr) → Ledger → Type 0
PutAt l op None m = ⊥
PutAt l op (Some spot) m = OpPut l op spot m

-- a table's insert: at the spot of its point or, without one, at the default
abbrev pub TableInserted : Ledger → OpPtr → OpPtr → Option OpInsertionPoint → Ledger → Type 0
TableInserted l table op None m = (b : BlockPtr) × BodyOf l table b × OpPut l op (default_spot l b) m
TableInserted l table op (Some point) m = PutAt l op (point_spot point) m

-- a table's remove takes the operation out, and a table's erase ends it
abbrev pub TableRemoved : Ledger → OpPtr → OpPtr → Ledger → Type 0
TableRemoved l table op m = OpTaken l op m

abbrev pub TableErased : Ledger → OpPtr → OpPtr → Ledger → Type 0
TableErased l table op m = Erased l (node.Operation op) m
