-- The public calls that change a store or walk it: what each refuses, what it answers and what it leaves, by the very relations that
-- the contracts of the calls cite; for a walk, what the walks of all visitors have in common.
use Rattle.std.specs.Prelude.{◌≡◌, ℕ, true, false, List, [], ◌∷◌, ◌⊎◌, Some, None, Option, Result, ◌≢◌}
use Rattle.std.specs.Option.{option_map}
use Rattle.linked_list.specs.declared.spot.Spot.{Spot}
use Rattle.linked_list.specs.declared.spot.Spot.TheVariants.{AtFront, AtBack, Before, After}
use Rattle.linked_list.specs.Links.{In}
use Rattle.orders.specs.declared.walk_result.WalkResult.{WalkResult}
use Rattle.orders.specs.Logs.{Shown}
use Rattle.records.specs.declared.handles.BlockPtr.{BlockPtr}
use Rattle.records.specs.declared.handles.OpPtr.{OpPtr}
use Rattle.records.specs.declared.handles.RegionPtr.{RegionPtr}
use Rattle.records.specs.declared.ir_node.IRNode.{IRNode}
use Rattle.records.specs.declared.ir_node.IRNode.TheVariants as node
use Rattle.records.specs.declared.making.MadeOperation.{MadeOperation}
use Rattle.records.specs.Models.{operation_at}
use Rattle.records.specs.Nodes.{block_target, op_target, regions_of}
use Rattle.result.specs.declared.refusal.Refusal.{Refusal}
use Rattle.result.specs.declared.refusal.Refusal.TheVariants.{AlreadyLinked, Dangling, FixedBody, GoesThroughTable, InsertionPointNotInSameTable, InvalidInsertionPoint, MarkNotLinked, NotASymbol, NotATable, NotLinked, SymbolOpAlreadyInAnotherTable, SymbolOpNotInTableOp, SymbolRedefined, WouldContainItself}
use Rattle.result.specs.Rows.{Answered}
use Rattle.identifier.specs.Identifiers.{name_rows}
use Rattle.forest.specs.Erasings.{erase_block_rows, erase_op_rows}
use Rattle.forest.specs.Linkings.{link_block_rows, link_op_rows, unlink_block_rows, unlink_op_rows}
use Rattle.symbol_table.specs.declared.op_insertion_point.OpInsertionPoint.{OpInsertionPoint}
use Rattle.symbol_table.specs.Inserting.{insert_rows, remove_rows}
use Rattle.symbol_table.specs.Points.{point_spot}
use Rattle.symbol_table.specs.Lookups.{Nearest, nearest_rows}
use Rattle.ir.specs.declared.context.Context.{Context}
use Rattle.ir.specs.Calls.{NewBlock, NoteSet, OperationMade, make_block_rows, make_operation_rows, operation_rows}
use Rattle.ir.specs.Erasings.{BlockEnded, OpEnded}
use Rattle.ir.specs.Linkings.{BlockInserted, BlockTaken, OpInserted, OpTaken}
use Rattle.ir.specs.Stores.{nodes}
use Rattle.ir.specs.Tables.{Found, FoundNearest, SymbolErased, SymbolInserted, SymbolRemoved, lookup_rows, nearest_lookup_rows}
use Rattle.walkers.specs.declared.config.WalkConfig.{WalkConfig}
use Rattle.walkers.specs.Configs.{preorder_forward}
use Rattle.walkers.specs.Notes.{OnlyNotes}
use Rattle.walkers.specs.TableWalks.{table_rows}
use Rattle.walkers.specs.Walks.{WalkedIn, root_rows}
use Rattle.histories.specs.Ledgers.{Below, Body, Gone, Ledger, OfTable, SpotIn, blocks_in, children, is_symbol, is_table, name_in, ops_in}
use Rattle.histories.specs.Feeding.{BodyOf}
use Rattle.histories.specs.Tables.{ParentOp, StandsAs}

-- A call, with its arguments. A walk stands for those of all visitors of a type that reads, and one that notes for those of all visitors
-- of a type that sets notes.
pub data Call : Type 0 where
  make_operation : ℕ → ℕ → List ℕ → Call
  make_block : Call
  insert_op : OpPtr → Spot OpPtr BlockPtr → Call
  insert_block : BlockPtr → Spot BlockPtr RegionPtr → Call
  unlink_op : OpPtr → Call
  unlink_block : BlockPtr → Call
  erase_op : OpPtr → Call
  erase_block : BlockPtr → Call
  table_insert : OpPtr → OpPtr → Option OpInsertionPoint → Call
  table_remove : OpPtr → OpPtr → Call
  table_erase : OpPtr → OpPtr → Call
  lookup : OpPtr → List ℕ → Call
  lookup_nearest : OpPtr → List ℕ → Call
  nearest_symbol_table : OpPtr → Call
  set_note : OpPtr → ℕ → Call
  walk : IRNode → WalkConfig → Call
  walk_noting : IRNode → WalkConfig → Call
  walk_table : OpPtr → Call

-- what a call answers that is not denied; the value of a Break is left out
abbrev pub Answer : Call → Type 0
Answer (make_operation kind regions name) = MadeOperation
Answer make_block = BlockPtr
Answer (insert_op op spot) = Unit {0}
Answer (insert_block block spot) = Unit {0}
Answer (unlink_op op) = Unit {0}
Answer (unlink_block block) = Unit {0}
Answer (erase_op op) = Unit {0}
Answer (erase_block block) = Unit {0}
Answer (table_insert table op point) = Unit {0}
Answer (table_remove table op) = Unit {0}
Answer (table_erase table op) = Unit {0}
Answer (lookup table name) = Option OpPtr
Answer (lookup_nearest op name) = Option OpPtr
Answer (nearest_symbol_table op) = Option OpPtr
Answer (set_note op note) = Unit {0}
Answer (walk root k) = WalkResult (Unit {0})
Answer (walk_noting root k) = WalkResult (Unit {0})
Answer (walk_table table) = Unit {0}

-- the refusals of each call, uppermost first, as its contract has them
abbrev pub rows : Context → Call → List (Refusal × Type 0)
rows s (make_operation kind regions name) = make_operation_rows s kind regions name
rows s make_block = make_block_rows s
rows s (insert_op op spot) = link_op_rows (nodes s) op spot
rows s (insert_block block spot) = link_block_rows (nodes s) block spot
rows s (unlink_op op) = unlink_op_rows (nodes s) op
rows s (unlink_block block) = unlink_block_rows (nodes s) block
rows s (erase_op op) = erase_op_rows (nodes s) op
rows s (erase_block block) = erase_block_rows (nodes s) block
rows s (table_insert table op point) = insert_rows (nodes s) table op point
rows s (table_remove table op) = remove_rows (nodes s) table op
rows s (table_erase table op) = remove_rows (nodes s) table op
rows s (lookup table name) = lookup_rows (nodes s) table name
rows s (lookup_nearest op name) = nearest_lookup_rows (nodes s) op name
rows s (nearest_symbol_table op) = nearest_rows (nodes s) op
rows s (set_note op note) = operation_rows s op
rows s (walk root k) = root_rows s root
rows s (walk_noting root k) = root_rows s root
rows s (walk_table table) = table_rows s table

-- What a spot names is not live.
abbrev pub SpotGone : {N C : Type 0} → (N → Type 0) → (C → Type 0) → Spot N C → Type 0
SpotGone inner outer (AtFront c) = outer c
SpotGone inner outer (AtBack c) = outer c
SpotGone inner outer (Before mark) = inner mark
SpotGone inner outer (After mark) = inner mark

-- The node stands among the children of some container.
abbrev pub Standing : {N C : Type 0} → (C → List N) → N → Type 0
Standing {N} {C} L n = (c : C) × In n (L c)

-- the spot lies in some container of which P holds
abbrev pub SpotWhere : {N C : Type 0} → (C → List N) → (C → Type 0) → Spot N C → Type 0
SpotWhere {N} {C} L P spot = (c : C) × SpotIn L spot c × P c

-- The operation is a symbol and stands in the body of a table.
abbrev pub Bound : Ledger → OpPtr → Type 0
Bound l op = (is_symbol l op ≡ true) × ((c : BlockPtr) × In op (ops_in l c) × Body l c)

-- The block stands in the region of a table.
abbrev pub Fixed : Ledger → BlockPtr → Type 0
Fixed l block = (c : RegionPtr) × In block (blocks_in l c) × OfTable l c

-- The table or the operation is not live.
abbrev pub EitherGone : Ledger → OpPtr → OpPtr → Type 0
EitherGone l table op = (l.operation table ≡ None) ⊎ (l.operation op ≡ None)

-- What a spot that may be there names is not live; the spot lies in the block.
abbrev pub MaybeGone : Ledger → Option (Spot OpPtr BlockPtr) → Type 0
MaybeGone l None = ⊥
MaybeGone l (Some spot) = SpotGone (λ n. l.operation n ≡ None) (λ c. l.block c ≡ None) spot

abbrev pub MaybeIn : Ledger → Option (Spot OpPtr BlockPtr) → BlockPtr → Type 0
MaybeIn l None b = ⊥
MaybeIn l (Some spot) b = SpotIn (ops_in l) spot b

-- A point is given, and what it names is not live.
abbrev pub PointGone : Ledger → Option OpInsertionPoint → Type 0
PointGone l None = ⊥
PointGone l (Some point) = MaybeGone l (point_spot point)

-- A point is given, and it lies in no block: it was not set, or it names an operation that stands in none.
abbrev pub Nowhere : Ledger → Option OpInsertionPoint → Type 0
Nowhere l None = ⊥
Nowhere l (Some point) = ((b : BlockPtr) × MaybeIn l (point_spot point) b) → ⊥

-- A point is given, and it does not lie in the body of the table.
abbrev pub Elsewhere : Ledger → OpPtr → Option OpInsertionPoint → Type 0
Elsewhere l table None = ⊥
Elsewhere l table (Some point) = ((b : BlockPtr) × BodyOf l table b × MaybeIn l (point_spot point) b) → ⊥

-- An operation stands in the body of the table under the name of this one.
abbrev pub NameTaken : Ledger → OpPtr → OpPtr → Type 0
NameTaken l table op = (name : List ℕ) × (other : OpPtr) × (name_in l op ≡ Some (Some name)) × StandsAs l table name other

-- The refusals of taking a symbol out of a table, whether it is erased then or not.
abbrev pub taken_rows : Ledger → OpPtr → OpPtr → List (Refusal × Type 0)
taken_rows l table op =
    (Dangling, EitherGone l table op)
    ∷ (NotATable, is_table l table ≡ false)
    ∷ (NotASymbol, is_symbol l op ≡ false)
    ∷ (SymbolOpNotInTableOp, (ParentOp l op table → ⊥))
    ∷ []

-- The refusal of a walk: its root is not live.
abbrev pub gone_rows : Ledger → IRNode → List (Refusal × Type 0)
gone_rows l root = (Dangling, Gone l root) ∷ []

-- The refusals of asking a table, above others.
abbrev pub no_table_rows : Ledger → OpPtr → List (Refusal × Type 0) → List (Refusal × Type 0)
no_table_rows l table others = (Dangling, l.operation table ≡ None) ∷ (NotATable, is_table l table ≡ false) ∷ others

-- The same refusals in the ledger's words. Only which records are free, and which names are held, is what the store counts.
abbrev pub ledger_rows : Ledger → Context → Call → List (Refusal × Type 0)
ledger_rows l s (make_operation kind regions name) = make_operation_rows s kind regions name
ledger_rows l s make_block = make_block_rows s
ledger_rows l s (insert_op op spot) =
    (Dangling, (l.operation op ≡ None) ⊎ SpotGone (λ n. l.operation n ≡ None) (λ c. l.block c ≡ None) spot)
    ∷ (AlreadyLinked, Standing (ops_in l) op)
    ∷ (MarkNotLinked, ((c : BlockPtr) × SpotIn (ops_in l) spot c → ⊥))
    ∷ (WouldContainItself, Below (children l) (node.Operation op) (op_target spot))
    ∷ (GoesThroughTable, (is_symbol l op ≡ true) × SpotWhere (ops_in l) (Body l) spot)
    ∷ []
ledger_rows l s (insert_block block spot) =
    (Dangling, (l.block block ≡ None) ⊎ SpotGone (λ n. l.block n ≡ None) (λ c. l.region c ≡ None) spot)
    ∷ (AlreadyLinked, Standing (blocks_in l) block)
    ∷ (MarkNotLinked, ((c : RegionPtr) × SpotIn (blocks_in l) spot c → ⊥))
    ∷ (FixedBody, SpotWhere (blocks_in l) (OfTable l) spot)
    ∷ (WouldContainItself, Below (children l) (node.BasicBlock block) (block_target spot))
    ∷ []
ledger_rows l s (unlink_op op) =
    (Dangling, l.operation op ≡ None)
    ∷ (NotLinked, (Standing (ops_in l) op → ⊥))
    ∷ (GoesThroughTable, Bound l op)
    ∷ []
ledger_rows l s (unlink_block block) =
    (Dangling, l.block block ≡ None)
    ∷ (NotLinked, (Standing (blocks_in l) block → ⊥))
    ∷ (FixedBody, Fixed l block)
    ∷ []
ledger_rows l s (erase_op op) = (Dangling, l.operation op ≡ None) ∷ (GoesThroughTable, Bound l op) ∷ []
ledger_rows l s (erase_block block) = (Dangling, l.block block ≡ None) ∷ (FixedBody, Fixed l block) ∷ []
ledger_rows l s (table_insert table op point) =
    (Dangling, EitherGone l table op ⊎ PointGone l point)
    ∷ (NotATable, is_table l table ≡ false)
    ∷ (NotASymbol, is_symbol l op ≡ false)
    ∷ (SymbolRedefined, NameTaken l table op)
    ∷ (SymbolOpAlreadyInAnotherTable, (other : OpPtr) × ParentOp l op other × (other ≢ table))
    ∷ (InvalidInsertionPoint, Nowhere l point)
    ∷ (InsertionPointNotInSameTable, Elsewhere l table point)
    ∷ (AlreadyLinked, Standing (ops_in l) op)
    ∷ (WouldContainItself, (b : BlockPtr) × BodyOf l table b × Below (children l) (node.Operation op) (node.BasicBlock b))
    ∷ []
ledger_rows l s (table_remove table op) = taken_rows l table op
ledger_rows l s (table_erase table op) = taken_rows l table op
ledger_rows l s (lookup table name) = no_table_rows l table (name_rows name)
ledger_rows l s (lookup_nearest op name) = (Dangling, l.operation op ≡ None) ∷ name_rows name
ledger_rows l s (nearest_symbol_table op) = (Dangling, l.operation op ≡ None) ∷ []
ledger_rows l s (set_note op note) = (Dangling, l.operation op ≡ None) ∷ []
ledger_rows l s (walk root k) = gone_rows l root
ledger_rows l s (walk_noting root k) = gone_rows l root
ledger_rows l s (walk_table table) = no_table_rows l table []

-- Some visitor was shown the nodes of a walk, and answered so.
pub record SomeWalk (s : Context) (root : IRNode) (k : WalkConfig) (r : WalkResult (Unit {0})) : Type 0 where
  pub log : List (Shown IRNode (Unit {0}))
  pub walked : WalkedIn s k root log r

-- Some visitor was shown the nodes of a walk of the table's one region, each before its children and these from the first to the last.
pub record SomeTableWalk (s : Context) (table : OpPtr) : Type 0 where
  pub region : RegionPtr
  pub is_region : option_map regions_of (operation_at (nodes s) table) ≡ Some (region ∷ [])
  pub says : WalkResult (Unit {0})
  pub walk : SomeWalk s (node.Region region) preorder_forward says

-- what a call answers and leaves that is not denied, as its contract has it
abbrev pub Done : Context → (c : Call) → Answer c → Context → Type 0
Done s (make_operation kind regions name) r t = OperationMade s kind regions name r t
Done s make_block r t = NewBlock s r t
Done s (insert_op op spot) r t = OpInserted s op spot t
Done s (insert_block block spot) r t = BlockInserted s block spot t
Done s (unlink_op op) r t = OpTaken s op t
Done s (unlink_block block) r t = BlockTaken s block t
Done s (erase_op op) r t = OpEnded s op t
Done s (erase_block block) r t = BlockEnded s block t
Done s (table_insert table op point) r t = SymbolInserted s table op point t
Done s (table_remove table op) r t = SymbolRemoved s table op t
Done s (table_erase table op) r t = SymbolErased s table op t
Done s (lookup table name) r t = Found s table name r × (t ≡ s)
Done s (lookup_nearest op name) r t = FoundNearest s op name r × (t ≡ s)
Done s (nearest_symbol_table op) r t = Nearest (nodes s) op r × (t ≡ s)
Done s (set_note op note) r t = NoteSet s op note t
Done s (walk root k) r t = SomeWalk s root k r × (t ≡ s)
Done s (walk_noting root k) r t = SomeWalk s root k r × OnlyNotes s t
Done s (walk_table table) r t = SomeTableWalk s table × (t ≡ s)

-- the calls that only read: they leave the store as it is, granted or denied
abbrev pub OnlyReads : Call → Type 0
OnlyReads (make_operation kind regions name) = ⊥
OnlyReads make_block = ⊥
OnlyReads (insert_op op spot) = ⊥
OnlyReads (insert_block block spot) = ⊥
OnlyReads (unlink_op op) = ⊥
OnlyReads (unlink_block block) = ⊥
OnlyReads (erase_op op) = ⊥
OnlyReads (erase_block block) = ⊥
OnlyReads (table_insert table op point) = ⊥
OnlyReads (table_remove table op) = ⊥
OnlyReads (table_erase table op) = ⊥
OnlyReads (lookup table name) = Unit {0}
OnlyReads (lookup_nearest op name) = Unit {0}
OnlyReads (nearest_symbol_table op) = Unit {0}
OnlyReads (set_note op note) = ⊥
OnlyReads (walk root k) = Unit {0}
OnlyReads (walk_noting root k) = ⊥
OnlyReads (walk_table table) = Unit {0}

-- the call on the store s gives the answer r, and the store is then t
abbrev pub Called : Context → (c : Call) → Result (Answer c) Refusal → Context → Type 0
Called s c r t = Answered (rows s c) (Done s c) s r t
