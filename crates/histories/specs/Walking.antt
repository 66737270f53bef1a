-- What walks show, in the ledger's words.
use Rattle.std.specs.Prelude.{◌≡◌, ℕ, true, false, List, [], ◌∷◌, ◌++◌, None, Ok, Err, Option, Result}
use Rattle.linked_list.specs.Links.{Apart, In, first_or}
use Rattle.orders.specs.declared.walk_result.WalkResult.{WalkResult}
use Rattle.orders.specs.declared.walk_result.WalkResult.TheVariants.{Advance, Skip}
use Rattle.orders.specs.Logs.{AllAdvance, Ending, Shown, Shows, Unbroken, shown, nodes as shown_nodes}
use Rattle.orders.specs.Order.{Less, Orders}
use Rattle.records.specs.declared.handles.OpPtr.{OpPtr}
use Rattle.records.specs.declared.handles.RegionPtr.{RegionPtr}
use Rattle.records.specs.declared.ir_node.IRNode.{IRNode}
use Rattle.records.specs.declared.ir_node.IRNode.TheVariants as node
use Rattle.result.specs.declared.refusal.Refusal.{Refusal}
use Rattle.ir.specs.declared.context.Context.{Context}
use Rattle.walkers.specs.declared.config.WalkConfig.{WalkConfig}
use Rattle.walkers.specs.declared.operations_only.OperationsOnly.{OperationsOnly}
use Rattle.walkers.specs.Bare.{bare}
use Rattle.walkers.specs.Configs.{early, preorder_forward}
use Rattle.walkers.specs.Notes.{OnlyNotes}
use Rattle.walkers.specs.Operations.{only_answer, only_next}
use Rattle.walkers.specs.Walks.{Reads, Writes, always}
use Rattle.histories.specs.Ledgers.{Below, Deeper, Ledger, children, directed_children, is_table, regions_in}

-- The node x lies below a node that is shown before what is below it, and that was answered Skip.
pub record Hidden {B : Type 0} (k : WalkConfig) (l : Ledger) (log : List (Shown IRNode B)) (x : IRNode) : Type 0 where
  pub by : IRNode
  pub first : early k by ≡ true
  pub skipped : In (shown by Skip) log
  pub deeper : Deeper (children l) by x

-- The list is the configuration's order of the node root and all that lies below it, each node once.
pub record Whole (k : WalkConfig) (l : Ledger) (root : IRNode) (whole : List IRNode) : Type 0 where
  pub order : Orders (early k) (directed_children k l) (root ∷ []) whole
  pub once : Apart whole
  pub below : (x : IRNode) → In x whole → Below (children l) root x
  pub all : (x : IRNode) → Below (children l) root x → In x whole

-- A walk from root that says r: it shows the whole order less what the answers hide, up to the first answer that ends it.
pub record WalkOf {B : Type 0} (k : WalkConfig) (l : Ledger) (root : IRNode) (log : List (Shown IRNode B)) (r : WalkResult B) : Type 0 where
  pub whole : List IRNode
  pub is_whole : Whole k l root whole
  pub less : List IRNode
  pub cut : Less (λ x. Hidden k l log x → ⊥) whole less
  pub ending : Ending log less r

-- A walk from root that goes on after the log: where nothing more is skipped, the nodes xs are still to come.
pub record LeftOf {B : Type 0} (k : WalkConfig) (l : Ledger) (root : IRNode) (log : List (Shown IRNode B)) (xs : List IRNode) : Type 0 where
  pub whole : List IRNode
  pub is_whole : Whole k l root whole
  pub unbroken : Unbroken log
  pub cut : Less (λ x. Hidden k l log x → ⊥) whole (shown_nodes log ++ xs)

-- The next node of a walk from root after the log is r: the first of those that are still to come, and none after an answer that ends
-- the walk. Where it is none, the log is that of a whole walk.
pub record NextOf {B : Type 0} (k : WalkConfig) (l : Ledger) (root : IRNode) (log : List (Shown IRNode B)) (r : Option IRNode) : Type 0 where
  pub comes : Unbroken log → (xs : List IRNode) × LeftOf k l root log xs × (r ≡ first_or xs None)
  pub stops : (Unbroken log → ⊥) → r ≡ None
  pub ends : r ≡ None → (say : WalkResult B) × WalkOf k l root log say

-- a reading visitor was shown such a walk's nodes, one by one, on the store s, and was left as these leave it
pub record WasRead {V B : Type 0} (answer : V → Context → IRNode → WalkResult B) (next : V → Context → IRNode → V) (s : Context) (k : WalkConfig) (l : Ledger) (root : IRNode)
    (v : V) (r : WalkResult B) (w : V) : Type 0 where
  pub log : List (Shown IRNode B)
  pub shows : Shows (Reads answer next s) v log w
  pub walk : WalkOf k l root log r

-- a writing visitor was; it and the store's notes were left as these leave them, and all else in the store stayed
pub record WasWritten {V B : Type 0} (answer : V → Context → IRNode → WalkResult B) (next : V → Context → IRNode → V) (notes : V → Context → IRNode → OpPtr → ℕ)
    (s : Context) (k : WalkConfig) (l : Ledger) (root : IRNode) (v : V) (r : WalkResult B) (w : V) (t : Context) : Type 0 where
  pub log : List (Shown IRNode B)
  pub shows : Shows (Writes answer next notes) (v, s) log (w, t)
  pub walk : WalkOf k l root log r
  pub only : OnlyNotes s t

-- a visitor whose answers are not heeded was shown the whole order
pub record AllWasRead {V : Type 0} (B : Type 0) (next : V → Context → IRNode → V) (s : Context) (k : WalkConfig) (l : Ledger) (root : IRNode) (v w : V) : Type 0 where
  pub log : List (Shown IRNode B)
  pub shows : Shows (Reads always next s) v log w
  pub whole : Whole k l root (shown_nodes log)

pub record AllWasWritten {V : Type 0} (B : Type 0) (next : V → Context → IRNode → V) (notes : V → Context → IRNode → OpPtr → ℕ)
    (s : Context) (k : WalkConfig) (l : Ledger) (root : IRNode) (v w : V) (t : Context) : Type 0 where
  pub log : List (Shown IRNode B)
  pub shows : Shows (Writes always next notes) (v, s) log (w, t)
  pub whole : Whole k l root (shown_nodes log)
  pub only : OnlyNotes s t

-- the node is an operation that is no table
abbrev pub Plain : Ledger → IRNode → Type 0
Plain l (node.Operation op) = is_table l op ≡ false
Plain l (node.BasicBlock block) = ⊥
Plain l (node.Region region) = ⊥

-- The node is a table that lies below the region, or lies below such a table.
pub record Nested (l : Ledger) (region : RegionPtr) (x : IRNode) : Type 0 where
  pub table : OpPtr
  pub is_one : is_table l table ≡ true
  pub lies : Below (children l) (node.Region region) (node.Operation table)
  pub holds : Below (children l) (node.Operation table) x

-- A table was walked: the region is its only one, and was walked, each node before its children and these from the first to the last, for
-- the visitor that shows the one inside operations alone and answers Skip to tables. Of the nodes of that walk, the visitor inside was
-- shown those that are operations and no tables, in turn, and was left as these leave it; never a nested table or what lies below one;
-- and all others, where it always answered Advance.
pub record TableWasRead {V B : Type 0} (answer : V → Context → IRNode → WalkResult B) (next : V → Context → IRNode → V) (s : Context) (l : Ledger) (table : OpPtr)
    (v w : OperationsOnly V) : Type 0 where
  pub region : RegionPtr
  pub is_region : regions_in l table ≡ region ∷ []
  pub says : WalkResult B
  pub read : WasRead (only_answer answer) (only_next next) s preorder_forward l (node.Region region) v says w
  pub log : List (Shown IRNode B)
  pub shows : Shows (Reads answer next s) v.inner log w.inner
  pub plain : Less (Plain l) (shown_nodes read.log) (shown_nodes log)
  pub never : (x : IRNode) → In x (shown_nodes log) → Nested l region x → ⊥
  pub all : AllAdvance log → (x : IRNode) → Below (children l) (node.Region region) x → Plain l x → (Nested l region x → ⊥) → In x (shown_nodes log)

-- what a walk says, without its value
abbrev pub bared : {B : Type 0} → Result (WalkResult B) Refusal → Result (WalkResult (Unit {0})) Refusal
bared (Ok a) = Ok (bare a)
bared (Err e) = Err e

-- what a walk says that shows all
abbrev pub ended_all : Result (Unit {0}) Refusal → Result (WalkResult (Unit {0})) Refusal
ended_all (Ok x) = Ok Advance
ended_all (Err e) = Err e
