-- What holds after every history of a fresh store.
use Rattle.std.specs.Prelude.{◌≡◌, ℕ, true, List, length, reverse, is_some, Some, None, Ok, Err, Option, Result}
use Rattle.std.specs.Option.{option_to_list}
use Rattle.linked_list.specs.Links.{Apart, In}
use Rattle.orders.specs.declared.walk_result.WalkResult.{WalkResult}
use Rattle.orders.specs.declared.walk_result.WalkResult.TheVariants.{Advance}
use Rattle.orders.specs.Logs.{AllAdvance, Shown, nodes as shown_nodes}
use Rattle.records.specs.declared.handles.BlockPtr.{BlockPtr}
use Rattle.records.specs.declared.handles.OpPtr.{OpPtr}
use Rattle.records.specs.declared.handles.RegionPtr.{RegionPtr}
use Rattle.records.specs.declared.ir_node.IRNode.{IRNode}
use Rattle.records.specs.declared.kind.Kind.{Kind}
use Rattle.records.specs.declared.making.MadeOperation.{MadeOperation}
use Rattle.records.specs.Shapes.{kind_sum}
use Rattle.result.specs.declared.refusal.Refusal.{Refusal}
use Rattle.ir.specs.declared.context.Context.{Context}
use Rattle.ir.specs.Stores.{Built}
use Rattle.ir.specs.Tables.{LookupCall, NearestLookupCall, NearestTableCall}
use Rattle.walkers.specs.declared.config.WalkConfig.{WalkConfig}
use Rattle.walkers.specs.Configs.{mirror}
use Rattle.walkers.specs.declared.advancing.Uninterruptible.{Uninterruptible}
use Rattle.walkers.specs.declared.operations_only.OperationsOnly.{OperationsOnly}
use Rattle.walkers.specs.declared.walk.Walk.{Walk}
use Rattle.walkers.specs.HeldWalks.{Gave, HeldCall, Steps, with_answer}
use Rattle.walkers.specs.TableWalks.{TableWalkCall}
use Rattle.walkers.specs.Walks.{WalkAllCall, WalkAllMutCall, WalkCall, WalkMutCall, beneath, inside}
use Rattle.histories.specs.Calls.{Answer, Call, Called, OnlyReads, gone_rows, ledger_rows, make_operation, make_block, walk_table}
use Rattle.histories.specs.Feeding.{BodyOf}
use Rattle.histories.specs.Histories.{Fed, History}
use Rattle.histories.specs.Judging.{Judged}
use Rattle.histories.specs.Ledgers.{Ledger, is_table}
use Rattle.histories.specs.Represents.{Represents}
use Rattle.histories.specs.Stepping.{EditSteps, LookSteps, ReadSteps, WriteSteps}
use Rattle.histories.specs.Tables.{Alone, Follows, FollowsNearest, IsNearest}
use Rattle.histories.specs.Telling.{Tells}
use Rattle.histories.specs.Walking.{AllWasRead, AllWasWritten, NextOf, TableWasRead, WalkOf, WasRead, WasWritten, Whole}

-- All nodes made are new to the ledger; as many regions are made as were asked for, all of them different, and a body exactly where the
-- kind is that of a table.
pub record New (l : Ledger) (kind regions : ℕ) (made : MadeOperation) : Type 0 where
  pub operation : l.operation made.operation ≡ None
  pub region : (r : RegionPtr) → In r made.regions → l.region r ≡ None
  pub body : (b : BlockPtr) → In b (option_to_list made.body) → l.block b ≡ None
  pub count : length made.regions ≡ regions
  pub apart : Apart made.regions
  pub bodied : (is : Kind) → kind_sum is ≡ kind → is_some made.body ≡ is.table

-- The table's one region has one block, its body, which is live.
pub record HasBody (l : Ledger) (table : OpPtr) : Type 0 where
  pub body : BlockPtr
  pub is_body : BodyOf l table body
  pub ops : List OpPtr
  pub lives : l.block body ≡ Some ops

-- Names follow bodies. A name that is looked up in a table gives an operation exactly when that stands in the table's body under the name,
-- through the nearest table too; no body holds two of one name; and every table has its body.
pub record NamesRight (t : Context) (l : Ledger) : Type 0 where
  pub found : (table : OpPtr) (name : List ℕ) (r : Option OpPtr) → LookupCall t table name (Ok r) → Follows l table name r
  pub nearest : (op : OpPtr) (r : Option OpPtr) → NearestTableCall t op (Ok r) → IsNearest l op r
  pub found_nearest : (op : OpPtr) (name : List ℕ) (r : Option OpPtr) → NearestLookupCall t op name (Ok r) → FollowsNearest l op name r
  pub alone : Alone l
  pub bodies : (table : OpPtr) → is_table l table ≡ true → HasBody l table

-- a walk to which all answers are to advance shows the whole order, each node once, and says Advance
abbrev pub ShowsAll : Type 0 → Ledger → Type 0
ShowsAll B l = (k : WalkConfig) (root : IRNode) (log : List (Shown IRNode B)) (a : WalkResult B) → WalkOf k l root log a → AllAdvance log → Whole k l root (shown_nodes log) × (a ≡ Advance)

-- The walks of a visitor that reads: one is denied exactly where its root is not live, and that of a table also where it is none; else it
-- shows the ledger's nodes in order, less what the answers hide, up to the first that ends it.
pub record ReadsRight {R D : Type 0} (answer : R → Context → IRNode → WalkResult D) (next : R → Context → IRNode → R) (t : Context) (l : Ledger) : Type 0 where
  pub steps : ReadSteps answer next
  pub judged : (k : WalkConfig) (root : IRNode) (v w : R) (r : Result (WalkResult D) Refusal) → WalkCall answer next t k root v r w → Judged (gone_rows l root) r
  pub shown : (k : WalkConfig) (root : IRNode) (v w : R) (a : WalkResult D) → WalkCall answer next t k root v (Ok a) w → WasRead answer next t k l root v a w
  pub all_judged : (k : WalkConfig) (root : IRNode) (v w : Uninterruptible R) (r : Result (Unit {0}) Refusal) → WalkAllCall D (inside next) t k root v r w → Judged (gone_rows l root) r
  pub all_shown : (k : WalkConfig) (root : IRNode) (v w : Uninterruptible R) (x : Unit {0}) → WalkAllCall D (inside next) t k root v (Ok x) w → AllWasRead D (inside next) t k l root v w
  pub table_judged : (table : OpPtr) (v w : OperationsOnly R) (r : Result (Unit {0}) Refusal) → TableWalkCall answer next t table v r w → Judged (ledger_rows l t (walk_table table)) r
  pub table_shown : (table : OpPtr) (v w : OperationsOnly R) (x : Unit {0}) → TableWalkCall answer next t table v (Ok x) w → TableWasRead answer next t l table v w
  pub unbroken : ShowsAll D l

-- A walk that is held: starting one is denied exactly where its root is not live; and whoever started one and stepped it, the next step
-- gives the node that comes next, whatever was answered, and of whatever types the answers were.
pub record HeldRight (t : Context) (l : Ledger) : Type 0 where
  pub judged : (k : WalkConfig) (root : IRNode) (r : Result Walk Refusal) → HeldCall t k root r → Judged (gone_rows l root) r
  pub next : (k : WalkConfig) (root : IRNode) (w u : Walk) (log : List (Shown IRNode (Unit {0}))) (last r : Option IRNode) (a : WalkResult (Unit {0}))
      → Gave t k root w log last → Steps w a r u → NextOf k l root (with_answer last log a) r

-- The same of a visitor that writes.
pub record WritesRight {V B : Type 0} (answer : V → Context → IRNode → WalkResult B) (next : V → Context → IRNode → V) (notes : V → Context → IRNode → OpPtr → ℕ) (t : Context) (l : Ledger) : Type 0 where
  pub steps : WriteSteps answer next notes
  pub judged : (k : WalkConfig) (root : IRNode) (v w : V) (u : Context) (r : Result (WalkResult B) Refusal) → WalkMutCall answer next notes t k root v r w u → Judged (gone_rows l root) r
  pub shown : (k : WalkConfig) (root : IRNode) (v w : V) (u : Context) (a : WalkResult B) → WalkMutCall answer next notes t k root v (Ok a) w u → WasWritten answer next notes t k l root v a w u
  pub all_judged : (k : WalkConfig) (root : IRNode) (v w : Uninterruptible V) (u : Context) (r : Result (Unit {0}) Refusal) → WalkAllMutCall B (inside next) (beneath notes) t k root v r w u
      → Judged (gone_rows l root) r
  pub all_shown : (k : WalkConfig) (root : IRNode) (v w : Uninterruptible V) (u : Context) (x : Unit {0}) → WalkAllMutCall B (inside next) (beneath notes) t k root v (Ok x) w u
      → AllWasWritten B (inside next) (beneath notes) t k l root v w u
  pub unbroken : ShowsAll B l

-- What is right of the store t whose ledger is l, for visitors of any type R that read and of any type V that write.
pub record Right {R D V B : Type 0} (says : R → Context → IRNode → WalkResult D) (moves : R → Context → IRNode → R)
    (answer : V → Context → IRNode → WalkResult B) (next : V → Context → IRNode → V) (notes : V → Context → IRNode → OpPtr → ℕ) (t : Context) (l : Ledger) : Type 0 where
  -- the store is as the ledger says
  pub represents : Represents t l
  -- what each contract promises is a step of histories
  pub steps : EditSteps
  pub look_steps : LookSteps
  -- every call is denied by the uppermost row that fits the ledger, and only by that; RecordsFull and NamesFull are said of the store,
  -- which counts records and names
  pub judged : (c : Call) (r : Result (Answer c) Refusal) (u : Context) → Called t c r u → Judged (ledger_rows l t c) r
  -- what is made is new to the ledger
  pub new : (kind regions : ℕ) (name : List ℕ) (made : MadeOperation) (u : Context) → Called t (make_operation kind regions name) (Ok made) u → New l kind regions made
  pub new_block : (block : BlockPtr) (u : Context) → Called t make_block (Ok block) u → l.block block ≡ None
  -- a call that is denied, and one that only reads, leave the store and the ledger as they were
  pub denied_keeps : (c : Call) (e : Refusal) (u : Context) (m : Ledger) → Called t c (Err e) u → Fed l c (Err e) m → (u ≡ t) × (m ≡ l)
  pub read_keeps : (c : Call) → OnlyReads c → (r : Result (Answer c) Refusal) (u : Context) (m : Ledger) → Called t c r u → Fed l c r m → (u ≡ t) × (m ≡ l)
  -- the store is as no other ledger says
  pub one_ledger : (m : Ledger) → Represents t m → m ≡ l
  -- the ledger can take down every call, in one way
  pub goes_on : (c : Call) (r : Result (Answer c) Refusal) (u : Context) → Called t c r u → (m : Ledger) × Fed l c r m
  pub one_way : (c : Call) (r : Result (Answer c) Refusal) (u : Context) (m n : Ledger) → Called t c r u → Fed l c r m → Fed l c r n → n ≡ m
  -- kinds, names and children are read as they are written
  pub tells : Tells t l
  -- names are found as they stand in bodies
  pub names : NamesRight t l
  -- walks are right against the ledger's children
  pub reads : ReadsRight says moves t l
  pub writes : WritesRight answer next notes t l
  pub held : HeldRight t l
  -- every configuration has a whole order from every node
  pub ordered : (k : WalkConfig) (root : IRNode) → (xs : List IRNode) × Whole k l root xs
  -- the mirrored configuration gives every whole order from its end
  pub mirrored : (k : WalkConfig) (root : IRNode) (xs ys : List IRNode) → Whole k l root xs → Whole (mirror k) l root ys → ys ≡ reverse xs

-- There is a fresh store; and after every history of one, whatever its calls were, all is right.
pub record Law {R D V B : Type 0} (says : R → Context → IRNode → WalkResult D) (moves : R → Context → IRNode → R)
    (answer : V → Context → IRNode → WalkResult B) (next : V → Context → IRNode → V) (notes : V → Context → IRNode → OpPtr → ℕ) : Type 0 where
  pub begins : (s : Context) × Built s
  pub holds : (s t : Context) (l : Ledger) → Built s → History s t l → Right says moves answer next notes t l
