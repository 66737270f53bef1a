-- What a walk that is held gives, step by step.
use Rattle.std.specs.Prelude.{◌≡◌, ℕ, List, [], ◌∷◌, ◌++◌, length, Some, None, MatchResult, Ok, Option, Result}
use Rattle.orders.specs.declared.place.At.TheVariants.{Start}
use Rattle.orders.specs.declared.walk_result.WalkResult.{WalkResult}
use Rattle.orders.specs.Logs.{Next, Shown, shown}
use Rattle.orders.specs.Places.{never, node_at, remaining}
use Rattle.orders.specs.Runs.{Held}
use Rattle.records.specs.declared.ir_node.IRNode.{IRNode}
use Rattle.records.specs.Children.{Lists}
use Rattle.records.specs.Nodes.{parent}
use Rattle.result.specs.declared.refusal.Refusal.{Refusal}
use Rattle.result.specs.Rows.{NoRow, Uppermost}
use Rattle.ir.specs.declared.context.Context.{Context}
use Rattle.ir.specs.Stores.{nodes}
use Rattle.walkers.specs.declared.config.WalkConfig.{WalkConfig}
use Rattle.walkers.specs.declared.walk.Walk.{Walk}
use Rattle.walkers.specs.Children.{directed_children}
use Rattle.walkers.specs.Links.{links}
use Rattle.walkers.specs.Configs.{early}
use Rattle.walkers.specs.Walks.{root_rows}

-- how many nodes the walk can still give
abbrev pub to_come : Walk → ℕ
to_come w = length (remaining (links (nodes w.context.now) w.config) w.root never w.at)

-- a walk of the store from the root that gave no node yet
pub record Begins (s : Context) (k : WalkConfig) (root : IRNode) (w : Walk) : Type 0 where
  pub on : w.context.now ≡ s
  pub by : w.config ≡ k
  pub from : w.root ≡ root
  pub fresh : w.at ≡ Start

-- starting a walk that is held
abbrev pub HeldCall : Context → WalkConfig → IRNode → Result Walk Refusal → Type 0
HeldCall s k root r = MatchResult r (λ w. NoRow (root_rows s root) × Begins s k root w) (λ e. Uppermost (root_rows s root) e)

-- The walk gave the nodes of the log, which were answered as it says, and then the node that is last, if there is one, which is not
-- answered yet. The values of answers are left out, so that answers may be of any types, another at each step.
pub record Stands (w : Walk) (log : List (Shown IRNode (Unit {0}))) (last : Option IRNode) : Type 0 where
  pub held : Held (links (nodes w.context.now) w.config) w.root w.at log
  pub awaits : node_at w.at ≡ last

-- the log with the answer to the last node, if there is one
abbrev pub with_answer : {B : Type 0} → Option IRNode → List (Shown IRNode B) → WalkResult B → List (Shown IRNode B)
with_answer None log a = log
with_answer (Some n) log a = log ++ (shown n a ∷ [])

-- A step, by an answer without its value: the walk stays on its store and way; a walk that gave no node yet stands after the empty log;
-- and wherever it stood, it gives the node that comes next by the configuration's order of the store's children, and stands there.
pub record Steps (w : Walk) (a : WalkResult (Unit {0})) (r : Option IRNode) (u : Walk) : Type 0 where
  pub on : u.context ≡ w.context
  pub by : u.config ≡ w.config
  pub from : u.root ≡ w.root
  pub begins : w.at ≡ Start → Stands w [] None
  pub stands : (log : List (Shown IRNode (Unit {0}))) (last : Option IRNode) → Stands w log last → Stands u (with_answer last log a) r
  pub next : (log : List (Shown IRNode (Unit {0}))) (last : Option IRNode) → Stands w log last → (l : Lists (nodes w.context.now))
      → Next (parent (nodes w.context.now)) (early w.config) (directed_children w.config (nodes w.context.now) l) w.root (with_answer last log a) r

-- A walk of the store from the root was started, and stepped by answers of any types, one after another: it gave the nodes of the log,
-- which were answered so, values left out, and then what is last, which is not answered yet; this is none where no step was taken, or the
-- newest gave none.
pub data Gave (s : Context) (k : WalkConfig) (root : IRNode) : Walk → List (Shown IRNode (Unit {0})) → Option IRNode → Type 0 where
  started : {w : Walk} → HeldCall s k root (Ok w) → Gave s k root w [] None
  goes_on : {w u : Walk} {log : List (Shown IRNode (Unit {0}))} {last r : Option IRNode} (a : WalkResult (Unit {0})) → Gave s k root w log last → Steps w a r u → Gave s k root u (with_answer last log a) r
