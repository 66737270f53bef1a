-- What walking does: who is shown which nodes, and what is answered.
use Rattle.std.specs.Prelude.{◌≡◌, ℕ, false, List, [], ◌∷◌, Result}
use Rattle.result.specs.declared.refusal.Refusal.{Refusal}
use Rattle.result.specs.declared.refusal.Refusal.TheVariants.{Dangling}
use Rattle.result.specs.Rows.{Answered}
use Rattle.orders.specs.declared.walk_result.WalkResult.{WalkResult}
use Rattle.orders.specs.declared.walk_result.WalkResult.TheVariants.{Advance}
use Rattle.orders.specs.Logs.{Shown, Shows, Walked, Whole, nodes as shown_nodes}
use Rattle.records.specs.declared.handles.OpPtr.{OpPtr}
use Rattle.records.specs.declared.ir_node.IRNode.{IRNode}
use Rattle.records.specs.Children.{Lists, is_live}
use Rattle.records.specs.Nodes.{parent}
use Rattle.ir.specs.declared.context.Context.{Context}
use Rattle.ir.specs.Stores.{nodes}
use Rattle.walkers.specs.declared.advancing.Uninterruptible.{Uninterruptible}
use Rattle.walkers.specs.declared.config.WalkConfig.{WalkConfig}
use Rattle.walkers.specs.Children.{directed_children}
use Rattle.walkers.specs.Configs.{early}
use Rattle.walkers.specs.Notes.{Noting, OnlyNotes}

-- the refusal of a walk: its root is not live
abbrev pub root_rows : Context → IRNode → List (Refusal × Type 0)
root_rows s root = (Dangling, is_live (nodes s) root ≡ false) ∷ []

-- The log is that of a walk from root over the children of the store s, in the order and the directions of the configuration, which
-- says r: whatever lists the links of the store describe.
abbrev pub WalkedIn : {B : Type 0} → Context → WalkConfig → IRNode → List (Shown IRNode B) → WalkResult B → Type 0
WalkedIn s k root log r = (l : Lists (nodes s)) → Walked (parent (nodes s)) (early k) (directed_children k (nodes s) l) root log r

-- the nodes are the whole order from root: all that lies within it, each once
abbrev pub WholeIn : Context → WalkConfig → IRNode → List IRNode → Type 0
WholeIn s k root ns = (l : Lists (nodes s)) → Whole (parent (nodes s)) (early k) (directed_children k (nodes s) l) root ns

-- how a reading visitor answers a node of the store s, and its state after
abbrev pub Reads : {V B : Type 0} → (V → Context → IRNode → WalkResult B) → (V → Context → IRNode → V) → Context → V → IRNode → WalkResult B → V → Type 0
Reads answer next s v n a w = (a ≡ answer v s n) × (w ≡ next v s n)

-- how a writing visitor answers a node, and its state and the store after
abbrev pub Writes : {V B : Type 0} → (V → Context → IRNode → WalkResult B) → (V → Context → IRNode → V) → (V → Context → IRNode → OpPtr → ℕ)
    → V × Context → IRNode → WalkResult B → V × Context → Type 0
Writes answer next notes x n a y = (a ≡ answer x.0 x.1 n) × (y.0 ≡ next x.0 x.1 n) × Noting x.1 (notes x.0 x.1 n) y.1

-- A reading visitor was shown the nodes of a walk, one by one, and was left as these leave it.
pub record WalkRead {V B : Type 0} (answer : V → Context → IRNode → WalkResult B) (next : V → Context → IRNode → V) (s : Context) (k : WalkConfig) (root : IRNode)
    (v : V) (r : WalkResult B) (w : V) : Type 0 where
  pub log : List (Shown IRNode B)
  pub shows : Shows (Reads answer next s) v log w
  pub walked : WalkedIn s k root log r

-- walking a store for a reading visitor; a refusal leaves the visitor as it was
abbrev pub WalkCall : {V B : Type 0} → (V → Context → IRNode → WalkResult B) → (V → Context → IRNode → V) → Context → WalkConfig → IRNode → V → Result (WalkResult B) Refusal → V → Type 0
WalkCall answer next s k root v r w = Answered (root_rows s root) (λ x u. WalkRead answer next s k root v x u) v r w

-- A writing visitor was shown the nodes of a walk, one by one; visitor and store were left as these leave them, and in the store notes
-- alone were set.
pub record WalkWritten {V B : Type 0} (answer : V → Context → IRNode → WalkResult B) (next : V → Context → IRNode → V) (notes : V → Context → IRNode → OpPtr → ℕ)
    (s : Context) (k : WalkConfig) (root : IRNode) (v : V) (r : WalkResult B) (w : V) (t : Context) : Type 0 where
  pub log : List (Shown IRNode B)
  pub shows : Shows (Writes answer next notes) (v, s) log (w, t)
  pub walked : WalkedIn s k root log r
  pub only : OnlyNotes s t

-- walking a store for a writing visitor; a refusal leaves visitor and store as they were
abbrev pub WalkMutCall : {V B : Type 0} → (V → Context → IRNode → WalkResult B) → (V → Context → IRNode → V) → (V → Context → IRNode → OpPtr → ℕ)
    → Context → WalkConfig → IRNode → V → Result (WalkResult B) Refusal → V → Context → Type 0
WalkMutCall {V} answer next notes s k root v r w t = Answered {S = V × Context} (root_rows s root) (λ x y. WalkWritten answer next notes s k root v x y.0 y.1) (v, s) r (w, t)

-- what a visitor inside a wrapper does, as the wrapper's: its next state, and the notes that it leaves
abbrev pub inside : {V : Type 0} → (V → Context → IRNode → V) → Uninterruptible V → Context → IRNode → Uninterruptible V
inside next u s n = record { inner = next u.inner s n }

abbrev pub beneath : {V : Type 0} → (V → Context → IRNode → OpPtr → ℕ) → Uninterruptible V → Context → IRNode → OpPtr → ℕ
beneath notes u s n = notes u.inner s n

-- every answer is Advance
abbrev pub always : {V B : Type 0} → V → Context → IRNode → WalkResult B
always v s n = Advance

-- A reading visitor was shown the whole order, each node once, one by one, and was left as these leave it.
pub record AllRead {V : Type 0} (B : Type 0) (next : V → Context → IRNode → V) (s : Context) (k : WalkConfig) (root : IRNode) (v w : V) : Type 0 where
  pub log : List (Shown IRNode B)
  pub shows : Shows (Reads always next s) v log w
  pub whole : WholeIn s k root (shown_nodes log)

-- walking a store for a reading visitor, whatever it answers
abbrev pub WalkAllCall : {V : Type 0} → Type 0 → (V → Context → IRNode → V) → Context → WalkConfig → IRNode → V → Result (Unit {0}) Refusal → V → Type 0
WalkAllCall B next s k root v r w = Answered (root_rows s root) (λ _ u. AllRead B next s k root v u) v r w

-- A writing visitor was shown the whole order, each node once, one by one; visitor and store were left as these leave them, and in the
-- store notes alone were set.
pub record AllWritten {V : Type 0} (B : Type 0) (next : V → Context → IRNode → V) (notes : V → Context → IRNode → OpPtr → ℕ)
    (s : Context) (k : WalkConfig) (root : IRNode) (v w : V) (t : Context) : Type 0 where
  pub log : List (Shown IRNode B)
  pub shows : Shows (Writes always next notes) (v, s) log (w, t)
  pub whole : WholeIn s k root (shown_nodes log)
  pub only : OnlyNotes s t

-- walking a store for a writing visitor, whatever it answers
abbrev pub WalkAllMutCall : {V : Type 0} → Type 0 → (V → Context → IRNode → V) → (V → Context → IRNode → OpPtr → ℕ)
    → Context → WalkConfig → IRNode → V → Result (Unit {0}) Refusal → V → Context → Type 0
WalkAllMutCall {V} B next notes s k root v r w t = Answered {S = V × Context} (root_rows s root) (λ _ y. AllWritten B next notes s k root v y.0 y.1) (v, s) r (w, t)
