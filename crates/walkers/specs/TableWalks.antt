-- What walking a symbol table does: who is shown which of the operations that stand in it.
use Rattle.std.specs.Prelude.{◌≡◌, false, List, [], ◌∷◌, Some, Result}
use Rattle.std.specs.Option.{option_map}
use Rattle.result.specs.declared.refusal.Refusal.{Refusal}
use Rattle.result.specs.declared.refusal.Refusal.TheVariants.{Dangling, NotATable}
use Rattle.result.specs.Rows.{Answered}
use Rattle.orders.specs.declared.walk_result.WalkResult.{WalkResult}
use Rattle.records.specs.declared.handles.OpPtr.{OpPtr}
use Rattle.records.specs.declared.handles.RegionPtr.{RegionPtr}
use Rattle.records.specs.declared.ir_node.IRNode.{IRNode}
use Rattle.records.specs.declared.ir_node.IRNode.TheVariants as node
use Rattle.records.specs.Models.{operation_at}
use Rattle.records.specs.Nodes.{is_table, regions_of}
use Rattle.records.specs.Views.{op_links}
use Rattle.ir.specs.declared.context.Context.{Context}
use Rattle.ir.specs.Stores.{nodes}
use Rattle.walkers.specs.declared.operations_only.OperationsOnly.{OperationsOnly}
use Rattle.walkers.specs.Configs.{preorder_forward}
use Rattle.walkers.specs.Operations.{only_answer, only_next}
use Rattle.walkers.specs.Walks.{WalkRead}

-- the refusals of walking a table, uppermost first
abbrev pub table_rows : Context → OpPtr → List (Refusal × Type 0)
table_rows s t = (Dangling, (op_links (nodes s)).live t ≡ false) ∷ (NotATable, is_table (nodes s) t ≡ false) ∷ []

-- The table's one region was walked, each node before its children and these from the first to the last, for a visitor that shows the one
-- inside operations alone, and no table among them.
pub record TableWalked {V B : Type 0} (answer : V → Context → IRNode → WalkResult B) (next : V → Context → IRNode → V) (s : Context) (t : OpPtr)
    (v w : OperationsOnly V) : Type 0 where
  pub region : RegionPtr
  pub is_region : option_map regions_of (operation_at (nodes s) t) ≡ Some (region ∷ [])
  pub says : WalkResult B
  pub read : WalkRead (only_answer answer) (only_next next) s preorder_forward (node.Region region) v says w

-- walking a table for a reading visitor; a refusal leaves the visitor as it was
abbrev pub TableWalkCall : {V B : Type 0} → (V → Context → IRNode → WalkResult B) → (V → Context → IRNode → V)
    → Context → OpPtr → OperationsOnly V → Result (Unit {0}) Refusal → OperationsOnly V → Type 0
TableWalkCall answer next s t v r w = Answered (table_rows s t) (λ _ u. TableWalked answer next s t v u) v r w
