-- What the calls do that put no symbol into a body and take none out: to the nodes, what they do there; the mappings stay.
use Rattle.std.specs.Prelude.{◌≡◌, ℕ, List, [], ◌∷◌, is_some, Option, Result}
use Rattle.result.specs.declared.refusal.Refusal.{Refusal}
use Rattle.result.specs.declared.refusal.Refusal.TheVariants.{BadShape}
use Rattle.result.specs.Rows.{Answered}
use Rattle.linked_list.specs.declared.spot.Spot.{Spot}
use Rattle.records.specs.declared.handles.BlockPtr.{BlockPtr}
use Rattle.records.specs.declared.handles.OpPtr.{OpPtr}
use Rattle.records.specs.declared.handles.RegionPtr.{RegionPtr}
use Rattle.records.specs.declared.making.MadeOperation.{MadeOperation}
use Rattle.records.specs.declared.shape.Shape.{Shape}
use Rattle.records.specs.Models.{Model}
use Rattle.records.specs.Shapes.{BadName}
use Rattle.forest.specs.declared.forest.Forest.{Forest}
use Rattle.forest.specs.Calls.{BlockMade, Fresh, Noted, OperationMade, block_rows, handle_rows, operation_rows}
use Rattle.forest.specs.Forests.{model}
use Rattle.forest.specs.Linkings.{BlockLinked, BlockUnlinked, OpLinked, OpUnlinked, link_block_rows, link_op_rows, unlink_block_rows, unlink_op_rows}
use Rattle.mappings.specs.Held.{held}
use Rattle.symbol_table.specs.declared.symbol_tables.SymbolTables.{SymbolTables}

-- the nodes
abbrev pub nodes : SymbolTables → Model
nodes s = model s.forest

-- a store in which nothing was made and nothing is mapped
pub record Built (s : SymbolTables) : Type 0 where
  pub fresh : Fresh s.forest
  pub unmapped : held s.mappings ≡ []

-- this was done to the nodes, and the mappings stay
abbrev pub Carried : {X : Type 0} → (X → Forest → Type 0) → SymbolTables → X → SymbolTables → Type 0
Carried done s x t = done x t.forest × (t.mappings ≡ s.mappings)

-- the refusals of making an operation: a symbol without a name, or a name without a symbol; and too few free records
abbrev pub make_rows : Model → Shape → Option ℕ → List (Refusal × Type 0)
make_rows m shape name = (BadShape, BadName shape.kind (is_some name)) ∷ operation_rows m shape

-- the calls
abbrev pub MakesOperationIn : SymbolTables → Shape → Option ℕ → Result MadeOperation Refusal → SymbolTables → Type 0
MakesOperationIn s shape name r t = Answered (make_rows (nodes s) shape name) (Carried (OperationMade s.forest shape name) s) s r t

abbrev pub MakesBlockIn : SymbolTables → Result BlockPtr Refusal → SymbolTables → Type 0
MakesBlockIn s r t = Answered (block_rows (nodes s)) (Carried (BlockMade s.forest) s) s r t

abbrev pub NotesIn : SymbolTables → OpPtr → ℕ → Result (Unit {0}) Refusal → SymbolTables → Type 0
NotesIn s op note r t = Answered (handle_rows (nodes s) op) (Carried (λ _ u. Noted s.forest op note u) s) s r t

abbrev pub LinksOpIn : SymbolTables → OpPtr → Spot OpPtr BlockPtr → Result (Unit {0}) Refusal → SymbolTables → Type 0
LinksOpIn s op spot r t = Answered (link_op_rows (nodes s) op spot) (Carried (λ _ u. OpLinked (nodes s) op spot (model u)) s) s r t

abbrev pub LinksBlockIn : SymbolTables → BlockPtr → Spot BlockPtr RegionPtr → Result (Unit {0}) Refusal → SymbolTables → Type 0
LinksBlockIn s block spot r t = Answered (link_block_rows (nodes s) block spot) (Carried (λ _ u. BlockLinked (nodes s) block spot (model u)) s) s r t

abbrev pub UnlinksOpIn : SymbolTables → OpPtr → Result (Unit {0}) Refusal → SymbolTables → Type 0
UnlinksOpIn s op r t = Answered (unlink_op_rows (nodes s) op) (Carried (λ _ u. OpUnlinked (nodes s) op (model u)) s) s r t

abbrev pub UnlinksBlockIn : SymbolTables → BlockPtr → Result (Unit {0}) Refusal → SymbolTables → Type 0
UnlinksBlockIn s block r t = Answered (unlink_block_rows (nodes s) block) (Carried (λ _ u. BlockUnlinked (nodes s) block (model u)) s) s r t
