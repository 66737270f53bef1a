-- What each call on the store of operations, blocks and regions does.
use Rattle.std.specs.Prelude.{◌≡◌, ℕ, ◌≤◌, List, [], ◌∷◌, Some, None, Option, Result}
use Rattle.result.specs.declared.refusal.Refusal.{Refusal}
use Rattle.result.specs.declared.refusal.Refusal.TheVariants.{Dangling, RecordsFull}
use Rattle.result.specs.Rows.{Answered}
use Rattle.arena.specs.Pools.{room, unused_pool}
use Rattle.arena.specs.Shelves.{at, Only}
use Rattle.forest.specs.declared.forest.Forest.{Forest}
use Rattle.records.specs.declared.handles.BlockPtr.{BlockPtr}
use Rattle.records.specs.declared.handles.OpPtr.{OpPtr}
use Rattle.records.specs.declared.making.MadeOperation.{MadeOperation}
use Rattle.records.specs.declared.operation.Operation.{Operation}
use Rattle.records.specs.declared.shape.Shape.{Shape}
use Rattle.records.specs.Makings.{AllKept, Roomy, operation_made, with_block, with_operation}
use Rattle.forest.specs.Forests.{model}
use Rattle.records.specs.Models.{Model, next_block, operation_at}
use Rattle.records.specs.Notes.{noted}

-- a store in which nothing was ever made
pub record Fresh (f : Forest) : Type 0 where
  pub operations : (model f).operations.pool ≡ unused_pool 512
  pub blocks : (model f).blocks.pool ≡ unused_pool 256
  pub regions : (model f).regions.pool ≡ unused_pool 256

-- what making an operation answers and leaves: all nodes made, the tables after, and that every live node stays
pub record OperationMade (f : Forest) (shape : Shape) (name : Option ℕ) (r : MadeOperation) (t : Forest) : Type 0 where
  pub roomy : Roomy shape.kind shape.count (model f)
  pub answer : r ≡ operation_made shape.kind shape.count (model f)
  pub after : model t ≡ with_operation shape.kind name shape.count (model f)
  pub kept : AllKept (model f) (model t)

-- the refusal of making an operation: too few records are free
abbrev pub operation_rows : Model → Shape → List (Refusal × Type 0)
operation_rows m shape = (RecordsFull, Roomy shape.kind shape.count m → ⊥) ∷ []

-- an operation is made exactly where enough records are free; else all stays
abbrev pub MakesOperation : Forest → Shape → Option ℕ → Result MadeOperation Refusal → Forest → Type 0
MakesOperation f shape name r t = Answered (operation_rows (model f) shape) (OperationMade f shape name) f r t

-- what making a block answers and leaves
pub record BlockMade (f : Forest) (r : BlockPtr) (t : Forest) : Type 0 where
  pub roomy : 1 ≤ room (model f).blocks.pool
  pub answer : r ≡ next_block (model f)
  pub after : model t ≡ with_block (model f)
  pub kept : AllKept (model f) (model t)

-- the refusal of making a block: no record is free
abbrev pub block_rows : Model → List (Refusal × Type 0)
block_rows m = (RecordsFull, room m.blocks.pool ≡ 0) ∷ []

-- a block is made exactly where a record is free; else all stays
abbrev pub MakesBlock : Forest → Result BlockPtr Refusal → Forest → Type 0
MakesBlock f r t = Answered (block_rows (model f)) (BlockMade f) f r t

-- a note set: the operation has it, and all else stays, in this table and in the others
pub record Noted (f : Forest) (op : OpPtr) (note : ℕ) (t : Forest) : Type 0 where
  pub old : Operation
  pub was : operation_at (model f) op ≡ Some old
  pub places : (model t).operations.pool ≡ (model f).operations.pool
  pub only : Only (at (model f).operations) (at (model t).operations) op.handle (Some (noted note old))
  pub blocks : (model t).blocks ≡ (model f).blocks
  pub regions : (model t).regions ≡ (model f).regions

-- the handle names no live operation
abbrev pub handle_rows : Model → OpPtr → List (Refusal × Type 0)
handle_rows m op = (Dangling, operation_at m op ≡ None) ∷ []

-- a dead handle is not noted, and all stays
abbrev pub Notes : Forest → OpPtr → ℕ → Result (Unit {0}) Refusal → Forest → Type 0
Notes f op note r t = Answered (handle_rows (model f) op) (λ _ u. Noted f op note u) f r t
