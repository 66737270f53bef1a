-- What the two making fields do: their rows of refusals, in the order in which they are tested, and what they make.
use Rattle.std.specs.Prelude.{◌≡◌, ℕ, ◌+◌, ◌%◌, ◌<◌, ◌⊎◌, List, [], ◌∷◌, ◌++◌, length, drop, Ok, ◌≢◌, slice_index}
use Rattle.result.specs.declared.refusal.Refusal.{Refusal}
use Rattle.result.specs.declared.refusal.Refusal.TheVariants.{BadField, NumberingFull}
use Rattle.records.specs.declared.making.MadeOperation.{MadeOperation}
use Rattle.records.specs.declared.handles.BlockPtr.{BlockPtr}
use Rattle.records.specs.Shapes.{Misshapen}
use Rattle.ir.specs.Calls.{given, make_operation_rows, make_block_rows, MakeOperationCall, MakeBlockCall}
use Rattle.script.specs.declared.node.Node.{Node}
use Rattle.script.specs.declared.node.Node.TheVariants.{Block}
use Rattle.script.specs.declared.node.Close.{Close}
use Rattle.script.specs.declared.node.Close.TheVariants.{Nothing}
use Rattle.script.specs.declared.state.State.{State}
use Rattle.script.specs.Numbers.{MadeNumbers}
use Rattle.script.specs.Sessions.{operations, blocks, regions, next_operation, next_block, next_region}

-- the value that makes an operation starts with its kind
abbrev pub kind_in : List ℕ → ℕ
kind_in value = slice_index value 0

-- then comes the number of its regions
abbrev pub regions_in : List ℕ → ℕ
regions_in value = slice_index value 1

-- and the rest is its name
abbrev pub name_in : List ℕ → List ℕ
name_in value = drop 2 value

-- so many nodes more of each kind would get a number past 511
abbrev pub PastLast : State → ℕ → ℕ → ℕ → Type 0
PastLast s ops bodies regs =
    (512 < next_operation s + ops) ⊎ ((512 < next_block s + bodies) ⊎ (512 < next_region s + regs))

-- an operation may be of this shape, and with its regions and, if it is a table, which has an odd kind, its body it would need
-- a number past the last
abbrev pub NumbersOut : State → ℕ → ℕ → List ℕ → Type 0
NumbersOut s kind regs name = (Misshapen kind regs (given name) → ⊥) × PastLast s 1 (kind % 2) regs

-- the rows of making an operation of a kind, with so many regions and a name
abbrev pub operation_making : State → ℕ → ℕ → List ℕ → List (Refusal × Type 0)
operation_making s kind regs name = (NumberingFull, NumbersOut s kind regs name) ∷ make_operation_rows s.context kind regs name

-- the rows of the field that makes an operation
abbrev pub operation_field_rows : State → List ℕ → List (Refusal × Type 0)
operation_field_rows s value =
    (BadField, length value < 2) ∷ operation_making s (kind_in value) (regions_in value) (name_in value)

-- the store makes the operation, and all that was made with it is numbered and shown
pub record OperationFieldMade (s : State) (kind regs : ℕ) (name : List ℕ) (nodes : List Node) (close : Close) (t : State) : Type 0 where
  pub made : MadeOperation
  pub stored : MakeOperationCall s.context kind regs name (Ok made) t.context
  pub numbered : MadeNumbers s made nodes t
  pub closed : close ≡ Nothing

-- the rows of making a block
abbrev pub block_field_rows : State → List ℕ → List (Refusal × Type 0)
block_field_rows s value =
    (BadField, (length value ≢ 0)) ∷ (NumberingFull, PastLast s 0 1 0) ∷ make_block_rows s.context

-- the store makes the block; it gets the next number, and is shown
pub record BlockFieldMade (s : State) (nodes : List Node) (close : Close) (t : State) : Type 0 where
  pub made : BlockPtr
  pub stored : MakeBlockCall s.context (Ok made) t.context
  pub block : blocks t ≡ blocks s ++ (made ∷ [])
  pub operations_stay : operations t ≡ operations s
  pub regions_stay : regions t ≡ regions s
  pub shown : nodes ≡ Block (next_block s) ∷ []
  pub closed : close ≡ Nothing
