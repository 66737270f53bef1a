-- What the two fields that erase nodes do: their rows of refusals, in the order in which they are tested, and what is done where none
-- fits. A node that ended keeps its number.
use Rattle.std.specs.Prelude.{ℕ, List}
use Rattle.result.specs.declared.refusal.Refusal.{Refusal}
use Rattle.forest.specs.Erasings.{erase_block_rows, erase_op_rows}
use Rattle.ir.specs.Erasings.{EraseBlockCall, EraseOpCall}
use Rattle.ir.specs.Stores.{nodes}
use Rattle.script.specs.declared.node.Node.{Node}
use Rattle.script.specs.declared.node.Close.{Close}
use Rattle.script.specs.declared.state.State.{State}
use Rattle.script.specs.Linkings.{Edited, NoNumber, edit_rows, node_named}
use Rattle.script.specs.Sessions.{operations, blocks}

-- the rows of erasing an operation
abbrev pub operation_erase_rows : State → List ℕ → List (Refusal × Type 0)
operation_erase_rows s value = edit_rows (NoNumber value) (node_named (operations s) value) (erase_op_rows (nodes s.context))

-- the operation is erased, with all that lies below it
abbrev pub OperationFieldErased : State → List ℕ → List Node → Close → State → Type 0
OperationFieldErased s value = Edited (node_named (operations s) value) (EraseOpCall s.context) s

-- the rows of erasing a block
abbrev pub block_erase_rows : State → List ℕ → List (Refusal × Type 0)
block_erase_rows s value = edit_rows (NoNumber value) (node_named (blocks s) value) (erase_block_rows (nodes s.context))

-- the block is erased, with all that lies below it
abbrev pub BlockFieldErased : State → List ℕ → List Node → Close → State → Type 0
BlockFieldErased s value = Edited (node_named (blocks s) value) (EraseBlockCall s.context) s
