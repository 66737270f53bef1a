-- What erasing does to a store: the refusals in the order in which they are tested, and else which nodes end and what stays; the names
-- stay held, and every table that ends has no mappings any more.
use Rattle.std.specs.Prelude.{◌≡◌, Result}
use Rattle.result.specs.declared.refusal.Refusal.{Refusal}
use Rattle.result.specs.Rows.{Answered}
use Rattle.records.specs.declared.handles.BlockPtr.{BlockPtr}
use Rattle.records.specs.declared.handles.OpPtr.{OpPtr}
use Rattle.forest.specs.Erasings.{BlockErased, OpErased, erase_block_rows, erase_op_rows}
use Rattle.symbol_table.specs.Erasing.{Erased}
use Rattle.ir.specs.declared.context.Context.{Context}
use Rattle.ir.specs.Stores.{names, nodes}

-- The operation and all that lies below it end, the operation is gone from the children of its block, if it stood in one, and the
-- tables that are live after it keep their mappings; all else stays.
pub record OpEnded (s : Context) (op : OpPtr) (t : Context) : Type 0 where
  pub erased : Erased (OpErased (nodes s) op) s.tables t.tables
  pub held : names t ≡ names s

-- erasing an operation
abbrev pub EraseOpCall : Context → OpPtr → Result (Unit {0}) Refusal → Context → Type 0
EraseOpCall s op r t = Answered (erase_op_rows (nodes s) op) (λ _ u. OpEnded s op u) s r t

-- the same of a block and its region
pub record BlockEnded (s : Context) (block : BlockPtr) (t : Context) : Type 0 where
  pub erased : Erased (BlockErased (nodes s) block) s.tables t.tables
  pub held : names t ≡ names s

-- erasing a block
abbrev pub EraseBlockCall : Context → BlockPtr → Result (Unit {0}) Refusal → Context → Type 0
EraseBlockCall s block r t = Answered (erase_block_rows (nodes s) block) (λ _ u. BlockEnded s block u) s r t
