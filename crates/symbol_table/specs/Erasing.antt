-- What erasing does in a store with symbol tables: to the nodes, what it does there; and the names of every table that ends go with it.
use Rattle.std.specs.Prelude.{Result}
use Rattle.result.specs.declared.refusal.Refusal.{Refusal}
use Rattle.result.specs.Rows.{Answered}
use Rattle.records.specs.declared.handles.BlockPtr.{BlockPtr}
use Rattle.records.specs.declared.handles.OpPtr.{OpPtr}
use Rattle.records.specs.Models.{Model}
use Rattle.records.specs.Views.{op_links}
use Rattle.forest.specs.Erasings.{BlockErased, OpErased, erase_block_rows, erase_op_rows}
use Rattle.mappings.specs.Edits.{Retained}
use Rattle.symbol_table.specs.declared.symbol_tables.SymbolTables.{SymbolTables}
use Rattle.symbol_table.specs.Carried.{nodes}
use Rattle.symbol_table.specs.Inserting.{Removed, remove_rows}

-- This was done to the nodes. Every table that is live after it has the names that it had, and every other has none.
pub record Erased (done : Model → Type 0) (s t : SymbolTables) : Type 0 where
  pub erased : done (nodes t)
  pub mapped : Retained (op_links (nodes t)).live s.mappings t.mappings

-- erasing an operation, and erasing a block, with all that lies below
abbrev pub ErasesOpIn : SymbolTables → OpPtr → Result (Unit {0}) Refusal → SymbolTables → Type 0
ErasesOpIn s op r t = Answered (erase_op_rows (nodes s) op) (λ _ u. Erased (OpErased (nodes s) op) s u) s r t

abbrev pub ErasesBlockIn : SymbolTables → BlockPtr → Result (Unit {0}) Refusal → SymbolTables → Type 0
ErasesBlockIn s block r t = Answered (erase_block_rows (nodes s) block) (λ _ u. Erased (BlockErased (nodes s) block) s u) s r t

-- The symbol was taken out of the table, and then it was erased with all that lies below it.
pub record ErasedFrom (s : SymbolTables) (t op : OpPtr) (u : SymbolTables) : Type 0 where
  pub between : SymbolTables
  pub removed : Removed s t op between
  pub erased : Erased (OpErased (nodes between) op) between u

-- erasing a symbol out of a table
abbrev pub Erases : SymbolTables → OpPtr → OpPtr → Result (Unit {0}) Refusal → SymbolTables → Type 0
Erases s t op r u = Answered (remove_rows (nodes s) t op) (λ _ v. ErasedFrom s t op v) s r u
