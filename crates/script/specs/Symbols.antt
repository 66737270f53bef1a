-- What the three fields that put a symbol into a table, take one out and erase one do: their rows of refusals, in the order in which they
-- are tested, and what is done where none fits.
use Rattle.std.specs.Prelude.{ℕ, ◌<◌, ◌⊎◌, List, [], ◌∷◌, length, Some, None, Option, ◌≢◌, slice_index}
use Rattle.std.specs.List.{slice_get}
use Rattle.std.specs.Option.{option_flatten, option_map, option_zip}
use Rattle.result.specs.declared.refusal.Refusal.{Refusal}
use Rattle.records.specs.declared.handles.OpPtr.{OpPtr}
use Rattle.symbol_table.specs.declared.op_insertion_point.OpInsertionPoint.{OpInsertionPoint}
use Rattle.symbol_table.specs.declared.op_insertion_point.OpInsertionPoint.TheVariants.{AfterOperation, AtBlockEnd, AtBlockStart, BeforeOperation, Unset}
use Rattle.symbol_table.specs.Inserting.{insert_rows, remove_rows}
use Rattle.ir.specs.Stores.{nodes}
use Rattle.ir.specs.Tables.{EraseSymbolCall, InsertSymbolCall, RemoveSymbolCall}
use Rattle.script.specs.declared.node.Node.{Node}
use Rattle.script.specs.declared.node.Close.{Close}
use Rattle.script.specs.declared.state.State.{State}
use Rattle.script.specs.Fields.{number_at}
use Rattle.script.specs.Linkings.{Edited, edit_rows}
use Rattle.script.specs.Sessions.{operations, blocks}

-- the value is not the numbers of a table and an operation, a byte for the point from 0 to 5, and the number of the point's node
abbrev pub NoInsert : List ℕ → Type 0
NoInsert value = (length value ≢ 7) ⊎ (5 < slice_index value 4)

-- the points at the node with a number, in the order of their bytes, where the number was given: without a point and at one that was
-- not set the number is not read; a block has its start and its end, and an operation what is after it and before it
abbrev pub points : State → ℕ → List (Option (Option OpInsertionPoint))
points s n =
    Some None
    ∷ Some (Some Unset)
    ∷ option_map (λ b. Some (AtBlockStart b)) (slice_get (blocks s) n)
    ∷ option_map (λ b. Some (AtBlockEnd b)) (slice_get (blocks s) n)
    ∷ option_map (λ o. Some (AfterOperation o)) (slice_get (operations s) n)
    ∷ option_map (λ o. Some (BeforeOperation o)) (slice_get (operations s) n)
    ∷ []

-- the point of a byte at the node with a number
abbrev pub point_given : State → ℕ → ℕ → Option (Option OpInsertionPoint)
point_given s how n = option_flatten (slice_get (points s n) how)

-- the table and the operation that have these numbers
abbrev pub pair_given : State → ℕ → ℕ → Option (OpPtr × OpPtr)
pair_given s table op = option_zip (slice_get (operations s) table) (slice_get (operations s) op)

-- the table, the operation and the point that have these numbers
abbrev pub insert_given : State → ℕ → ℕ → ℕ → ℕ → Option ((OpPtr × OpPtr) × Option OpInsertionPoint)
insert_given s table op how node = option_zip (pair_given s table op) (point_given s how node)

-- the same by the numbers of a value
abbrev pub insert_named : State → List ℕ → Option ((OpPtr × OpPtr) × Option OpInsertionPoint)
insert_named s value = insert_given s (number_at value 0) (number_at value 2) (slice_index value 4) (number_at value 5)

-- the rows of putting a symbol into a table
abbrev pub symbol_insert_rows : State → List ℕ → List (Refusal × Type 0)
symbol_insert_rows s value = edit_rows (NoInsert value) (insert_named s value) (λ p. insert_rows (nodes s.context) p.0.0 p.0.1 p.1)

-- the symbol is put into the table
abbrev pub SymbolFieldInserted : State → List ℕ → List Node → Close → State → Type 0
SymbolFieldInserted s value = Edited (insert_named s value) (λ p. InsertSymbolCall s.context p.0.0 p.0.1 p.1) s

-- the value is not the numbers of a table and an operation
abbrev pub NoPair : List ℕ → Type 0
NoPair value = length value ≢ 4

-- the same by the numbers of a value
abbrev pub pair_named : State → List ℕ → Option (OpPtr × OpPtr)
pair_named s value = pair_given s (number_at value 0) (number_at value 2)

-- the rows of taking a symbol out of a table, be it to erase it or not
abbrev pub symbol_remove_rows : State → List ℕ → List (Refusal × Type 0)
symbol_remove_rows s value = edit_rows (NoPair value) (pair_named s value) (λ p. remove_rows (nodes s.context) p.0 p.1)

-- the symbol is taken out of the table
abbrev pub SymbolFieldRemoved : State → List ℕ → List Node → Close → State → Type 0
SymbolFieldRemoved s value = Edited (pair_named s value) (λ p. RemoveSymbolCall s.context p.0 p.1) s

-- the symbol is taken out of the table and erased, with all that lies below it
abbrev pub SymbolFieldErased : State → List ℕ → List Node → Close → State → Type 0
SymbolFieldErased s value = Edited (pair_named s value) (λ p. EraseSymbolCall s.context p.0 p.1) s
