-- Symbol tables, with names as bytes: putting a symbol into a table, taking it out and erasing it, looking one up, and the table that is nearest
-- to an operation; and what is always true of them.
use Rattle.std.specs.Prelude.{◌≡◌, ℕ, true, false, List, ◌∷◌, Some, None, Option, Result}
use Rattle.result.specs.declared.refusal.Refusal.{Refusal}
use Rattle.result.specs.declared.refusal.Refusal.TheVariants.{Dangling, NotATable}
use Rattle.result.specs.Rows.{Answered}
use Rattle.records.specs.declared.handles.BlockPtr.{BlockPtr}
use Rattle.records.specs.declared.handles.OpPtr.{OpPtr}
use Rattle.records.specs.Models.{Model, operation_at}
use Rattle.records.specs.Nodes.{is_table}
use Rattle.records.specs.Views.{op_links, part}
use Rattle.identifier.specs.Identifiers.{name_rows}
use Rattle.symbol_table.specs.declared.op_insertion_point.OpInsertionPoint.{OpInsertionPoint}
use Rattle.symbol_table.specs.Bodies.{body_in}
use Rattle.symbol_table.specs.Erasing.{ErasedFrom}
use Rattle.symbol_table.specs.Inserting.{Inserted, Removed, insert_rows, remove_rows}
use Rattle.symbol_table.specs.Laws.{OneBody}
use Rattle.symbol_table.specs.Lookups.{Nearest, nearest_rows}
use Rattle.ir.specs.declared.context.Context.{Context}
use Rattle.ir.specs.Stores.{name_of, names, nodes}

-- the bytes of an operation's name, if it has one
abbrev pub bytes_of : Context → OpPtr → Option (List ℕ)
bytes_of s op = part (name_of (names s)) (operation_at (nodes s) op)

-- the operation is a child of the table's body, and its name is these bytes
pub record Stands (s : Context) (t : OpPtr) (bytes : List ℕ) (op : OpPtr) : Type 0 where
  pub table : is_table (nodes s) t ≡ true
  pub body : BlockPtr
  pub is_body : body_in (nodes s) t ≡ Some body
  pub child : (op_links (nodes s)).within op ≡ Some body
  pub name : bytes_of s op ≡ Some bytes

-- it is the only one
pub record OnlyOne (s : Context) (t : OpPtr) (bytes : List ℕ) (op : OpPtr) : Type 0 where
  pub stands : Stands s t bytes op
  pub alone : (other : OpPtr) → Stands s t bytes other → other ≡ op

-- the operation that stands in the table's body under a name, or none where none does
abbrev pub Found : Context → OpPtr → List ℕ → Option OpPtr → Type 0
Found s t bytes (Some op) = OnlyOne s t bytes op
Found s t bytes None = (op : OpPtr) → Stands s t bytes op → ⊥

-- The symbol stands in the table's body where it goes, and the table has it under its name; all else of the store is as it was.
pub record SymbolInserted (s : Context) (t op : OpPtr) (point : Option OpInsertionPoint) (u : Context) : Type 0 where
  pub inserted : Inserted s.tables t op point u.tables
  pub held : names u ≡ names s

-- putting a symbol into a table
abbrev pub InsertSymbolCall : Context → OpPtr → OpPtr → Option OpInsertionPoint → Result (Unit {0}) Refusal → Context → Type 0
InsertSymbolCall s t op point r u = Answered (insert_rows (nodes s) t op point) (λ _ v. SymbolInserted s t op point v) s r u

-- The symbol is gone from the table's body, and the table has none under its name; all else of the store is as it was.
pub record SymbolRemoved (s : Context) (t op : OpPtr) (u : Context) : Type 0 where
  pub removed : Removed s.tables t op u.tables
  pub held : names u ≡ names s

-- taking a symbol out of a table
abbrev pub RemoveSymbolCall : Context → OpPtr → OpPtr → Result (Unit {0}) Refusal → Context → Type 0
RemoveSymbolCall s t op r u = Answered (remove_rows (nodes s) t op) (λ _ v. SymbolRemoved s t op v) s r u

-- The symbol is taken out of the table's body and erased with all that lies below it; the names stay held.
pub record SymbolErased (s : Context) (t op : OpPtr) (u : Context) : Type 0 where
  pub erased : ErasedFrom s.tables t op u.tables
  pub held : names u ≡ names s

-- erasing a symbol out of a table
abbrev pub EraseSymbolCall : Context → OpPtr → OpPtr → Result (Unit {0}) Refusal → Context → Type 0
EraseSymbolCall s t op r u = Answered (remove_rows (nodes s) t op) (λ _ v. SymbolErased s t op v) s r u

-- the refusals of looking up a name in a table, uppermost first
abbrev pub lookup_rows : Model → OpPtr → List ℕ → List (Refusal × Type 0)
lookup_rows m t bytes = (Dangling, (op_links m).live t ≡ false) ∷ (NotATable, is_table m t ≡ false) ∷ name_rows bytes

-- looking up a name in a table
abbrev pub LookupCall : Context → OpPtr → List ℕ → Result (Option OpPtr) Refusal → Type 0
LookupCall s t bytes r = Answered (lookup_rows (nodes s) t bytes) (λ x u. Found s t bytes x) s r s

-- asking for the table that is nearest to an operation: the first among the operation itself and its parent operations
abbrev pub NearestTableCall : Context → OpPtr → Result (Option OpPtr) Refusal → Type 0
NearestTableCall s op r = Answered (nearest_rows (nodes s) op) (λ x u. Nearest (nodes s) op x) s r s

-- what a lookup gives in a table that may be there: none where there is none
abbrev pub FoundIn : Context → Option OpPtr → List ℕ → Option OpPtr → Type 0
FoundIn s None bytes x = x ≡ None
FoundIn s (Some t) bytes x = Found s t bytes x

-- what stands under a name in the table that is nearest to an operation
pub record FoundNearest (s : Context) (op : OpPtr) (bytes : List ℕ) (x : Option OpPtr) : Type 0 where
  pub table : Option OpPtr
  pub nearest : Nearest (nodes s) op table
  pub found : FoundIn s table bytes x

-- the refusals of looking up a name in the nearest table, uppermost first
abbrev pub nearest_lookup_rows : Model → OpPtr → List ℕ → List (Refusal × Type 0)
nearest_lookup_rows m op bytes = (Dangling, (op_links m).live op ≡ false) ∷ name_rows bytes

-- looking up a name in the table that is nearest to an operation
abbrev pub NearestLookupCall : Context → OpPtr → List ℕ → Result (Option OpPtr) Refusal → Type 0
NearestLookupCall s op bytes r = Answered (nearest_lookup_rows (nodes s) op bytes) (λ x u. FoundNearest s op bytes x) s r s

-- every table has its body
abbrev pub HaveBodies : Type 0
HaveBodies = (s : Context) (t : OpPtr) → is_table (nodes s) t ≡ true → OneBody (nodes s) t

-- no body holds two of one name
abbrev pub OneOfAName : Type 0
OneOfAName = (s : Context) (t : OpPtr) (bytes : List ℕ) (op other : OpPtr) → Stands s t bytes op → Stands s t bytes other → op ≡ other
