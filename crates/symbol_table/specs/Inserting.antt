-- What putting a symbol into a table does, and taking it out: the refusals in the order in which they are tested, and else the body and
-- the mappings after.
use Rattle.std.specs.Prelude.{◌≡◌, ℕ, true, false, ◌⊎◌, List, [], ◌∷◌, is_some, Some, None, Option, Result}
use Rattle.result.specs.declared.refusal.Refusal.{Refusal}
use Rattle.result.specs.declared.refusal.Refusal.TheVariants.{AlreadyLinked, Dangling, InsertionPointNotInSameTable, InvalidInsertionPoint, NotASymbol, NotATable, SymbolOpAlreadyInAnotherTable, SymbolOpNotInTableOp, SymbolRedefined, WouldContainItself}
use Rattle.result.specs.Rows.{Answered}
use Rattle.linked_list.specs.declared.spot.Spot.{Spot}
use Rattle.linked_list.specs.Edits.{spot_in}
use Rattle.trees.specs.Climbs.{Within}
use Rattle.records.specs.declared.handles.BlockPtr.{BlockPtr}
use Rattle.records.specs.declared.handles.OpPtr.{OpPtr}
use Rattle.records.specs.declared.ir_node.IRNode.TheVariants as node
use Rattle.records.specs.Models.{Model}
use Rattle.records.specs.Nodes.{is_symbol, is_table, parent}
use Rattle.records.specs.Views.{op_links}
use Rattle.forest.specs.Linkings.{OpLinked, OpUnlinked}
use Rattle.mappings.specs.Edits.{Changed}
use Rattle.symbol_table.specs.declared.op_insertion_point.OpInsertionPoint.{OpInsertionPoint}
use Rattle.symbol_table.specs.declared.symbol_tables.SymbolTables.{SymbolTables}
use Rattle.symbol_table.specs.Bodies.{Stands, body_in, name_of, parent_op}
use Rattle.symbol_table.specs.Carried.{nodes}
use Rattle.symbol_table.specs.Points.{NoBlock, OtherBlock, goes_to, has_spot}

-- the table or the operation is not live
abbrev pub EitherDead : Model → OpPtr → OpPtr → Type 0
EitherDead m t op = ((op_links m).live t ≡ false) ⊎ ((op_links m).live op ≡ false)

-- the table, the operation, or what the point names is not live
abbrev pub AnyDead : Model → OpPtr → OpPtr → Option OpInsertionPoint → Type 0
AnyDead m t op point = EitherDead m t op ⊎ (has_spot (op_links m) point ≡ false)

-- an operation stands in the table's body under the name of this one
pub record Redefined (m : Model) (t op : OpPtr) : Type 0 where
  pub number : ℕ
  pub named : name_of m op ≡ Some number
  pub other : OpPtr
  pub stands : Stands m t number other

-- the operation has a parent operation other than the table
pub record OtherParent (m : Model) (t op : OpPtr) : Type 0 where
  pub other : OpPtr
  pub parent : parent_op m op ≡ Some other
  pub differs : other ≡ t → ⊥

-- the body of the table lies inside the operation
pub record BodyInside (m : Model) (t op : OpPtr) : Type 0 where
  pub body : BlockPtr
  pub is_body : body_in m t ≡ Some body
  pub inside : Within (parent m) (node.Operation op) (node.BasicBlock body)

-- the refusals of putting a symbol into a table, uppermost first
abbrev pub insert_rows : Model → OpPtr → OpPtr → Option OpInsertionPoint → List (Refusal × Type 0)
insert_rows m t op point =
    (Dangling, AnyDead m t op point)
    ∷ (NotATable, is_table m t ≡ false)
    ∷ (NotASymbol, is_symbol m op ≡ false)
    ∷ (SymbolRedefined, Redefined m t op)
    ∷ (SymbolOpAlreadyInAnotherTable, OtherParent m t op)
    ∷ (InvalidInsertionPoint, NoBlock m point)
    ∷ (InsertionPointNotInSameTable, OtherBlock m t point)
    ∷ (AlreadyLinked, is_some ((op_links m).within op) ≡ true)
    ∷ (WouldContainItself, BodyInside m t op)
    ∷ []

-- The symbol stands in the table's body where it goes, and the table has it under its name; all else of the nodes and of the
-- mappings is as it was.
pub record Inserted (s : SymbolTables) (t op : OpPtr) (point : Option OpInsertionPoint) (u : SymbolTables) : Type 0 where
  pub body : BlockPtr
  pub is_body : body_in (nodes s) t ≡ Some body
  pub spot : Spot OpPtr BlockPtr
  pub goes : goes_to (nodes s) body point ≡ Some spot
  pub lies : spot_in (op_links (nodes s)) spot ≡ Some body
  pub linked : OpLinked (nodes s) op spot (nodes u)
  pub number : ℕ
  pub named : name_of (nodes s) op ≡ Some number
  pub mapped : Changed s.mappings t number (Some op) u.mappings

-- putting a symbol into a table
abbrev pub Inserts : SymbolTables → OpPtr → OpPtr → Option OpInsertionPoint → Result (Unit {0}) Refusal → SymbolTables → Type 0
Inserts s t op point r u = Answered (insert_rows (nodes s) t op point) (λ _ v. Inserted s t op point v) s r u

-- the refusals of taking a symbol out of a table, uppermost first
abbrev pub remove_rows : Model → OpPtr → OpPtr → List (Refusal × Type 0)
remove_rows m t op =
    (Dangling, EitherDead m t op)
    ∷ (NotATable, is_table m t ≡ false)
    ∷ (NotASymbol, is_symbol m op ≡ false)
    ∷ (SymbolOpNotInTableOp, parent_op m op ≡ Some t → ⊥)
    ∷ []

-- The symbol is gone from the table's body, and the table has none under its name; all else is as it was.
pub record Removed (s : SymbolTables) (t op : OpPtr) (u : SymbolTables) : Type 0 where
  pub unlinked : OpUnlinked (nodes s) op (nodes u)
  pub number : ℕ
  pub named : name_of (nodes s) op ≡ Some number
  pub mapped : Changed s.mappings t number None u.mappings

-- taking a symbol out of a table
abbrev pub Removes : SymbolTables → OpPtr → OpPtr → Result (Unit {0}) Refusal → SymbolTables → Type 0
Removes s t op r u = Answered (remove_rows (nodes s) t op) (λ _ v. Removed s t op v) s r u
