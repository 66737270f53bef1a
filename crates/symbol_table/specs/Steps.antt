-- What the inner steps of putting a symbol into a table and of taking it out answer.
use Rattle.std.specs.Prelude.{◌≡◌, ℕ, true, false, [], ◌∷◌, Some, Ok, Err, Option, Result}
use Rattle.result.specs.declared.refusal.Refusal.{Refusal}
use Rattle.result.specs.declared.refusal.Refusal.TheVariants.{Dangling, InsertionPointNotInSameTable, InvalidInsertionPoint, NotASymbol, NotATable}
use Rattle.result.specs.Rows.{Uppermost}
use Rattle.linked_list.specs.declared.spot.Spot.{Spot}
use Rattle.linked_list.specs.Edits.{spot_in}
use Rattle.records.specs.declared.handles.BlockPtr.{BlockPtr}
use Rattle.records.specs.declared.handles.OpPtr.{OpPtr}
use Rattle.records.specs.Models.{Model}
use Rattle.records.specs.Nodes.{is_symbol, is_table}
use Rattle.records.specs.Views.{op_links}
use Rattle.symbol_table.specs.declared.admitting.Admitted.{Admitted}
use Rattle.symbol_table.specs.declared.op_insertion_point.OpInsertionPoint.{OpInsertionPoint}
use Rattle.symbol_table.specs.Bodies.{body_in, name_of}
use Rattle.symbol_table.specs.Inserting.{EitherDead, OtherParent, Redefined, insert_rows}
use Rattle.symbol_table.specs.Points.{NoBlock, OtherBlock, goes_to, has_spot}

-- a live table and a live symbol, whose name has this number
pub record Wanted (m : Model) (t op : OpPtr) (number : ℕ) : Type 0 where
  pub held : (op_links m).live t ≡ true
  pub alive : (op_links m).live op ≡ true
  pub table : is_table m t ≡ true
  pub symbol : is_symbol m op ≡ true
  pub named : name_of m op ≡ Some number

-- the number of the symbol's name, where a table and a symbol are wanted
abbrev pub Wants : Model → OpPtr → OpPtr → Result ℕ Refusal → Type 0
Wants m t op (Ok number) = Wanted m t op number
Wants m t op (Err e) = Uppermost ((Dangling, EitherDead m t op) ∷ (NotATable, is_table m t ≡ false) ∷ (NotASymbol, is_symbol m op ≡ false) ∷ []) e

-- a spot of the table's body: where the point says, or without one at the end
pub record Found (m : Model) (t : OpPtr) (point : Option OpInsertionPoint) (spot : Spot OpPtr BlockPtr) : Type 0 where
  pub body : BlockPtr
  pub is_body : body_in m t ≡ Some body
  pub goes : goes_to m body point ≡ Some spot
  pub lies : spot_in (op_links m) spot ≡ Some body
  pub blocked : NoBlock m point → ⊥
  pub same : OtherBlock m t point → ⊥

-- the spot of an insertion
abbrev pub SpotFound : Model → OpPtr → Option OpInsertionPoint → Result (Spot OpPtr BlockPtr) Refusal → Type 0
SpotFound m t point (Ok spot) = Found m t point spot
SpotFound m t point (Err e) = Uppermost ((InvalidInsertionPoint, NoBlock m point) ∷ (InsertionPointNotInSameTable, OtherBlock m t point) ∷ []) e

-- an insertion that no row refuses but, perhaps, those of linking
pub record AdmittedFor (m : Model) (t op : OpPtr) (point : Option OpInsertionPoint) (a : Admitted) : Type 0 where
  pub wanted : Wanted m t op a.number
  pub there : has_spot (op_links m) point ≡ true
  pub new : Redefined m t op → ⊥
  pub only : OtherParent m t op → ⊥
  pub found : Found m t point a.spot

-- the tests of an insertion
abbrev pub Admits : Model → OpPtr → OpPtr → Option OpInsertionPoint → Result Admitted Refusal → Type 0
Admits m t op point (Ok a) = AdmittedFor m t op point a
Admits m t op point (Err e) = Uppermost (insert_rows m t op point) e
