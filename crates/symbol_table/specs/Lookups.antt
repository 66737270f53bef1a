-- What lookups answer, and which table is nearest to an operation.
use Rattle.std.specs.Prelude.{◌≡◌, ℕ, true, false, List, [], ◌∷◌, Some, None, Option, Result}
use Rattle.result.specs.declared.refusal.Refusal.{Refusal}
use Rattle.result.specs.declared.refusal.Refusal.TheVariants.{Dangling}
use Rattle.result.specs.Rows.{Answered}
use Rattle.records.specs.declared.handles.OpPtr.{OpPtr}
use Rattle.records.specs.Models.{Model}
use Rattle.records.specs.Nodes.{is_table}
use Rattle.records.specs.Views.{op_links}
use Rattle.symbol_table.specs.declared.symbol_tables.SymbolTables.{SymbolTables}
use Rattle.symbol_table.specs.Bodies.{Stands, parent_op}
use Rattle.symbol_table.specs.Carried.{nodes}

-- the operation that stands in the body of the table under the name, and the only one; or none, where none does
pub record OnlyOne (m : Model) (t : OpPtr) (n : ℕ) (op : OpPtr) : Type 0 where
  pub stands : Stands m t n op
  pub alone : (other : OpPtr) → Stands m t n other → other ≡ op

abbrev pub LooksUp : Model → OpPtr → ℕ → Option OpPtr → Type 0
LooksUp m t n (Some op) = OnlyOne m t n op
LooksUp m t n None = (op : OpPtr) → Stands m t n op → ⊥

-- the first table among an operation itself and its parent operations, from the operation up; or none
pub data Nearest (m : Model) : OpPtr → Option OpPtr → Type 0 where
  itself : {op : OpPtr} {x : Option OpPtr} → is_table m op ≡ true → x ≡ Some op → Nearest m op x
  above : {op : OpPtr} {x : Option OpPtr} (up : OpPtr) → is_table m op ≡ false → parent_op m op ≡ Some up → Nearest m up x → Nearest m op x
  nowhere : {op : OpPtr} {x : Option OpPtr} → is_table m op ≡ false → parent_op m op ≡ None → x ≡ None → Nearest m op x

-- the refusal of asking for the nearest table
abbrev pub nearest_rows : Model → OpPtr → List (Refusal × Type 0)
nearest_rows m op = (Dangling, (op_links m).live op ≡ false) ∷ []

-- asking for the nearest table
abbrev pub NearestCall : SymbolTables → OpPtr → Result (Option OpPtr) Refusal → Type 0
NearestCall s op r = Answered (nearest_rows (nodes s) op) (λ x t. Nearest (nodes s) op x) s r s
