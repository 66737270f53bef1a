-- What is always true of the tables of a store.
use Rattle.std.specs.Prelude.{◌≡◌, ℕ, true, List, [], ◌∷◌, Some}
use Rattle.std.specs.Option.{option_map}
use Rattle.linked_list.specs.Links.{Holds}
use Rattle.records.specs.declared.handles.BlockPtr.{BlockPtr}
use Rattle.records.specs.declared.handles.OpPtr.{OpPtr}
use Rattle.records.specs.declared.handles.RegionPtr.{RegionPtr}
use Rattle.records.specs.Models.{Model, operation_at}
use Rattle.records.specs.Nodes.{is_table, regions_of}
use Rattle.records.specs.Views.{block_links, op_links}
use Rattle.symbol_table.specs.declared.symbol_tables.SymbolTables.{SymbolTables}
use Rattle.symbol_table.specs.Bodies.{Stands, body_in, name_of}
use Rattle.symbol_table.specs.Carried.{nodes}

-- The operation has one region, whose list of blocks is the body alone, whichever lists the links describe. What stands in the table's
-- body under a name is the child of the body that has the name.
pub record OneBody (m : Model) (t : OpPtr) : Type 0 where
  pub region : RegionPtr
  pub body : BlockPtr
  pub regions : option_map regions_of (operation_at m t) ≡ Some (region ∷ [])
  pub is_body : body_in m t ≡ Some body
  pub alone : (L : RegionPtr → List BlockPtr) → Holds (block_links m) L → L region ≡ body ∷ []
  pub child : (n : ℕ) (op : OpPtr) → Stands m t n op → ((op_links m).within op ≡ Some body) × (name_of m op ≡ Some n)
  pub stands : (n : ℕ) (op : OpPtr) → (op_links m).within op ≡ Some body → name_of m op ≡ Some n → Stands m t n op

-- every table has its body
abbrev pub HaveBodies : Type 0
HaveBodies = (s : SymbolTables) (t : OpPtr) → is_table (nodes s) t ≡ true → OneBody (nodes s) t

-- no body holds two of one name
abbrev pub OneOfAName : Type 0
OneOfAName = (s : SymbolTables) (t : OpPtr) (n : ℕ) (op other : OpPtr) → Stands (nodes s) t n op → Stands (nodes s) t n other → op ≡ other
