-- How the map of the names follows their list.
use Rattle.std.specs.Prelude.{◌≡◌, ℕ, List, length, Some}
use Rattle.table.specs.Maps.{MapEntry, Maps, Probed, used}
use Rattle.identifier.specs.declared.identifier.Identifier.{Identifier}
use Rattle.identifier.specs.Identifiers.{identifier_hash}
use Rattle.names.specs.Places.{Stands}

-- the map gives an identifier the number i if, and only if, it stands at the place i of the list; so none stands there twice
pub record Numbered (list : List Identifier) (entries : List (MapEntry Identifier ℕ)) : Type 0 where
  pub probed : Probed identifier_hash entries
  pub counted : used entries ≡ length list
  pub tells : (n : Identifier) (i : ℕ) → Maps entries n (Some i) → Stands list i n
  pub told : (n : Identifier) (i : ℕ) → Stands list i n → Maps entries n (Some i)
