-- The mappings held: which operation each table has under each name.
use Rattle.std.specs.Prelude.{ℕ, List, length, Option}
use Rattle.std.specs.List.{filter_map}
use Rattle.std.specs.Map.{lookup}
use Rattle.std.specs.Vec.{vec_items}
use Rattle.records.specs.declared.handles.OpPtr.{OpPtr}
use Rattle.table.specs.Maps.{MapEntry}
use Rattle.mappings.specs.declared.mappings.Mappings.{Mappings}
use Rattle.mappings.specs.declared.name_in.NameIn.{NameIn}
use Rattle.mappings.specs.Deciding.{equal, name_in}

-- the names in tables that use entries, each with its operation
abbrev pub pairs : List (MapEntry NameIn OpPtr) → List (NameIn × OpPtr)
pairs es = filter_map (λ (e : MapEntry NameIn OpPtr). e) es

-- the mappings held: names in tables, each with its operation
abbrev pub held : Mappings → List (NameIn × OpPtr)
held m = pairs (vec_items m.entries)

-- how many mappings are held
abbrev pub held_count : Mappings → ℕ
held_count m = length (held m)

-- the operation that a table has under a name, or none
abbrev pub mapped : Mappings → OpPtr → ℕ → Option OpPtr
mapped m table name = lookup (equal (name_in table name)) (held m)
