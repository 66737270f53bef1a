-- What a store means: its nodes as tables of records, the names that it holds in the order of their numbers, and what its symbol
-- tables have under which name.
use Rattle.std.specs.Prelude.{◌≡◌, ℕ, List, [], Some, None, Option, slice_index_or}
use Rattle.records.specs.declared.operation.Operation.{Operation}
use Rattle.forest.specs.Forests.{model}
use Rattle.forest.specs.Calls.{Fresh}
use Rattle.records.specs.Models.{Model}
use Rattle.names.specs.Held.{held}
use Rattle.mappings.specs.declared.mappings.Mappings.{Mappings}
use Rattle.mappings.specs.Held.{held as mappings_held}
use Rattle.ir.specs.declared.context.Context.{Context}

-- the nodes of a store
abbrev pub nodes : Context → Model
nodes s = model s.tables.forest

-- the names that a store holds
abbrev pub names : Context → List (List ℕ)
names s = held s.names

-- which operation each table of a store has under the number of a name
abbrev pub mappings : Context → Mappings
mappings s = s.tables.mappings

-- a store in which nothing was made, nothing is mapped and no name is held
pub record Built (s : Context) : Type 0 where
  pub fresh : Fresh s.tables.forest
  pub unmapped : mappings_held (mappings s) ≡ []
  pub nameless : names s ≡ []

-- the name with a number, if there is one
abbrev pub name_at : List (List ℕ) → Option ℕ → Option (List ℕ)
name_at held None = None
name_at held (Some i) = Some (slice_index_or held i [])

-- the name of an operation
abbrev pub name_of : List (List ℕ) → Operation → Option (List ℕ)
name_of held o = name_at held o.name
