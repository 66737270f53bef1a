-- What the two fields that look up a name do: their rows of refusals, in the order in which they are tested, and what is shown where
-- none fits.
use Rattle.std.specs.Prelude.{◌≡◌, ℕ, ◌<◌, List, [], ◌∷◌, length, drop, Some, None, Ok, Option, Result}
use Rattle.result.specs.declared.refusal.Refusal.{Refusal}
use Rattle.records.specs.declared.handles.OpPtr.{OpPtr}
use Rattle.records.specs.declared.ir_node.IRNode.TheVariants as node
use Rattle.ir.specs.Stores.{nodes}
use Rattle.ir.specs.Tables.{LookupCall, NearestLookupCall, lookup_rows, nearest_lookup_rows}
use Rattle.script.specs.declared.node.Node.{Node}
use Rattle.script.specs.declared.node.Close.{Close}
use Rattle.script.specs.declared.node.Close.TheVariants.{Absent, Nothing}
use Rattle.script.specs.declared.state.State.{State}
use Rattle.script.specs.Linkings.{edit_rows, node_named}
use Rattle.script.specs.Sessions.{operations}
use Rattle.script.specs.Walks.{HaveNumbers}

-- the value is too short for an operation's number
abbrev pub NoLookup : List ℕ → Type 0
NoLookup value = length value < 2

-- the name after the number
abbrev pub name_sought : List ℕ → List ℕ
name_sought value = drop 2 value

-- a lookup shows the operation that it found, with its number, or tells that there is none
abbrev pub Tells : State → Option OpPtr → List Node → Close → Type 0
Tells s None shown close = (shown ≡ []) × (close ≡ Absent)
Tells s (Some op) shown close = HaveNumbers s (node.Operation op ∷ []) shown × (close ≡ Nothing)

-- A name is looked up from the operation that a value names, and the line tells what is found. Nothing changes.
pub record LookedUp (named : Option OpPtr) (call : OpPtr → Result (Option OpPtr) Refusal → Type 0) (s : State) (shown : List Node) (close : Close) (t : State) : Type 0 where
  pub op : OpPtr
  pub names : named ≡ Some op
  pub found : Option OpPtr
  pub answers : call op (Ok found)
  pub tells : Tells s found shown close
  pub kept : t ≡ s

-- the rows of looking up a name in a table
abbrev pub table_lookup_rows : State → List ℕ → List (Refusal × Type 0)
table_lookup_rows s value =
    edit_rows (NoLookup value) (node_named (operations s) value) (λ t. lookup_rows (nodes s.context) t (name_sought value))

-- the name is looked up in the table
abbrev pub LookedUpInTable : State → List ℕ → List Node → Close → State → Type 0
LookedUpInTable s value = LookedUp (node_named (operations s) value) (λ t. LookupCall s.context t (name_sought value)) s

-- the rows of looking up a name in the table that is nearest to an operation
abbrev pub nearest_table_lookup_rows : State → List ℕ → List (Refusal × Type 0)
nearest_table_lookup_rows s value =
    edit_rows (NoLookup value) (node_named (operations s) value) (λ op. nearest_lookup_rows (nodes s.context) op (name_sought value))

-- the name is looked up in the table that is nearest to the operation
abbrev pub LookedUpInNearest : State → List ℕ → List Node → Close → State → Type 0
LookedUpInNearest s value = LookedUp (node_named (operations s) value) (λ op. NearestLookupCall s.context op (name_sought value)) s
