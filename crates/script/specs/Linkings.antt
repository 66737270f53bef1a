-- What the four fields that link and unlink nodes do: their rows of refusals, in the order in which they are tested, and what
-- is done where none fits.
use Rattle.std.specs.Prelude.{◌≡◌, ℕ, ◌<◌, ◌⊎◌, List, [], ◌∷◌, length, Some, None, Ok, Option, Result, ◌≢◌, slice_index}
use Rattle.std.specs.List.{slice_get}
use Rattle.std.specs.Option.{option_flatten, option_map, option_zip}
use Rattle.result.specs.declared.refusal.Refusal.{Refusal}
use Rattle.result.specs.declared.refusal.Refusal.TheVariants.{BadField, BadOrdinal}
use Rattle.linked_list.specs.declared.spot.Spot.{Spot}
use Rattle.linked_list.specs.declared.spot.Spot.TheVariants.{After, AtBack, AtFront, Before}
use Rattle.records.specs.declared.handles.BlockPtr.{BlockPtr}
use Rattle.records.specs.declared.handles.OpPtr.{OpPtr}
use Rattle.records.specs.declared.handles.RegionPtr.{RegionPtr}
use Rattle.forest.specs.Linkings.{link_block_rows, link_op_rows, unlink_block_rows, unlink_op_rows}
use Rattle.ir.specs.declared.context.Context.{Context}
use Rattle.ir.specs.Stores.{nodes}
use Rattle.ir.specs.Linkings.{InsertBlockCall, InsertOpCall, UnlinkBlockCall, UnlinkOpCall}
use Rattle.script.specs.declared.node.Node.{Node}
use Rattle.script.specs.declared.node.Close.{Close}
use Rattle.script.specs.declared.node.Close.TheVariants.{Nothing}
use Rattle.script.specs.declared.state.State.{State}
use Rattle.script.specs.Fields.{number_at}
use Rattle.script.specs.Sessions.{operations, blocks, regions}

-- the value does not link: it is not a byte that says how, the node's number and the target's, or its how is none of the four, 0 to 3
abbrev pub NoLink : List ℕ → Type 0
NoLink value = (length value ≢ 5) ⊎ (3 < slice_index value 0)

-- the value is no node's number
abbrev pub NoNumber : List ℕ → Type 0
NoNumber value = length value ≢ 2

-- the spots at a target, in the order of the hows
abbrev pub spots : ℕ → List (Spot ℕ ℕ)
spots target = AtFront target ∷ AtBack target ∷ Before target ∷ After target ∷ []

-- the spot that a value asks for, by the target's number
abbrev pub spot_asked : List ℕ → Option (Spot ℕ ℕ)
spot_asked value = slice_get (spots (number_at value 3)) (slice_index value 0)

-- the spot with a handle for the number, where it was given: of a container at the front or the back, else of a node
abbrev pub spot_given : {N C : Type 0} → List N → List C → Spot ℕ ℕ → Option (Spot N C)
spot_given inner outer (AtFront n) = option_map AtFront (slice_get outer n)
spot_given inner outer (AtBack n) = option_map AtBack (slice_get outer n)
spot_given inner outer (Before n) = option_map Before (slice_get inner n)
spot_given inner outer (After n) = option_map After (slice_get inner n)

-- the node and the spot that a value names, where both numbers were given
abbrev pub link_named : {N C : Type 0} → List N → List C → List ℕ → Option (N × Spot N C)
link_named inner outer value =
    option_zip (slice_get inner (number_at value 1)) (option_flatten (option_map (spot_given inner outer) (spot_asked value)))

-- the node that a value names, where its number was given
abbrev pub node_named : {N : Type 0} → List N → List ℕ → Option N
node_named inner value = slice_get inner (number_at value 0)

-- the rows of the call on what the value names, if it names something
abbrev pub rows_of : {A : Type 0} → Option A → (A → List (Refusal × Type 0)) → List (Refusal × Type 0)
rows_of None rows = []
rows_of (Some a) rows = rows a

-- the rows of a field that edits links: its value is bad, a number in it was not given yet, and then those of the call
abbrev pub edit_rows : {A : Type 0} → Type 0 → Option A → (A → List (Refusal × Type 0)) → List (Refusal × Type 0)
edit_rows bad named rows = (BadField, bad) ∷ (BadOrdinal, named ≡ None) ∷ rows_of named rows

-- the store does the call on what the value names; no node is numbered and none is shown
pub record Edited {A : Type 0} (named : Option A) (call : A → Result (Unit {0}) Refusal → Context → Type 0) (s : State) (shown : List Node) (close : Close) (t : State) : Type 0 where
  pub what : A
  pub names : named ≡ Some what
  pub stored : call what (Ok tt) t.context
  pub operations_stay : operations t ≡ operations s
  pub blocks_stay : blocks t ≡ blocks s
  pub regions_stay : regions t ≡ regions s
  pub none_shown : shown ≡ []
  pub closed : close ≡ Nothing

-- the operation and its spot in a block, by the numbers of a session
abbrev pub operation_link : State → List ℕ → Option (OpPtr × Spot OpPtr BlockPtr)
operation_link s value = link_named (operations s) (blocks s) value

-- the rows of linking an operation
abbrev pub operation_link_rows : State → List ℕ → List (Refusal × Type 0)
operation_link_rows s value = edit_rows (NoLink value) (operation_link s value) (λ l. link_op_rows (nodes s.context) l.0 l.1)

-- the operation is linked
abbrev pub OperationFieldLinked : State → List ℕ → List Node → Close → State → Type 0
OperationFieldLinked s value = Edited (operation_link s value) (λ l. InsertOpCall s.context l.0 l.1) s

-- the block and its spot in a region
abbrev pub block_link : State → List ℕ → Option (BlockPtr × Spot BlockPtr RegionPtr)
block_link s value = link_named (blocks s) (regions s) value

-- the rows of linking a block
abbrev pub block_link_rows : State → List ℕ → List (Refusal × Type 0)
block_link_rows s value = edit_rows (NoLink value) (block_link s value) (λ l. link_block_rows (nodes s.context) l.0 l.1)

-- the block is linked
abbrev pub BlockFieldLinked : State → List ℕ → List Node → Close → State → Type 0
BlockFieldLinked s value = Edited (block_link s value) (λ l. InsertBlockCall s.context l.0 l.1) s

-- the rows of unlinking an operation
abbrev pub operation_unlink_rows : State → List ℕ → List (Refusal × Type 0)
operation_unlink_rows s value = edit_rows (NoNumber value) (node_named (operations s) value) (unlink_op_rows (nodes s.context))

-- the operation is unlinked
abbrev pub OperationFieldUnlinked : State → List ℕ → List Node → Close → State → Type 0
OperationFieldUnlinked s value = Edited (node_named (operations s) value) (UnlinkOpCall s.context) s

-- the rows of unlinking a block
abbrev pub block_unlink_rows : State → List ℕ → List (Refusal × Type 0)
block_unlink_rows s value = edit_rows (NoNumber value) (node_named (blocks s) value) (unlink_block_rows (nodes s.context))

-- the block is unlinked
abbrev pub BlockFieldUnlinked : State → List ℕ → List Node → Close → State → Type 0
BlockFieldUnlinked s value = Edited (node_named (blocks s) value) (UnlinkBlockCall s.context) s
