-- What the field that walks a symbol table does: its rows of refusals, in the order in which they are tested, and what is shown where none
-- fits.
use Rattle.std.specs.Prelude.{◌≡◌, ℕ, Bool, false, not, List, [], ◌∷◌, Some}
use Rattle.std.specs.List.{filter}
use Rattle.std.specs.Option.{option_map}
use Rattle.result.specs.declared.refusal.Refusal.{Refusal}
use Rattle.orders.specs.declared.walk_result.WalkResult.{WalkResult}
use Rattle.orders.specs.Logs.{Shown, nodes as shown_nodes}
use Rattle.records.specs.declared.handles.OpPtr.{OpPtr}
use Rattle.records.specs.declared.handles.RegionPtr.{RegionPtr}
use Rattle.records.specs.declared.ir_node.IRNode.{IRNode}
use Rattle.records.specs.declared.ir_node.IRNode.TheVariants as node
use Rattle.records.specs.Models.{operation_at}
use Rattle.records.specs.Nodes.{is_table, regions_of}
use Rattle.ir.specs.declared.context.Context.{Context}
use Rattle.ir.specs.Stores.{nodes}
use Rattle.walkers.specs.Configs.{preorder_forward}
use Rattle.walkers.specs.TableWalks.{table_rows}
use Rattle.walkers.specs.Walks.{WalkedIn}
use Rattle.script.specs.declared.node.Node.{Node}
use Rattle.script.specs.declared.node.Close.{Close}
use Rattle.script.specs.declared.node.Close.TheVariants.{End}
use Rattle.script.specs.declared.state.State.{State}
use Rattle.script.specs.Answers.{AnsweredBy, answer_in_table}
use Rattle.script.specs.Linkings.{NoNumber, edit_rows, node_named}
use Rattle.script.specs.Sessions.{operations}
use Rattle.script.specs.Walks.{HaveNumbers}

-- the rows of walking a table
abbrev pub table_walk_rows : State → List ℕ → List (Refusal × Type 0)
table_walk_rows s value = edit_rows (NoNumber value) (node_named (operations s) value) (table_rows s.context)

-- whether a node is an operation that is no table
abbrev pub is_plain : Context → IRNode → Bool
is_plain s (node.Operation op) = not (is_table (nodes s) op)
is_plain s (node.BasicBlock block) = false
is_plain s (node.Region region) = false

-- those of the nodes
abbrev pub plain : Context → List IRNode → List IRNode
plain s ns = filter (is_plain s) ns

-- The table's one region is walked, each node before its children and these from the first to the last, and nested tables are skipped; the
-- line shows the operations met that are no tables, in order. Nothing changes.
pub record FieldTableWalked (s : State) (value : List ℕ) (shown : List Node) (close : Close) (t : State) : Type 0 where
  pub table : OpPtr
  pub names : node_named (operations s) value ≡ Some table
  pub region : RegionPtr
  pub is_region : option_map regions_of (operation_at (nodes s.context) table) ≡ Some (region ∷ [])
  pub log : List (Shown IRNode (Unit {0}))
  pub says : WalkResult (Unit {0})
  pub walked : WalkedIn s.context preorder_forward (node.Region region) log says
  pub answers : AnsweredBy (answer_in_table s.context) log
  pub numbers : HaveNumbers s (plain s.context (shown_nodes log)) shown
  pub closed : close ≡ End
  pub kept : t ≡ s
