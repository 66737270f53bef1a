-- What the field that walks does: its rows of refusals, in the order in which they are tested, and what is shown where none fits.
use Rattle.std.specs.Prelude.{◌≡◌, ℕ, ◌+◌, ◌/◌, ◌%◌, ◌<◌, ◌≤◌, ◌⊎◌, List, [], ◌∷◌, length, Some, None, Option, ◌≢◌, slice_index, zero, suc}
use Rattle.std.specs.List.{slice_get}
use Rattle.std.specs.Option.{option_flatten, option_map, option_zip}
use Rattle.result.specs.declared.refusal.Refusal.{Refusal}
use Rattle.orders.specs.declared.walk_result.WalkResult.{WalkResult}
use Rattle.orders.specs.declared.walk_result.WalkResult.TheVariants as say
use Rattle.orders.specs.Logs.{Shown, nodes as shown_nodes}
use Rattle.records.specs.declared.ir_node.IRNode.{IRNode}
use Rattle.records.specs.declared.ir_node.IRNode.TheVariants as node
use Rattle.walkers.specs.declared.config.Direction.{Direction}
use Rattle.walkers.specs.declared.config.Direction.TheVariants.{Forward, Reverse}
use Rattle.walkers.specs.declared.config.Order.{Order}
use Rattle.walkers.specs.declared.config.Order.TheVariants.{PreOrder, PostOrder}
use Rattle.walkers.specs.declared.config.WalkConfig.{WalkConfig}
use Rattle.walkers.specs.Walks.{WalkedIn, root_rows}
use Rattle.script.specs.declared.node.Node.{Node}
use Rattle.script.specs.declared.node.Node.TheVariants.{Operation, Block, Region}
use Rattle.script.specs.declared.node.Close.{Close}
use Rattle.script.specs.declared.node.Close.TheVariants as close
use Rattle.script.specs.declared.state.State.{State}
use Rattle.script.specs.declared.steering.Steering.{Steering}
use Rattle.script.specs.Answers.{Steered}
use Rattle.script.specs.Fields.{number_at}
use Rattle.script.specs.Linkings.{edit_rows}
use Rattle.script.specs.Sessions.{operations, blocks, regions}

-- the nodes with a number, in the order of their kinds' bytes
abbrev pub kinds : ℕ → List Node
kinds n = Operation n ∷ Block n ∷ Region n ∷ []

-- the node that a kind byte at a place and the number after it ask for; none for a byte past the kinds
abbrev pub node_asked : List ℕ → ℕ → Option Node
node_asked value place = slice_get (kinds (number_at value (place + 1))) (slice_index value place)

-- a value that walks has ten bytes: the root, of one of three kinds, a configuration of six bits, and two nodes, of which the kind 3
-- says that there is none
abbrev pub NoWalk : List ℕ → Type 0
NoWalk value =
    (length value ≢ 10) ⊎ ((2 < slice_index value 0) ⊎ ((63 < slice_index value 3) ⊎ ((3 < slice_index value 4) ⊎ (3 < slice_index value 7))))

-- two bits: the lower says PostOrder, and the higher Reverse
abbrev pub pair_of : ℕ → Order × Direction
pair_of zero = (PreOrder, Forward)
pair_of (suc zero) = (PostOrder, Forward)
pair_of (suc (suc zero)) = (PreOrder, Reverse)
pair_of (suc (suc (suc n))) = (PostOrder, Reverse)

-- the configuration that a value asks for, from the lowest bits on
abbrev pub config_asked : List ℕ → WalkConfig
config_asked value = record {
  regions_in_op = pair_of (slice_index value 3 % 4);
  ops_in_block = pair_of (slice_index value 3 / 4 % 4);
  blocks_in_region = pair_of (slice_index value 3 / 16);
}

-- the node of a kind that has a number, where it was given
abbrev pub node_given : State → Node → Option IRNode
node_given s (Operation n) = option_map node.Operation (slice_get (operations s) n)
node_given s (Block n) = option_map node.BasicBlock (slice_get (blocks s) n)
node_given s (Region n) = option_map node.Region (slice_get (regions s) n)

-- the same of a node that may be none
abbrev pub maybe_given : State → Option Node → Option (Option IRNode)
maybe_given s None = Some None
maybe_given s (Some n) = option_map Some (node_given s n)

-- the nodes that are answered Skip and Break, where their numbers were given
abbrev pub steering_given : State → Option Node → Option Node → Option Steering
steering_given s skip end = option_map (λ p. record { skip = p.0; end = p.1 }) (option_zip (maybe_given s skip) (maybe_given s end))

-- what a value names: the root, and the nodes that are answered Skip and Break
abbrev pub walk_named : State → List ℕ → Option (IRNode × Steering)
walk_named s value =
    option_zip (option_flatten (option_map (node_given s) (node_asked value 0))) (steering_given s (node_asked value 4) (node_asked value 7))

-- the rows of a walk; that a node is not live is tested of the root alone
abbrev pub walk_rows : State → List ℕ → List (Refusal × Type 0)
walk_rows s value = edit_rows (NoWalk value) (walk_named s value) (λ w. root_rows s.context w.0)

-- a node's number
abbrev pub number_in : Node → ℕ
number_in (Operation n) = n
number_in (Block n) = n
number_in (Region n) = n

-- the node has this kind and this number, and got none later
pub record HasNumber (s : State) (x : IRNode) (n : Node) : Type 0 where
  pub given : node_given s n ≡ Some x
  pub last : (m : Node) → node_given s m ≡ Some x → number_in m ≤ number_in n

-- one after another, the nodes have these kinds and numbers
abbrev pub HaveNumbers : State → List IRNode → List Node → Type 0
HaveNumbers s [] [] = Unit {0}
HaveNumbers s [] (n ∷ ns) = ⊥
HaveNumbers s (x ∷ xs) [] = ⊥
HaveNumbers s (x ∷ xs) (n ∷ ns) = HasNumber s x n × HaveNumbers s xs ns

-- the word that closes the line of a walk
abbrev pub close_of : WalkResult (Unit {0}) → Close
close_of say.Advance = close.End
close_of say.Skip = close.End
close_of (say.Break b) = close.Break

-- The store is walked from the root in the configuration that is asked for, and each node is answered as is asked; the line shows the
-- nodes that the walk showed, in its order. Nothing changes.
pub record FieldWalked (s : State) (value : List ℕ) (shown : List Node) (close : Close) (t : State) : Type 0 where
  pub asked : IRNode × Steering
  pub names : walk_named s value ≡ Some asked
  pub log : List (Shown IRNode (Unit {0}))
  pub says : WalkResult (Unit {0})
  pub walked : WalkedIn s.context (config_asked value) asked.0 log says
  pub answers : Steered asked.1.skip asked.1.end log
  pub numbers : HaveNumbers s (shown_nodes log) shown
  pub closed : close ≡ close_of says
  pub kept : t ≡ s
