-- How nodes get their numbers.
use Rattle.std.specs.Prelude.{◌≡◌, ℕ, suc, ◌+◌, List, [], ◌∷◌, ◌++◌, map, length, vec_items, vec_len, slice_set}
use Rattle.std.specs.List.{range_with_len}
use Rattle.std.specs.Option.{option_to_list}
use Rattle.records.specs.declared.making.MadeOperation.{MadeOperation}
use Rattle.script.specs.declared.node.Node.{Node}
use Rattle.script.specs.declared.node.Node.TheVariants.{Operation, Block, Region}
use Rattle.script.specs.declared.numbers.Numbers.{Numbers}
use Rattle.script.specs.declared.state.State.{State}
use Rattle.script.specs.Sessions.{operations, blocks, regions, next_operation, next_block, next_region}

-- so many nodes of one kind, numbered from n on
abbrev pub nodes_from : (ℕ → Node) → ℕ → ℕ → List Node
nodes_from kind n size = map kind (range_with_len n size)

-- the numbers given last at each place, after these handles got the numbers from n on
abbrev pub latest_from : {T : Type 0} → (T → ℕ) → ℕ → List T → List ℕ → List ℕ
latest_from place n [] latest = latest
latest_from place n (x ∷ xs) latest = latest_from place (suc n) xs (slice_set latest (place x) n)

-- the handles new get the next numbers of their kind, and their nodes stand behind those listed before
pub record Numbered {T : Type 0} (kind : ℕ → Node) (place : T → ℕ) (new : List T) (before after : Numbers T) (nodes nodes' : List Node) : Type 0 where
  pub items : vec_items after.handles ≡ vec_items before.handles ++ new
  pub len : vec_len after.handles ≡ vec_len before.handles + length new
  pub latest : vec_items after.latest ≡ latest_from place (vec_len before.handles) new (vec_items before.latest)
  pub more : length nodes' ≡ length nodes + length new
  pub shown : nodes' ≡ nodes ++ nodes_from kind (vec_len before.handles) (length new)

-- what was made with an operation gets the next numbers, and is shown: the operation, its regions in order and its body
pub record MadeNumbers (s : State) (made : MadeOperation) (nodes : List Node) (t : State) : Type 0 where
  pub operation : operations t ≡ operations s ++ (made.operation ∷ [])
  pub own_regions : regions t ≡ regions s ++ made.regions
  pub body : blocks t ≡ blocks s ++ option_to_list made.body
  pub shown : nodes
      ≡ nodes_from Operation (next_operation s) 1
      ++ (nodes_from Region (next_region s) (length made.regions)
      ++ nodes_from Block (next_block s) (length (option_to_list made.body)))
