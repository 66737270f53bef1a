-- How a node is listed.
use Rattle.std.specs.Prelude.{◌≡◌, ◌==◌, cond, List, [], ◌∷◌, ◌++◌, length, Some, None, Option, vec_items, slice_index}
use Rattle.records.specs.declared.handles.OpPtr.{OpPtr}
use Rattle.records.specs.declared.ir_node.IRNode.{IRNode}
use Rattle.records.specs.declared.ir_node.IRNode.TheVariants as node
use Rattle.script.specs.declared.node.Node.{Node}
use Rattle.script.specs.declared.node.Node.TheVariants.{Operation, Block, Region}
use Rattle.script.specs.declared.node.Close.{Close}
use Rattle.script.specs.declared.node.Close.TheVariants.{Absent, Nothing}
use Rattle.script.specs.declared.state.State.{State}

-- a node with the number given last at its place
abbrev pub shown_as : State → IRNode → Node
shown_as s (node.Operation op) = Operation (slice_index (vec_items s.operations.latest) op.handle.place)
shown_as s (node.BasicBlock block) = Block (slice_index (vec_items s.blocks.latest) block.handle.place)
shown_as s (node.Region region) = Region (slice_index (vec_items s.regions.latest) region.handle.place)

-- what a lookup found, listed with the number given last at its place, and what closes the line
abbrev pub ToldAs : State → Option OpPtr → List Node → Close → Type 0
ToldAs s None shown close = (shown ≡ []) × (close ≡ Absent)
ToldAs s (Some op) shown close = (shown ≡ shown_as s (node.Operation op) ∷ []) × (close ≡ Nothing)

-- one more node in a list of at most 1,024
abbrev pub more_shown : List Node → Node → List Node
more_shown nodes n = cond (length nodes == 1024) nodes (nodes ++ n ∷ [])
