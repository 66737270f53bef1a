-- The children of a node in the direction that a configuration gives them.
use Rattle.std.specs.Prelude.{List, reverse}
use Rattle.records.specs.declared.ir_node.IRNode.{IRNode}
use Rattle.records.specs.Models.{Model}
use Rattle.records.specs.Children.{Lists, children}
use Rattle.walkers.specs.declared.config.Direction.{Direction}
use Rattle.walkers.specs.declared.config.Direction.TheVariants.{Forward, Reverse}
use Rattle.walkers.specs.declared.config.WalkConfig.{WalkConfig}
use Rattle.walkers.specs.Configs.{as_parent}

-- a list in a direction
abbrev pub directed : Direction → List IRNode → List IRNode
directed Forward ns = ns
directed Reverse ns = reverse ns

-- the children of a node in the direction that a configuration gives them
abbrev pub directed_children : WalkConfig → (m : Model) → Lists m → IRNode → List IRNode
directed_children k m l n = directed (as_parent k n).1 (children m l n)
