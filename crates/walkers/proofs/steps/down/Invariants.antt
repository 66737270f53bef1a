use Rattle.std.proofs.Common.{◌≡◌, ◌++◌, ◌-◌, Bool}
use Rattle.trees.specs.Climbs.{Within}
use Rattle.orders.specs.Places.{depth, order, rest}
use Rattle.records.specs.declared.ir_node.IRNode.{IRNode}
use Rattle.ir.specs.Stores.{nodes}
use Rattle.walkers.specs.Links.{links}
use Rattle.walkers.proofs.steps.down.Given as goal

-- for every root, since the loop does not read it
abbrev pub invariant-down : goal.invariant-down
invariant-down l =
    (root : IRNode) → Within (links (nodes l.context) l.config).up root l.initial.node
    → Within (links (nodes l.context) l.config).up root l.node
    × ((S : IRNode → Bool) → order (links (nodes l.context) l.config) S l.initial.node ++ rest (links (nodes l.context) l.config) root S l.initial.node
    ≡ order (links (nodes l.context) l.config) S l.node ++ rest (links (nodes l.context) l.config) root S l.node)

abbrev pub decreases-down : goal.decreases-down
decreases-down l = (links (nodes l.context) l.config).limit - depth (links (nodes l.context) l.config) l.node
