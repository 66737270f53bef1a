use Rattle.std.proofs.Common.{◌≡◌, Bool}
use Rattle.trees.specs.Climbs.{Within}
use Rattle.orders.specs.Places.{depth, rest}
use Rattle.records.specs.declared.ir_node.IRNode.{IRNode}
use Rattle.ir.specs.Stores.{nodes}
use Rattle.walkers.specs.Links.{links}
use Rattle.walkers.proofs.steps.climb.Given as goal

abbrev pub invariant-climb : goal.invariant-climb
invariant-climb l =
    Within (links (nodes l.context) l.config).up l.root l.initial.node
    → Within (links (nodes l.context) l.config).up l.root l.node
    × ((S : IRNode → Bool) → rest (links (nodes l.context) l.config) l.root S l.initial.node ≡ rest (links (nodes l.context) l.config) l.root S l.node)

abbrev pub decreases-climb : goal.decreases-climb
decreases-climb l = depth (links (nodes l.context) l.config) l.node
