use Rattle.forest.specs.Forests.{model}
use Rattle.forest.proofs.Above.{Inside?, to_climb}
use Rattle.forest.proofs.forest.Forest.contains.Given as goal

-- the node lies inside the outer one exactly if the node come to does
abbrev pub invariant-climb : goal.invariant-climb
invariant-climb l =
    (Inside? (model l.self) l.outer l.initial.at → Inside? (model l.self) l.outer l.at)
    × (Inside? (model l.self) l.outer l.at → Inside? (model l.self) l.outer l.initial.at)

abbrev pub decreases-climb : goal.decreases-climb
decreases-climb l = to_climb (model l.self) l.self.acyclic l.at
