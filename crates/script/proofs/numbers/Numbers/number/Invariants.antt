use Rattle.std.proofs.Common.{take}
use Rattle.script.specs.Numbers.{Numbered}
use Rattle.script.proofs.numbers.Numbers.number.Given as goal

abbrev pub invariant-each : goal.invariant-each
invariant-each g l = Numbered g.T.NodePtr.node g.T.NodePtr.place_of (take l.handle-index l.made) l.initial.self l.self l.initial.nodes.items l.nodes.items
