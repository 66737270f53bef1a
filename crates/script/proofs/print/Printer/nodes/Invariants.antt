use Rattle.std.proofs.Common.{◌+◌, ◌*◌, ◌≤◌, map, take}
use Rattle.script.specs.Prints.{spaced, node_word}
use Rattle.script.specs.Printers.{Prints}
use Rattle.script.proofs.print.Printer.nodes.Given as goal

abbrev pub invariant-loop-node : goal.invariant-loop-node
invariant-loop-node l = record {
  wrote : Prints l.initial.self (spaced (map node_word (take l.node-index l.nodes))) l.self;
  room : l.self.at ≤ l.initial.self.at + 7 * l.node-index;
}
