use Rattle.records.specs.declared.handles.OpPtr.{OpPtr}
use Rattle.std.proofs.Common.{Option}
use Rattle.symbol_table.specs.Carried.{nodes}
use Rattle.symbol_table.proofs.Findings.{Nearest?, op_node}
use Rattle.forest.proofs.Above.{to_climb}
use Rattle.symbol_table.proofs.symbol_tables.SymbolTables.nearest_symbol_table.Given as goal

-- what is nearest to the operation come to is nearest to the first
abbrev pub invariant-climb : goal.invariant-climb
invariant-climb l = (x : Option OpPtr) → Nearest? (nodes l.self) l.at x → Nearest? (nodes l.self) l.initial.at x

abbrev pub decreases-climb : goal.decreases-climb
decreases-climb l = to_climb (nodes l.self) l.self.forest.acyclic (op_node l.at)
