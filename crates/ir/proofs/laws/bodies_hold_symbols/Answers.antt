use Rattle.symbol_table.proofs.Owned.{has_one_body}
use Rattle.ir.proofs.Tabling.{one_of_a_name}
use Rattle.ir.proofs.laws.bodies_hold_symbols.Goals as goal

pub returns-clause-bodies : goal.returns-clause-bodies
returns-clause-bodies c = λ s. has_one_body s.tables

pub returns-clause-names : goal.returns-clause-names
returns-clause-names c = one_of_a_name
