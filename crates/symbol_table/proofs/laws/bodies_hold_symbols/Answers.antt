use Rattle.symbol_table.proofs.Owned.{has_one_body, one_of_a_name}
use Rattle.symbol_table.proofs.laws.bodies_hold_symbols.Goals as goal

pub returns : goal.returns
returns c = record { bodies = has_one_body; names = one_of_a_name }
