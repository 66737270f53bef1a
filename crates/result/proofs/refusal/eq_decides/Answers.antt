use Rattle.result.proofs.Numbers.{compared, told, as_numbers}
use Rattle.result.proofs.refusal.eq_decides.Goals as goal

pub returns : goal.returns
returns c = record { decides = told; numbers = as_numbers; of_numbers = compared }
