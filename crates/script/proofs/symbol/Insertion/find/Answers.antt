use Rattle.script.proofs.Named.{second_missing}
use Rattle.script.proofs.symbol.Insertion.find.Goals as goal

pub returns-in_err-point : goal.returns-in_err-point
returns-in_err-point c = second_missing _ _ _ _ _ c.in_ok-pair.ensures c.in_err-point.ensures c.from_residual-in_err-point.ensures.1
