use Rattle.script.proofs.Once.{one_line}
use Rattle.script.proofs.laws.line_is_one.Goals as goal

pub returns : goal.returns
returns c = one_line
