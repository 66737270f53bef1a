use Rattle.identifier.specs.Deciding.{told, as_texts, compared}
use Rattle.identifier.proofs.key.eq_decides.Goals as goal

pub returns : goal.returns
returns c = record { decides = told; texts = as_texts; of_texts = compared }
