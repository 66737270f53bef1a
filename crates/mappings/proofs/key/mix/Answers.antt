use Rattle.std.proofs.Common.{rules}
use Rattle.mappings.specs.Hashing.{mixed}
use Rattle.mappings.proofs.key.mix.Goals as goal

pub returns : goal.returns
unfolding mixed
returns c = search rules
