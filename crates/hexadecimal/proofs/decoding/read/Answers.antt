use Rattle.std.proofs.Common.{◌∙◌}
use Rattle.hexadecimal.proofs.Reading.{after_err, sofar_all, ends_whole, ends_half}
use Rattle.hexadecimal.proofs.decoding.read.Goals as goal

pub returns-in-Between : goal.returns-in-Between
returns-in-Between c = record {
  bytes = sofar_all _ _ _ _ _ _ _ _ _ c.bytes-test.false c.bytes.invariant ∙ ends_whole _ _ _ c.in-Between.is;
  memory = tt;
  front = c.bytes.invariant.front;
}

pub returns-in-Half-clause-bytes : goal.returns-in-Half-clause-bytes
returns-in-Half-clause-bytes c =
    after_err _ _ _ (sofar_all _ _ _ _ _ _ _ _ _ c.bytes-test.false c.bytes.invariant ∙ ends_half _ _ _ _ _ c.in-Half.is)
