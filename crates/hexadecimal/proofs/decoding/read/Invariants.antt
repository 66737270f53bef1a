use Rattle.std.proofs.Common.{vec_items, vec_len, vec_capacity}
use Rattle.hexadecimal.proofs.Reading.{Sofar}
use Rattle.hexadecimal.proofs.decoding.read.Given as goal

abbrev pub invariant-bytes : goal.invariant-bytes
invariant-bytes l =
    Sofar l.text (vec_items l.initial.out) (vec_len l.initial.out) (vec_capacity l.initial.out)
    l.state l.place (vec_items l.out) (vec_len l.out) (vec_capacity l.out)
