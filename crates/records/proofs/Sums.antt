-- A kind is told by its sum. Assumes nothing.
use Rattle.std.proofs.Common.{◌≡◌, ℕ, ◌+◌, ◌/◌, ◌%◌, Bool, true, false, eqb, sym, refl, ap, ◌∙◌}
use Rattle.records.specs.declared.kind.Kind.{Kind}
use Rattle.records.specs.Shapes.{kind_sum, worth}

abbrev of_sum : ℕ → Kind
of_sum n = record { table = eqb (n % 2) 1; symbol = eqb (n / 2 % 2) 1; terminator = eqb (n / 4) 1 }

back : (t s x : Bool) → of_sum (worth 1 t + worth 2 s + worth 4 x) ≡ record { table = t; symbol = s; terminator = x }
back true true true = refl
back true true false = refl
back true false true = refl
back true false false = refl
back false true true = refl
back false true false = refl
back false false true = refl
back false false false = refl

pub one_kind : (j k : Kind) → kind_sum j ≡ kind_sum k → j ≡ k
one_kind j k e = sym (back j.table j.symbol j.terminator) ∙ ap of_sum e ∙ back k.table k.symbol k.terminator
