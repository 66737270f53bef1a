-- What `==` says of two names in tables at each of its answers.
use Rattle.std.proofs.Common.{◌≡◌, Bool, MatchBool}
use Rattle.std.proofs.lemmas.Bool.{cases_from_iff}
use Rattle.std.proofs.lemmas.Bool.Decides.{Decides-at}
use Rattle.mappings.specs.declared.name_in.NameIn.{NameIn}
use Rattle.mappings.specs.Deciding.{equal, told}

pub told_apart : (a b : NameIn) (r : Bool) → r ≡ equal a b → MatchBool r (a ≡ b) (a ≡ b → ⊥)
told_apart a b r e = cases_from_iff (Decides-at r (equal a b) e (told a b))
