-- Answers without the values with which they end walks.
use Rattle.orders.specs.declared.walk_result.WalkResult.{WalkResult}
use Rattle.orders.specs.declared.walk_result.WalkResult.TheVariants.{Advance, Skip, Break}

-- an answer of a walk without its value
abbrev pub bare : {B : Type 0} → WalkResult B → WalkResult (Unit {0})
bare Advance = Advance
bare Skip = Skip
bare (Break b) = Break tt
