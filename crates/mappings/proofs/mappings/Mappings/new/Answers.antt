use Rattle.std.proofs.Common.{rules}
use Rattle.mappings.proofs.Holding.{none_probed, none_held}
use Rattle.mappings.proofs.mappings.Mappings.new.Goals as goal

pub invariant_of-result-clause-probed : goal.invariant_of-result-clause-probed
invariant_of-result-clause-probed c = none_probed _ (c.in_ok-entries.ensures.items_if_clones_equal (λ y h. search rules))

pub returns : goal.returns
returns c = none_held _ (c.in_ok-entries.ensures.items_if_clones_equal (λ y h. search rules))
