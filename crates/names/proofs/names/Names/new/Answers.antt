use Rattle.std.proofs.Common.{rules}
use Rattle.names.proofs.Holding.{nothing_held}
use Rattle.names.proofs.names.Names.new.Goals as goal

pub invariant_of-result-clause-numbered : goal.invariant_of-result-clause-numbered
invariant_of-result-clause-numbered c = nothing_held _ _ c.in_ok-list.ensures.items (c.in_ok-entries.ensures.items_if_clones_equal (λ y h. search rules))
