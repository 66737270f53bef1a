use Rattle.std.proofs.Common.{ap, slice_set, ◌∙◌, ◌++◌, ◌∷◌, []}
use Rattle.script.proofs.Following.{numbered_more}
use Rattle.script.proofs.numbers.Numbers.number.Goals as goal

pub each-preserved : goal.each-preserved
each-preserved g c =
    numbered_more _ _ _ _ _ _ _ _ _ _ _ c.each.invariant c.each-test.true c.handle-item.is c.give-number.ensures.items c.give-number.ensures.len (c.give-number.ensures.latest ∙ ap (slice_set _ _) c.give-number.ensures.value)
    (c.push.ensures.items ∙ ap (λ n. c.each.nodes.items ++ n ∷ []) (c.node.ensures ∙ ap g.T.NodePtr.node c.give-number.ensures.value))
