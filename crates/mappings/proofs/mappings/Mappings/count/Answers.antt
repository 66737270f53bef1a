use Rattle.std.proofs.Common.{sym, ◌∙◌, arith}
use Rattle.mappings.proofs.Reading.{none_counted, counted_used, counted_free, counted_all}
use Rattle.mappings.proofs.mappings.Mappings.count.Goals.{then-is_some, else-is_some}
use Rattle.mappings.proofs.mappings.Mappings.count.Goals as goal

pub loop-entry-init : goal.loop-entry-init
loop-entry-init c = record { counted = none_counted c.deref-entry-items.result.now; few = omega arith }

pub loop-entry-preserved : goal.loop-entry-preserved
loop-entry-preserved c =
    let es = c.deref-entry-items.result.now in
    let i = c.loop-entry.entry-index in
    let n = c.loop-entry.count in
    elim c.if-is_some.branch [
      | then-is_some w ↦ record { counted = w.count-is ∙ counted_used es i n c.loop-entry-test.true c.loop-entry.invariant.counted (sym c.is_some.ensures ∙ w.if-is_some.true); few = omega arith }
      | else-is_some w ↦ record { counted = w.count-is ∙ counted_free es i n c.loop-entry-test.true c.loop-entry.invariant.counted (sym c.is_some.ensures ∙ w.if-is_some.false); few = omega arith }
    ]

pub returns-clause-value : goal.returns-clause-value
returns-clause-value c = counted_all c.args.self.now c.deref-entry-items.result.now c.loop-entry.entry-index c.loop-entry.count c.deref-entry-items.ensures.value c.loop-entry-test.false c.loop-entry.invariant.counted
