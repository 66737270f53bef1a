use Rattle.std.proofs.Common.{sym, ◌∙◌, arith}
use Rattle.std.proofs.lemmas.Bool.{true≢false}
use Rattle.mappings.proofs.Reading.{one_named, none_named, none_more_free, none_more_used}
use Rattle.mappings.proofs.mappings.Mappings.unkept.Goals as goal

pub loop-entry-init : goal.loop-entry-init
loop-entry-init g c = record { none = λ i k op h e out. absurd (omega arith) }

pub returns-then-not-is_kept : goal.returns-then-not-is_kept
returns-then-not-is_kept g c = (
  one_named c.args.self.now c.deref-entry-items.result.now c.loop-entry.entry-index c.in-Some.key c.in-Some.field-0-1 c.deref-entry-items.ensures.value c.in-Some.is,
  sym c.is_kept.ensures ∙ c.if-not-is_kept.true,
)

pub returns : goal.returns
returns g c = none_named (g.K.Keeper.keeps c.args.keeper.now) c.args.self.now c.deref-entry-items.result.now c.loop-entry.entry-index c.deref-entry-items.ensures.value c.loop-entry-test.false c.loop-entry.invariant

pub loop-entry-preserved-in_default : goal.loop-entry-preserved-in_default
loop-entry-preserved-in_default g c = none_more_free (g.K.Keeper.keeps c.args.keeper.now) c.deref-entry-items.result.now c.loop-entry.entry-index c.loop-entry.invariant c.in_default.is

pub loop-entry-preserved : goal.loop-entry-preserved
loop-entry-preserved g c = none_more_used (g.K.Keeper.keeps c.args.keeper.now) c.deref-entry-items.result.now c.loop-entry.entry-index c.in-Some.key c.in-Some.field-0-1 c.loop-entry.invariant c.in-Some.is
    (λ out. true≢false (sym c.if-not-is_kept.false ∙ c.is_kept.ensures ∙ out))
