use Rattle.std.proofs.Common.{refl, sym, ap, ◌∙◌}
use Rattle.std.proofs.lemmas.Bool.{true≢false}
use Rattle.mappings.proofs.Reading.{taken_less}
use Rattle.mappings.proofs.mappings.Mappings.retain.Goals as goal

pub names-init : goal.names-init
names-init g c = λ table name kept. refl

pub names-smaller : goal.names-smaller
names-smaller g c = taken_less c.names.self c.take.new.self c.in-Some.key.table c.in-Some.key.name c.take.result c.take.ensures c.in-Some.ensures.0

pub names-preserved : goal.names-preserved
names-preserved g c = λ table name kept.
    c.take.ensures.changed.others table name (λ same. absurd (true≢false (sym kept ∙ ap (g.K.Keeper.keeps c.args.keeper.now) same ∙ c.in-Some.ensures.1)))
    ∙ c.names.invariant table name kept

pub returns : goal.returns
returns g c = record { kept = c.names.invariant; gone = c.in_default.ensures }
