use Rattle.std.proofs.Common.{sym, ◌∙◌}
use Rattle.walkers.proofs.Tabling.{only_region}
use Rattle.walkers.proofs.table_walk.table_region.Goals as goal

pub returns : goal.returns
returns c =
    only_region c.args.context.now c.args.table c.in_ok-operation.operation (sym c.in_ok-operation.was ∙ c.get.ensures) c.if-not-operation.false c.get-2.result c.get-2.ensures
