use Rattle.std.proofs.Common.{refl, rules, slice_get, sym, ap, ◌∙◌}
use Rattle.script.specs.Sessions.{operations}
use Rattle.script.proofs.Named.{there}
use Rattle.script.proofs.Tabled.{table_walk_done}
use Rattle.script.proofs.state.State.run_table_walk.Goals as goal

pub returns : goal.returns
returns c =
    let n = c.in_ok-number.ensures in
    let is = ap (λ k. slice_get (operations c.args.self.now) k) (sym n.1) ∙ there _ c.in_ok-table.table c.in_ok-table.ensures in
    table_walk_done c.args.self.now c.args.value.now c.in_ok-table.table _ _ n.0 is refl refl c.clear.ensures c.in_ok-walk_table.ensures.walk _ (search rules)
