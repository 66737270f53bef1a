use Rattle.ir.proofs.Rowing.{made_all, none_fits}
use Rattle.ir.proofs.context.Context.make_operation.Goals as goal

pub returns : goal.returns
returns c =
    let a = c.in_ok-admitted in (
      none_fits c.args.self.now c.args.kind c.args.regions c.args.name.now a.admitted a.ensures,
      made_all c.args.self.now c.args.kind c.args.regions c.args.name.now a.admitted a.ensures c.make_admitted.result c.make_admitted.new.self c.make_admitted.ensures,
    )
