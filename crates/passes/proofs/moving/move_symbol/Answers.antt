use Rattle.passes.proofs.Leaving.{comes_out, goes_in}
use Rattle.passes.proofs.moving.move_symbol.Goals as goal

pub returns : goal.returns
returns c =
    let out = comes_out c.args.context.now c.remove.new.context c.args.op c.args.from.op c.remove.result c.in_ok-map_err.ensures.variant c.remove.ensures in
    goes_in c.args.context.now c.remove.new.context c.insert.new.context c.args.op c.args.from.op c.args.to.op c.insert.result c.map_err-2.result out c.insert.ensures c.map_err-2.ensures.cases
