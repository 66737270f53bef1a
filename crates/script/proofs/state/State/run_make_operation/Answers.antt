use Rattle.script.proofs.Making.{long_enough}
use Rattle.script.proofs.state.State.run_make_operation.Goals as goal

pub returns : goal.returns
returns c =
    long_enough c.args.self.now c.args.value.now _ c.make_operation.new.self c.in-len2-up.len_at_least c.make_operation.ensures
