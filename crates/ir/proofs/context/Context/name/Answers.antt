use Rattle.ir.proofs.Numbering.{read_name}
use Rattle.ir.proofs.context.Context.name.Goals as goal

pub returns : goal.returns
returns c =
    read_name c.args.self.now c.args.op c.in_ok-operation.operation c.in-Some.number c.name.result c.in_ok-operation.ensures.1 c.in-Some.is c.name.ensures
