use Rattle.arena.proofs.Shelving.{read_at}
use Rattle.arena.proofs.arena.Arena.record.Goals as goal

pub returns : goal.returns
returns g c = read_at c.args.self.now c.args.h c.index.result.now c.requires c.index.ensures
