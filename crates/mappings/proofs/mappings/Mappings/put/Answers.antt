use Rattle.std.proofs.Common.{refl}
use Rattle.mappings.specs.Deciding.{name_in}
use Rattle.mappings.proofs.Holding.{put_keeps, puts}
use Rattle.mappings.proofs.mappings.Mappings.put.Goals as goal

pub invariant_of-self-clause-probed : goal.invariant_of-self-clause-probed
invariant_of-self-clause-probed c =
    put_keeps c.args.self.now c.deref_mut.result.now c.insert.new.entries (name_in c.args.table c.args.name) c.args.op c.insert.result c.deref_mut.ensures.value c.deref_mut.ensures.len c.insert.ensures.meaning

pub returns : goal.returns
returns c =
    puts c.args.self.now _ c.deref_mut.result.now c.insert.new.entries c.args.table c.args.name c.args.op c.insert.result c.deref_mut.ensures.value c.deref_mut.ensures.len refl c.insert.ensures.meaning
