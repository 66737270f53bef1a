use Rattle.std.proofs.Common.{refl}
use Rattle.mappings.specs.Deciding.{name_in}
use Rattle.mappings.proofs.Holding.{take_keeps, takes}
use Rattle.mappings.proofs.mappings.Mappings.take.Goals as goal

pub invariant_of-self-clause-probed : goal.invariant_of-self-clause-probed
invariant_of-self-clause-probed c =
    take_keeps c.args.self.now c.deref_mut.result.now c.remove.new.entries (name_in c.args.table c.args.name) c.remove.result c.deref_mut.ensures.value c.deref_mut.ensures.len c.remove.ensures

pub returns : goal.returns
returns c =
    takes c.args.self.now _ c.deref_mut.result.now c.remove.new.entries c.args.table c.args.name c.remove.result c.deref_mut.ensures.value c.deref_mut.ensures.len refl c.remove.ensures
