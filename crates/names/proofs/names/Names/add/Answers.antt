use Rattle.std.proofs.Common.{◌<◌, vec_items, vec_len, arith}
use Rattle.names.proofs.Holding.{held_count, roomy, missing, follows}
use Rattle.names.proofs.names.Names.add.Goals as goal

pub invariant_of-self-clause-numbered : goal.invariant_of-self-clause-numbered
invariant_of-self-clause-numbered c =
    let s = c.args.self.now in
    let xs = c.deref_mut.result.now in
    let same = c.deref_mut.ensures.value in
    let long = c.deref_mut.ensures.len in
    let few : vec_len s.list < 256 = omega (arith, held_count s, c.requires.room) in
    let fits = c.insert.ensures.fits (roomy s xs same long few) in
    follows s (vec_items c.push_reserved.new.self) xs c.insert.new.entries c.args.name c.len-number.result c.insert.result same long c.push_reserved.ensures.items c.len-number.ensures fits (missing s xs c.args.name same c.requires.new) c.insert.ensures.meaning
