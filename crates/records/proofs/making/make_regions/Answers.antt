use Rattle.std.proofs.Common.{arith, rules}
use Rattle.records.proofs.Regions.{room_after}
use Rattle.records.proofs.making.make_regions.Goals as goal

pub make-requires : goal.make-requires
make-requires c = let r = room_after c.args.parent_op c.args.body c.each.i c.args.table.now (omega arith) in search rules
