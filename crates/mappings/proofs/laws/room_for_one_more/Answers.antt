use Rattle.mappings.proofs.Counting.{room, never_full}
use Rattle.mappings.proofs.laws.room_for_one_more.Goals as goal

pub returns : goal.returns
returns c = record { room = room; never_full = never_full }
