use Rattle.table.proofs.Writing.{put_at, put_free}
use Rattle.table.proofs.map.insert.Goals as goal

pub returns-in-Found-clause-meaning : goal.returns-in-Found-clause-meaning
returns-in-Found-clause-meaning g c = put_at _ _ _ _ _ _ c.in-Found.ensures

pub returns-in-Stopped-clause-meaning : goal.returns-in-Stopped-clause-meaning
returns-in-Stopped-clause-meaning g c = put_free _ _ _ _ _ c.in-Stopped.ensures
