use Rattle.table.proofs.Moving.{moves_more, moves_end}
use Rattle.table.proofs.Nearing.{moves_nearer}
use Rattle.table.proofs.shift.close.Goals as goal

pub moves-smaller : goal.moves-smaller
moves-smaller g c = moves_nearer _ _ _ _ _ _ _ c.moves.invariant c.in-Some.ensures c.swap.ensures.after

pub moves-preserved : goal.moves-preserved
moves-preserved g c = moves_more _ _ _ _ _ _ _ c.moves.invariant c.in-Some.ensures c.swap.ensures.after

pub returns : goal.returns
returns g c = moves_end _ _ _ _ _ c.moves.invariant c.in_default.ensures
