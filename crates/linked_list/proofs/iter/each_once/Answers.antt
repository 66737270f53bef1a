use Rattle.linked_list.proofs.Draws.{each_comes_once}
use Rattle.linked_list.proofs.iter.each_once.Goals as goal

pub returns : goal.returns
returns g c = each_comes_once
