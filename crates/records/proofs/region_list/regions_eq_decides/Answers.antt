use Rattle.records.proofs.Comparing.{told}
use Rattle.records.proofs.region_list.regions_eq_decides.Goals as goal

pub returns : goal.returns
returns c = told
