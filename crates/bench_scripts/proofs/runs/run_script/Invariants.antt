use Rattle.std.proofs.Common.{◌-◌, length}
use Rattle.bench_scripts.proofs.runs.run_script.Given as goal

abbrev pub decreases-fields : goal.decreases-fields
decreases-fields l = length l.script - l.place
