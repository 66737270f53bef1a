use Rattle.std.proofs.Common.{◌*◌, ◌≤◌}
use Rattle.bench_table.proofs.looks.looks_of_misses.Given as goal

abbrev pub invariant-loop : goal.invariant-loop
invariant-loop l = l.total ≤ 512 * l.counter
