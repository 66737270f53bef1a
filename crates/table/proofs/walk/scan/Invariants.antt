use Rattle.std.proofs.Common.{◌+◌, false}
use Rattle.table.specs.Search.{Each}
use Rattle.table.proofs.walk.scan.Given as goal

abbrev pub invariant-loop-passed : goal.invariant-loop-passed
invariant-loop-passed g l = Each (λ i k. goal.F-post g l.wanted i k false) l.entries l.from (l.from + l.passed)
