use Rattle.std.proofs.Common.{◌≡◌, ◌≤◌, take}
use Rattle.table.specs.Maps.{used}
use Rattle.mappings.proofs.mappings.Mappings.count.Given as goal

abbrev pub invariant-loop-entry : goal.invariant-loop-entry
invariant-loop-entry l = record { counted : l.count ≡ used (take l.entry-index l.entry-items); few : l.count ≤ l.entry-index }
