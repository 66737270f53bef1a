use Rattle.std.proofs.Common.{◌≡◌}
use Rattle.arena.specs.Recorded.{shelf}
use Rattle.records.specs.Makings.{region_ptrs, with_regions}
use Rattle.records.proofs.making.make_regions.Given as goal

-- the regions below i are made, and their handles stand in the first i places
abbrev pub invariant-each : goal.invariant-each
invariant-each l =
    (l.regions ≡ region_ptrs l.parent_op l.body l.i (shelf l.initial.table))
    × (shelf l.table ≡ with_regions l.parent_op l.body l.i (shelf l.initial.table))
