use Rattle.mappings.proofs.Reading.{NoneBefore}
use Rattle.mappings.proofs.mappings.Mappings.unkept.Given as goal

abbrev pub invariant-loop-entry : goal.invariant-loop-entry
invariant-loop-entry g l = NoneBefore (g.K.Keeper.keeps l.keeper) l.entry-items l.entry-index
