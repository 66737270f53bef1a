use Rattle.std.proofs.Common.{◌≡◌, ℕ, true}
use Rattle.records.specs.declared.handles.OpPtr.{OpPtr}
use Rattle.mappings.specs.Held.{held_count, mapped}
use Rattle.mappings.proofs.mappings.Mappings.retain.Given as goal

abbrev pub invariant-names : goal.invariant-names
invariant-names g l = (table : OpPtr) (name : ℕ) → g.K.Keeper.keeps l.keeper table ≡ true → mapped l.self table name ≡ mapped l.fn.self table name

abbrev pub decreases-names : goal.decreases-names
decreases-names g l = held_count l.self
