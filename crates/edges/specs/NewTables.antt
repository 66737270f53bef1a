-- Where a new table may be put into its own body.
use Rattle.std.specs.Prelude.{◌≡◌, Some, None, Option}
use Rattle.records.specs.declared.handles.BlockPtr.{BlockPtr}
use Rattle.symbol_table.specs.declared.op_insertion_point.OpInsertionPoint.{OpInsertionPoint}
use Rattle.symbol_table.specs.declared.op_insertion_point.OpInsertionPoint.TheVariants.{AfterOperation, AtBlockEnd, AtBlockStart, BeforeOperation, Unset}

-- no point is given, or one at either end of the body
abbrev pub InBody : Option BlockPtr → Option OpInsertionPoint → Type 0
InBody body None = Unit {0}
InBody body (Some Unset) = ⊥
InBody body (Some (AtBlockStart b)) = body ≡ Some b
InBody body (Some (AtBlockEnd b)) = body ≡ Some b
InBody body (Some (AfterOperation o)) = ⊥
InBody body (Some (BeforeOperation o)) = ⊥
