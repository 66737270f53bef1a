-- How public calls build the example trees.
use Rattle.std.specs.Prelude.{◌≡◌, [], ◌∷◌, Some, None, Ok, codes}
use Rattle.linked_list.specs.declared.spot.Spot.TheVariants.{AtBack}
use Rattle.records.specs.declared.handles.BlockPtr.{BlockPtr}
use Rattle.records.specs.declared.handles.OpPtr.{OpPtr}
use Rattle.records.specs.declared.handles.RegionPtr.{RegionPtr}
use Rattle.records.specs.declared.making.MadeOperation.{MadeOperation}
use Rattle.ir.specs.declared.context.Context.{Context}
use Rattle.ir.specs.Calls.{MakeBlockCall, MakeOperationCall}
use Rattle.ir.specs.Linkings.{InsertBlockCall, InsertOpCall}
use Rattle.ir.specs.Tables.{InsertSymbolCall}

-- An operation with one region is made, and two blocks, which are put at the back of the region, one after the other; and an operation
-- without regions, which is put at the back of the first block.
pub record TwoBlocksBuilt (s u : Context) (r : RegionPtr) (b0 b1 : BlockPtr) (o5 : OpPtr) : Type 0 where
  pub made : MadeOperation
  pub held : MadeOperation
  pub s1 : Context
  pub s2 : Context
  pub s3 : Context
  pub s4 : Context
  pub s5 : Context
  pub s6 : Context
  pub operation : MakeOperationCall s 0 1 [] (Ok made) s1
  pub region : made.regions ≡ r ∷ []
  pub first_made : MakeBlockCall s1 (Ok b0) s2
  pub first_put : InsertBlockCall s2 b0 (AtBack r) (Ok tt) s3
  pub second_made : MakeBlockCall s3 (Ok b1) s4
  pub second_put : InsertBlockCall s4 b1 (AtBack r) (Ok tt) s5
  pub held_made : MakeOperationCall s5 0 0 [] (Ok held) s6
  pub held_is : held.operation ≡ o5
  pub held_put : InsertOpCall s6 o5 (AtBack b0) (Ok tt) u

-- A table is made, with its region and its body; a symbol named "put" with one region; a block, which is put into that region; a
-- terminator, which is put at the back of the body; and the symbol is put into the table without a point.
pub record NestedBuilt (s u : Context) (o0 o1 o2 : OpPtr) (r0 r1 : RegionPtr) (b0 b1 : BlockPtr) : Type 0 where
  pub table : MadeOperation
  pub symbol : MadeOperation
  pub last : MadeOperation
  pub s1 : Context
  pub s2 : Context
  pub s3 : Context
  pub s4 : Context
  pub s5 : Context
  pub s6 : Context
  pub table_made : MakeOperationCall s 1 1 [] (Ok table) s1
  pub table_is : table ≡ record { operation = o0; regions = r0 ∷ []; body = Some b0 }
  pub symbol_made : MakeOperationCall s1 2 1 (codes "put") (Ok symbol) s2
  pub symbol_is : (symbol.operation ≡ o1) × (symbol.regions ≡ r1 ∷ [])
  pub block_made : MakeBlockCall s2 (Ok b1) s3
  pub block_put : InsertBlockCall s3 b1 (AtBack r1) (Ok tt) s4
  pub last_made : MakeOperationCall s4 4 0 [] (Ok last) s5
  pub last_is : last.operation ≡ o2
  pub last_put : InsertOpCall s5 o2 (AtBack b0) (Ok tt) s6
  pub symbol_put : InsertSymbolCall s6 o0 o1 None (Ok tt) u
