-- What each public call promises is a step of histories.
use Rattle.std.specs.Prelude.{ℕ, List, Option, Result}
use Rattle.linked_list.specs.declared.spot.Spot.{Spot}
use Rattle.orders.specs.declared.walk_result.WalkResult.{WalkResult}
use Rattle.records.specs.declared.handles.BlockPtr.{BlockPtr}
use Rattle.records.specs.declared.handles.OpPtr.{OpPtr}
use Rattle.records.specs.declared.handles.RegionPtr.{RegionPtr}
use Rattle.records.specs.declared.ir_node.IRNode.{IRNode}
use Rattle.records.specs.declared.making.MadeOperation.{MadeOperation}
use Rattle.result.specs.declared.refusal.Refusal.{Refusal}
use Rattle.symbol_table.specs.declared.op_insertion_point.OpInsertionPoint.{OpInsertionPoint}
use Rattle.ir.specs.declared.context.Context.{Context}
use Rattle.ir.specs.Calls.{MakeBlockCall, MakeOperationCall, SetNoteCall}
use Rattle.ir.specs.Erasings.{EraseBlockCall, EraseOpCall}
use Rattle.ir.specs.Linkings.{InsertBlockCall, InsertOpCall, UnlinkBlockCall, UnlinkOpCall}
use Rattle.ir.specs.Tables.{EraseSymbolCall, InsertSymbolCall, RemoveSymbolCall, LookupCall, NearestLookupCall, NearestTableCall}
use Rattle.walkers.specs.declared.config.WalkConfig.{WalkConfig}
use Rattle.walkers.specs.declared.advancing.Uninterruptible.{Uninterruptible}
use Rattle.walkers.specs.declared.operations_only.OperationsOnly.{OperationsOnly}
use Rattle.walkers.specs.TableWalks.{TableWalkCall}
use Rattle.walkers.specs.Walks.{WalkAllCall, WalkAllMutCall, WalkCall, WalkMutCall, beneath, inside}
use Rattle.histories.specs.Calls.{Called, make_operation, make_block, insert_op, insert_block, unlink_op, unlink_block, erase_op, erase_block, table_insert, table_remove, table_erase, lookup, lookup_nearest, nearest_symbol_table, set_note, walk, walk_noting, walk_table}
use Rattle.histories.specs.Walking.{bared, ended_all}

-- the calls that edit a store
pub record EditSteps : Type 0 where
  pub makes_operation : (s t : Context) (kind regions : ℕ) (name : List ℕ) (r : Result MadeOperation Refusal) → MakeOperationCall s kind regions name r t → Called s (make_operation kind regions name) r t
  pub makes_block : (s t : Context) (r : Result BlockPtr Refusal) → MakeBlockCall s r t → Called s make_block r t
  pub inserts_op : (s t : Context) (op : OpPtr) (spot : Spot OpPtr BlockPtr) (r : Result (Unit {0}) Refusal) → InsertOpCall s op spot r t → Called s (insert_op op spot) r t
  pub inserts_block : (s t : Context) (block : BlockPtr) (spot : Spot BlockPtr RegionPtr) (r : Result (Unit {0}) Refusal) → InsertBlockCall s block spot r t → Called s (insert_block block spot) r t
  pub unlinks_op : (s t : Context) (op : OpPtr) (r : Result (Unit {0}) Refusal) → UnlinkOpCall s op r t → Called s (unlink_op op) r t
  pub unlinks_block : (s t : Context) (block : BlockPtr) (r : Result (Unit {0}) Refusal) → UnlinkBlockCall s block r t → Called s (unlink_block block) r t
  pub erases_op : (s t : Context) (op : OpPtr) (r : Result (Unit {0}) Refusal) → EraseOpCall s op r t → Called s (erase_op op) r t
  pub erases_block : (s t : Context) (block : BlockPtr) (r : Result (Unit {0}) Refusal) → EraseBlockCall s block r t → Called s (erase_block block) r t
  pub inserts_symbol : (s t : Context) (table op : OpPtr) (point : Option OpInsertionPoint) (r : Result (Unit {0}) Refusal) → InsertSymbolCall s table op point r t → Called s (table_insert table op point) r t
  pub removes_symbol : (s t : Context) (table op : OpPtr) (r : Result (Unit {0}) Refusal) → RemoveSymbolCall s table op r t → Called s (table_remove table op) r t
  pub erases_symbol : (s t : Context) (table op : OpPtr) (r : Result (Unit {0}) Refusal) → EraseSymbolCall s table op r t → Called s (table_erase table op) r t
  pub sets_note : (s t : Context) (op : OpPtr) (note : ℕ) (r : Result (Unit {0}) Refusal) → SetNoteCall s op note r t → Called s (set_note op note) r t

-- the calls that look a name up, or ask for the nearest table
pub record LookSteps : Type 0 where
  pub looks_up : (s : Context) (table : OpPtr) (name : List ℕ) (r : Result (Option OpPtr) Refusal) → LookupCall s table name r → Called s (lookup table name) r s
  pub looks_up_nearest : (s : Context) (op : OpPtr) (name : List ℕ) (r : Result (Option OpPtr) Refusal) → NearestLookupCall s op name r → Called s (lookup_nearest op name) r s
  pub asks_nearest : (s : Context) (op : OpPtr) (r : Result (Option OpPtr) Refusal) → NearestTableCall s op r → Called s (nearest_symbol_table op) r s

-- the walks of a visitor that reads
pub record ReadSteps {V B : Type 0} (answer : V → Context → IRNode → WalkResult B) (next : V → Context → IRNode → V) : Type 0 where
  pub walks : (s : Context) (k : WalkConfig) (root : IRNode) (v w : V) (r : Result (WalkResult B) Refusal) → WalkCall answer next s k root v r w → Called s (walk root k) (bared r) s
  pub walks_all : (s : Context) (k : WalkConfig) (root : IRNode) (v w : Uninterruptible V) (r : Result (Unit {0}) Refusal) → WalkAllCall B (inside next) s k root v r w → Called s (walk root k) (ended_all r) s
  pub walks_table : (s : Context) (table : OpPtr) (v w : OperationsOnly V) (r : Result (Unit {0}) Refusal) → TableWalkCall answer next s table v r w → Called s (walk_table table) r s

-- the walks of a visitor that writes
pub record WriteSteps {V B : Type 0} (answer : V → Context → IRNode → WalkResult B) (next : V → Context → IRNode → V) (notes : V → Context → IRNode → OpPtr → ℕ) : Type 0 where
  pub walks : (s t : Context) (k : WalkConfig) (root : IRNode) (v w : V) (r : Result (WalkResult B) Refusal) → WalkMutCall answer next notes s k root v r w t → Called s (walk_noting root k) (bared r) t
  pub walks_all : (s t : Context) (k : WalkConfig) (root : IRNode) (v w : Uninterruptible V) (r : Result (Unit {0}) Refusal) → WalkAllMutCall B (inside next) (beneath notes) s k root v r w t
      → Called s (walk_noting root k) (ended_all r) t
