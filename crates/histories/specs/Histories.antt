-- All that can happen to a store, and what an onlooker writes down of it.
use Rattle.std.specs.Prelude.{Ok, Err, Result}
use Rattle.records.specs.declared.ir_node.IRNode.TheVariants as node
use Rattle.result.specs.declared.refusal.Refusal.{Refusal}
use Rattle.ir.specs.declared.context.Context.{Context}
use Rattle.histories.specs.Calls.{Answer, Call, Called, make_operation, make_block, insert_op, insert_block, unlink_op, unlink_block, erase_op, erase_block, table_insert, table_remove, table_erase, lookup, lookup_nearest, nearest_symbol_table, set_note, walk, walk_noting, walk_table}
use Rattle.histories.specs.Feeding.{BlockEnters, BlockPut, BlockTaken, Erased, OperationEnters, OpPut, OpTaken, Same, TableErased, TableInserted, TableRemoved}
use Rattle.histories.specs.Ledgers.{Ledger, blank}

-- what a call that is not denied writes down
abbrev pub Written : Ledger → (c : Call) → Answer c → Ledger → Type 0
Written l (make_operation kind regions name) made m = OperationEnters l kind name made m
Written l make_block block m = BlockEnters l block m
Written l (insert_op op spot) r m = OpPut l op spot m
Written l (insert_block block spot) r m = BlockPut l block spot m
Written l (unlink_op op) r m = OpTaken l op m
Written l (unlink_block block) r m = BlockTaken l block m
Written l (erase_op op) r m = Erased l (node.Operation op) m
Written l (erase_block block) r m = Erased l (node.BasicBlock block) m
Written l (table_insert table op point) r m = TableInserted l table op point m
Written l (table_remove table op) r m = TableRemoved l table op m
Written l (table_erase table op) r m = TableErased l table op m
Written l (lookup table name) r m = Same l m
Written l (lookup_nearest op name) r m = Same l m
Written l (nearest_symbol_table op) r m = Same l m
Written l (set_note op note) r m = Same l m
Written l (walk root k) r m = Same l m
Written l (walk_noting root k) r m = Same l m
Written l (walk_table table) r m = Same l m

-- a call that is denied writes nothing
abbrev pub Fed : Ledger → (c : Call) → Result (Answer c) Refusal → Ledger → Type 0
Fed l c (Ok x) m = Written l c x m
Fed l c (Err e) m = Same l m

-- The store s became the store t by calls, one after another, denied or not, and the ledger that was fed each of them is l.
pub data History (s : Context) : Context → Ledger → Type 0 where
  begin : History s s blank
  call : {t u : Context} {l m : Ledger} (c : Call) (r : Result (Answer c) Refusal) → History s t l → Called t c r u → Fed l c r m → History s u m
