-- Every history keeps the store as the ledger says. Assumes nothing.
use Rattle.std.proofs.Common.{◌≡◌, false, Ok, Err, Result, sym, ap, ◌∙◌, subst}
use Rattle.std.specs.Option.{option_map}
use Rattle.arena.specs.Pools.{live}
use Rattle.arena.proofs.Shelving.{at_dead}
use Rattle.records.specs.declared.handles.BlockPtr.{BlockPtr}
use Rattle.records.specs.declared.handles.OpPtr.{OpPtr}
use Rattle.records.specs.declared.handles.RegionPtr.{RegionPtr}
use Rattle.records.specs.declared.ir_node.IRNode.TheVariants as node
use Rattle.result.specs.declared.refusal.Refusal.{Refusal}
use Rattle.forest.proofs.Kept.{unused_dead}
use Rattle.forest.proofs.Listed.{clash}
use Rattle.ir.specs.declared.context.Context.{Context}
use Rattle.ir.specs.Stores.{Built, names, nodes}
use Rattle.histories.specs.Calls.{Answer, Call, Called, make_operation, make_block, insert_op, insert_block, unlink_op, unlink_block, erase_op, erase_block, table_insert, table_remove, table_erase, lookup, lookup_nearest, nearest_symbol_table, set_note, walk, walk_noting, walk_table}
use Rattle.histories.specs.Feeding.{Same}
use Rattle.histories.specs.Histories.{Fed, History, begin, call}
use Rattle.histories.specs.Ledgers.{Ledger, blank}
use Rattle.histories.specs.Represents.{Represents, entry}
use Rattle.histories.proofs.Ending.{block_erases, op_erases}
use Rattle.histories.proofs.EndingSymbol.{symbol_erases}
use Rattle.histories.proofs.Erases.{represents as erased}
use Rattle.histories.proofs.InsertsBlock as block_in
use Rattle.histories.proofs.InsertsOp as op_in
use Rattle.histories.proofs.MakesBlock as block_made
use Rattle.histories.proofs.MakesOperation as op_made
use Rattle.histories.proofs.SetsNotes as note
use Rattle.histories.proofs.TableEdits as tables
use Rattle.histories.proofs.UnlinksBlock as block_out
use Rattle.histories.proofs.UnlinksOp as op_out

-- a store in which nothing was made is as the ledger says in which nothing is written
pub fresh : (s : Context) → Built s → Represents s blank
fresh s b =
    let no_op : (op : OpPtr) → live (nodes s).operations.pool op.handle ≡ false = λ op. unused_dead _ 512 op.handle b.fresh.operations in
    let no_block : (x : BlockPtr) → live (nodes s).blocks.pool x.handle ≡ false = λ x. unused_dead _ 256 x.handle b.fresh.blocks in
    let no_region : (x : RegionPtr) → live (nodes s).regions.pool x.handle ≡ false = λ x. unused_dead _ 256 x.handle b.fresh.regions in
    record {
      operations = λ op. sym (ap (option_map (entry (names s))) (at_dead (nodes s).operations op.handle (no_op op)));
      blocks = λ x. sym (no_block x);
      regions = λ x. sym (no_region x);
      ops_hold = record {
        chains = λ c k. absurd (clash (sym k ∙ no_block c));
        listed = λ n c h i. absurd (clash (sym h ∙ no_op n));
        loose = λ n h i. absurd (clash (sym h ∙ no_op n));
      };
      blocks_hold = record {
        chains = λ c k. absurd (clash (sym k ∙ no_region c));
        listed = λ n c h i. absurd (clash (sym h ∙ no_block n));
        loose = λ n h i. absurd (clash (sym h ∙ no_block n));
      };
    }

-- nothing is done and nothing written
same : (s t : Context) (l m : Ledger) → Represents s l → t ≡ s → Same l m → Represents t m
same s t l m r e f = subst (Represents t) (sym (note.same_ledger l m f)) (subst (λ (u : Context). Represents u l) (sym e) r)

-- one call, denied or not
pub step : (s t : Context) (l m : Ledger) → Represents s l → (c : Call) (r : Result (Answer c) Refusal) → Called s c r t → Fed l c r m → Represents t m
step s t l m r c (Err e) a f = same s t l m r a.1 f
step s t l m r (make_operation kind regions name) (Ok x) a f = op_made.represents s t l r kind regions name x a.0 a.1 m f
step s t l m r make_block (Ok x) a f = block_made.represents s t l r x a.1 m f
step s t l m r (insert_op op spot) (Ok x) a f = op_in.represents s t l m r op spot a.1 f
step s t l m r (insert_block block spot) (Ok x) a f = block_in.represents s t l m r block spot a.1 f
step s t l m r (unlink_op op) (Ok x) a f = op_out.represents s t l m r op a.1 f
step s t l m r (unlink_block block) (Ok x) a f = block_out.represents s t l m r block a.1 f
step s t l m r (erase_op op) (Ok x) a f = erased s t l m r (node.Operation op) (op_erases s t l r op a.0.0 a.1) f
step s t l m r (erase_block block) (Ok x) a f = erased s t l m r (node.BasicBlock block) (block_erases s t l r block a.0.0 a.1) f
step s t l m r (table_insert table op point) (Ok x) a f = tables.inserted s t l m r table op point a.0.1.0 a.1 f
step s t l m r (table_remove table op) (Ok x) a f = tables.removed s t l m r table op a.1 f
step s t l m r (table_erase table op) (Ok x) a f = erased s t l m r (node.Operation op) (symbol_erases s t l r table op a.1) f
step s t l m r (lookup table name) (Ok x) a f = same s t l m r a.1.1 f
step s t l m r (lookup_nearest op name) (Ok x) a f = same s t l m r a.1.1 f
step s t l m r (nearest_symbol_table op) (Ok x) a f = same s t l m r a.1.1 f
step s t l m r (set_note op n) (Ok x) a f = note.represents s t l m r (note.one_note s t op n a.1) f
step s t l m r (walk root k) (Ok x) a f = same s t l m r a.1.1 f
step s t l m r (walk_noting root k) (Ok x) a f = note.represents s t l m r a.1.1 f
step s t l m r (walk_table table) (Ok x) a f = same s t l m r a.1.1 f

-- and so all of them
pub represented : (s t : Context) (l : Ledger) → Built s → History s t l → Represents t l
represented s t l b begin = fresh s b
represented s t l b (call {t = u} {l = k} c r h a f) = step u t k l (represented s u k b h) c r a f
