use Rattle.std.proofs.Common.{Ok, refl, subst}
use Rattle.result.specs.Rows.{Uppermost}
use Rattle.records.specs.declared.handles.OpPtr.{OpPtr}
use Rattle.symbol_table.specs.Inserting.{insert_rows}
use Rattle.ir.specs.Stores.{nodes}
use Rattle.ir.specs.Tables.{InsertSymbolCall}
use Rattle.script.proofs.Keeping.{found_symbol_inserted, same_session}
use Rattle.script.proofs.Named.{edit_done, edit_refused, edit_unnamed, insert_is, insert_is_none}
use Rattle.script.proofs.state.State.run_insert_symbol.Goals as goal

pub returns-in_err-table : goal.returns-in_err-table
returns-in_err-table c =
    let i = c.in_ok-insertion.ensures in
    edit_unnamed _ _ _ _ c.args.self.now _ _ _ _ i.0 (insert_is_none c.args.self.now c.args.value.now _ _ _ _ i.1 i.2 i.3 i.4 _ c.in_err-table.ensures) refl c.from_residual-in_err-table.ensures.1

pub invariant_of-self : goal.invariant_of-self
invariant_of-self c = record { found = found_symbol_inserted c.args.self.now _ _ _ _ _ c.insert.ensures }

pub returns-in_err-insert : goal.returns-in_err-insert
returns-in_err-insert c =
    let i = c.in_ok-insertion.ensures in
    let is = insert_is c.args.self.now c.args.value.now _ _ _ _ i.1 i.2 i.3 i.4 _ c.in_ok-table.ensures in
    let h = c.in_err-insert.ensures in
    edit_refused _ _ _ _ _ c.args.self.now _ _ _ _ i.0 is (subst (λ (o : OpPtr). Uppermost (insert_rows (nodes c.args.self.now.context) o c.in_ok-table.op c.in_ok-table.point) c.in_err-insert.field-0.0) c.new.ensures h.0) (same_session _ _ h.1 refl refl refl) c.from_residual-in_err-insert.ensures.1

pub returns : goal.returns
returns c =
    let i = c.in_ok-insertion.ensures in
    let is = insert_is c.args.self.now c.args.value.now _ _ _ _ i.1 i.2 i.3 i.4 _ c.in_ok-table.ensures in
    let h = subst (λ (o : OpPtr). InsertSymbolCall c.args.self.now.context o c.in_ok-table.op c.in_ok-table.point (Ok tt) c.insert.new.context) c.new.ensures c.in_ok-insert.ensures in
    edit_done _ _ _ _ _ c.args.self.now _ _ i.0 is h.0 h refl refl refl c.clear.ensures
