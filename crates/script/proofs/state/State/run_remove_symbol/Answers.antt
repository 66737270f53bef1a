use Rattle.std.proofs.Common.{Ok, refl, subst}
use Rattle.result.specs.Rows.{Uppermost}
use Rattle.records.specs.declared.handles.OpPtr.{OpPtr}
use Rattle.symbol_table.specs.Inserting.{remove_rows}
use Rattle.ir.specs.Stores.{nodes}
use Rattle.ir.specs.Tables.{RemoveSymbolCall}
use Rattle.script.proofs.Keeping.{found_symbol_removed, same_session}
use Rattle.script.proofs.Named.{edit_done, edit_refused, pair_is}
use Rattle.script.proofs.state.State.run_remove_symbol.Goals as goal

pub invariant_of-self : goal.invariant_of-self
invariant_of-self c = record { found = found_symbol_removed c.args.self.now _ _ _ _ c.remove.ensures }

pub returns-in_err-remove : goal.returns-in_err-remove
returns-in_err-remove c =
    let p = c.in_ok-pair.ensures in
    let is = pair_is c.args.self.now c.args.value.now _ _ _ p.1 p.2 c.in_ok-table.ensures in
    let h = c.in_err-remove.ensures in
    edit_refused _ _ _ _ _ c.args.self.now _ _ _ _ p.0 is (subst (λ (o : OpPtr). Uppermost (remove_rows (nodes c.args.self.now.context) o c.in_ok-table.op) c.in_err-remove.field-0.0) c.new.ensures h.0) (same_session _ _ h.1 refl refl refl) c.from_residual-in_err-remove.ensures.1

pub returns : goal.returns
returns c =
    let p = c.in_ok-pair.ensures in
    let is = pair_is c.args.self.now c.args.value.now _ _ _ p.1 p.2 c.in_ok-table.ensures in
    let h = subst (λ (o : OpPtr). RemoveSymbolCall c.args.self.now.context o c.in_ok-table.op (Ok tt) c.remove.new.context) c.new.ensures c.in_ok-remove.ensures in
    edit_done _ _ _ _ _ c.args.self.now _ _ p.0 is h.0 h refl refl refl c.clear.ensures
