use Rattle.std.proofs.Common.{Ok, refl, subst}
use Rattle.result.specs.Rows.{Uppermost}
use Rattle.records.specs.declared.handles.OpPtr.{OpPtr}
use Rattle.symbol_table.specs.Inserting.{remove_rows}
use Rattle.ir.specs.Stores.{nodes}
use Rattle.ir.specs.Tables.{EraseSymbolCall}
use Rattle.script.proofs.Keeping.{found_symbol_erased, same_session}
use Rattle.script.proofs.Named.{edit_done, edit_refused, pair_is}
use Rattle.script.proofs.state.State.run_erase_symbol.Goals as goal

pub invariant_of-self : goal.invariant_of-self
invariant_of-self c = record { found = found_symbol_erased c.args.self.now _ _ _ _ c.erase.ensures }

pub returns-in_err-erase : goal.returns-in_err-erase
returns-in_err-erase c =
    let p = c.in_ok-pair.ensures in
    let is = pair_is c.args.self.now c.args.value.now _ _ _ p.1 p.2 c.in_ok-table.ensures in
    let h = c.in_err-erase.ensures in
    edit_refused _ _ _ _ _ c.args.self.now _ _ _ _ p.0 is (subst (λ (o : OpPtr). Uppermost (remove_rows (nodes c.args.self.now.context) o c.in_ok-table.op) c.in_err-erase.field-0.0) c.new.ensures h.0) (same_session _ _ h.1 refl refl refl) c.from_residual-in_err-erase.ensures.1

pub returns : goal.returns
returns c =
    let p = c.in_ok-pair.ensures in
    let is = pair_is c.args.self.now c.args.value.now _ _ _ p.1 p.2 c.in_ok-table.ensures in
    let h = subst (λ (o : OpPtr). EraseSymbolCall c.args.self.now.context o c.in_ok-table.op (Ok tt) c.erase.new.context) c.new.ensures c.in_ok-erase.ensures in
    edit_done _ _ _ _ _ c.args.self.now _ _ p.0 is h.0 h refl refl refl c.clear.ensures
