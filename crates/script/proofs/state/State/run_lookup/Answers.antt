use Rattle.std.proofs.Common.{ℕ, List, Ok, slice_get, sym, ap, ◌∙◌, subst}
use Rattle.records.specs.declared.handles.OpPtr.{OpPtr}
use Rattle.ir.specs.Tables.{LookupCall}
use Rattle.script.specs.Lookups.{name_sought}
use Rattle.script.specs.Sessions.{operations}
use Rattle.script.proofs.Looking.{lookup_done}
use Rattle.script.proofs.Named.{there}
use Rattle.script.proofs.state.State.run_lookup.Goals as goal

pub returns : goal.returns
returns c =
    let l = c.in_ok-number.ensures in
    let is = ap (λ n. slice_get (operations c.args.self.now) n) (sym l.1) ∙ there _ c.in_ok-table.table c.in_ok-table.ensures in
    let h = subst (λ (n : List ℕ). LookupCall c.args.self.now.context c.in_ok-table.table n (Ok c.in_ok-found.found)) l.2 (subst (λ (o : OpPtr). LookupCall c.args.self.now.context o c.in_ok-number.name.now (Ok c.in_ok-found.found)) c.new.ensures c.in_ok-found.ensures) in
    lookup_done _ _ c.in_ok-table.table (name_sought c.args.value.now) _ c.args.self.now _ _ _ l.0 is h.0 h c.tell.ensures
