use Rattle.std.proofs.Common.{ℕ, List, Ok, slice_get, sym, ap, ◌∙◌, subst}
use Rattle.ir.specs.Tables.{NearestLookupCall}
use Rattle.script.specs.Lookups.{name_sought}
use Rattle.script.specs.Sessions.{operations}
use Rattle.script.proofs.Looking.{nearest_lookup_done}
use Rattle.script.proofs.Named.{there}
use Rattle.script.proofs.state.State.run_nearest_lookup.Goals as goal

pub returns : goal.returns
returns c =
    let l = c.in_ok-number.ensures in
    let is = ap (λ n. slice_get (operations c.args.self.now) n) (sym l.1) ∙ there _ c.in_ok-op.op c.in_ok-op.ensures in
    let h = subst (λ (n : List ℕ). NearestLookupCall c.args.self.now.context c.in_ok-op.op n (Ok c.in_ok-found.found)) l.2 c.in_ok-found.ensures in
    nearest_lookup_done _ _ c.in_ok-op.op (name_sought c.args.value.now) _ c.args.self.now _ _ _ l.0 is h.0 h c.tell.ensures
