use Rattle.std.proofs.Common.{subst}
use Rattle.std.specs.Prelude.{Result}
use Rattle.orders.specs.declared.walk_result.WalkResult.{WalkResult}
use Rattle.result.specs.declared.refusal.Refusal.{Refusal}
use Rattle.walkers.specs.Walks.{WalkMutCall, always, beneath, inside}
use Rattle.walkers.proofs.Always.{all_written}
use Rattle.walkers.proofs.driving_mut.walk_all_mut.Goals as goal

pub returns : goal.returns
returns g c =
    let s = c.args.context.now in
    let e =
    subst (λ (r : Result (WalkResult g.row.V-Break.Denot) Refusal). WalkMutCall always (inside g.V.VisitorMut.next) (beneath g.V.VisitorMut.notes) s c.args.config c.args.root c.args.visitor.now r c.walk_mut.new.visitor c.walk_mut.new.context)
    c.in_ok-walk_mut.was c.walk_mut.ensures in
    (e.0, all_written (inside g.V.VisitorMut.next) s c.args.config c.args.root c.args.visitor.now c.in_ok-walk_mut.field-0 c.walk_mut.new.visitor (beneath g.V.VisitorMut.notes) c.walk_mut.new.context e.1)
