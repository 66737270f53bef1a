use Rattle.std.proofs.Common.{subst}
use Rattle.std.specs.Prelude.{Result}
use Rattle.orders.specs.declared.walk_result.WalkResult.{WalkResult}
use Rattle.result.specs.declared.refusal.Refusal.{Refusal}
use Rattle.walkers.specs.Walks.{WalkCall, always, inside}
use Rattle.walkers.proofs.Always.{all_read}
use Rattle.walkers.proofs.driving.walk_all.Goals as goal

pub returns : goal.returns
returns g c =
    let s = c.args.context.now in
    let e =
    subst (λ (r : Result (WalkResult g.row.V-Break.Denot) Refusal). WalkCall always (inside g.V.Visitor.next) s c.args.config c.args.root c.args.visitor.now r c.walk.new.visitor)
    c.in_ok-walk.was c.walk.ensures in
    (e.0, all_read (inside g.V.Visitor.next) s c.args.config c.args.root c.args.visitor.now c.in_ok-walk.field-0 c.walk.new.visitor e.1)
