use Rattle.std.proofs.Common.{refl, rules, subst}
use Rattle.records.specs.Makings.{Roomy}
use Rattle.forest.specs.declared.forest.Forest.{Forest}
use Rattle.forest.specs.Forests.{model}
use Rattle.ir.proofs.Rowing.{Passed, names_full, records_full}
use Rattle.ir.proofs.context.Context.admit.Goals as goal
use Rattle.ir.proofs.context.Context.admit.Goals.{In_ok-identifier}

passed : (c : In_ok-identifier) → Passed c.args.self.now c.args.kind c.args.regions c.args.name.now c.in_ok-shape.shape c.in_ok-identifier.identifier
passed c = record { shaped = search rules; optional = c.in_ok-identifier.ensures }

pub returns-then-not-can_hold : goal.returns-then-not-can_hold
returns-then-not-can_hold c =
    names_full c.args.self.now c.args.kind c.args.regions c.args.name.now c.in_ok-shape.shape c.in_ok-identifier.identifier
    (passed (goal.at.returns-then-not-can_hold c).In_ok-identifier) _ refl c.if-not-can_hold.ensures

pub returns-then-not-has_room : goal.returns-then-not-has_room
returns-then-not-has_room c =
    records_full c.args.self.now c.args.kind c.args.regions c.args.name.now c.in_ok-shape.shape c.in_ok-identifier.identifier
    (passed (goal.at.returns-then-not-has_room c).In_ok-identifier) _ refl c.if-not-can_hold.ensures
    (subst (λ (f : Forest). Roomy c.in_ok-shape.shape.kind c.in_ok-shape.shape.count (model f) → ⊥) c.forest.ensures c.if-not-has_room.ensures)
