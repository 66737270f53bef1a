use Rattle.std.proofs.Common.{rules, ◌≡◌, ◌<◌, Some, Option, sym, subst}
use Rattle.trees.specs.Climbs.{self}
use Rattle.records.specs.declared.ir_node.IRNode.{IRNode}
use Rattle.records.specs.Nodes.{parent}
use Rattle.forest.specs.Forests.{model}
use Rattle.forest.proofs.Above.{Inside?, climbs, lift, lower, to_climb}
use Rattle.forest.proofs.Listed.{clash}
use Rattle.forest.proofs.forest.Forest.contains.Goals as goal

pub climb-smaller : goal.climb-smaller
climb-smaller c =
    let s = c.args.self.now in
    subst (λ (x : Option IRNode). to_climb (model s) s.acyclic c.parent-at.result < to_climb (model s) s.acyclic x) (sym c.in-Some.is)
    (subst (λ (x : Option IRNode). to_climb (model s) s.acyclic x < to_climb (model s) s.acyclic (Some c.in-Some.here)) (sym c.parent-at.ensures)
    (climbs (model s) s.acyclic c.in-Some.here))

pub climb-preserved : goal.climb-preserved
climb-preserved c =
    let m = model c.args.self.now in
    let at : Option IRNode → Type 0 = Inside? m c.args.outer in
    let ne : c.in-Some.here ≡ c.args.outer → ⊥ = (search rules) in
    let up : c.parent-at.result ≡ parent m c.in-Some.here = c.parent-at.ensures in (
      (λ h. subst at (sym up) (lower m c.args.outer c.in-Some.here ne (subst at c.in-Some.is (c.climb.invariant.0 h)))),
      (λ h. c.climb.invariant.1 (subst at (sym c.in-Some.is) (lift m c.args.outer c.in-Some.here (subst at up h)))),
    )

pub returns-then-eq : goal.returns-then-eq
returns-then-eq c =
    let m = model c.args.self.now in
    let at : Option IRNode → Type 0 = Inside? m c.args.outer in
    record {
      yes = λ _. c.climb.invariant.1 (subst at (sym c.in-Some.is) (self (search rules)));
      no = λ e. absurd (clash e);
    }
