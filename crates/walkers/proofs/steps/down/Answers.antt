use Rattle.std.proofs.Common.{◌≡◌, refl, true, false, None, Some, arith, sym, ◌∙◌}
use Rattle.trees.specs.Climbs.{below}
use Rattle.orders.proofs.Moves.{down_early, down_kid, down_leaf}
use Rattle.ir.specs.Stores.{nodes}
use Rattle.walkers.specs.Links.{links}
use Rattle.walkers.proofs.Stores.{early_is, sound}
use Rattle.walkers.proofs.steps.down.Goals as goal

pub down-init : goal.down-init
down-init c root u = (u, (λ S. refl))

pub returns-then-is_early : goal.returns-then-is_early
returns-then-is_early c =
    let m = nodes c.args.context.now in
    let k = c.args.config in
    let e : (links m k).early c.down.node ≡ true = early_is m k c.down.node ∙ sym c.is_early.ensures ∙ c.if-is_early.true in record {
      left = λ root u S. (c.down.invariant root u).1 S ∙ down_early (links m k) (sound c.args.context.now k) S root c.down.node e;
      fits = λ root u. (e, (c.down.invariant root u).0);
      showing = tt;
    }

pub returns-in-None : goal.returns-in-None
returns-in-None c =
    let m = nodes c.args.context.now in
    let k = c.args.config in
    let e : (links m k).early c.down.node ≡ false = early_is m k c.down.node ∙ sym c.is_early.ensures ∙ c.if-is_early.false in
    let f : (links m k).first c.down.node ≡ None = sym c.first.ensures ∙ c.in-None.is in record {
      left = λ root u S. (c.down.invariant root u).1 S ∙ down_leaf (links m k) (sound c.args.context.now k) S root c.down.node e f;
      fits = λ root u. (e, (c.down.invariant root u).0);
      showing = tt;
    }

pub down-smaller : goal.down-smaller
down-smaller c =
    let s = sound c.args.context.now c.args.config in
    let f = sym c.first.ensures ∙ c.in-Some.is in
    omega (arith, s.deep c.in-Some.child c.down.node (s.kid c.down.node c.in-Some.child f).1, s.high c.in-Some.child)

pub down-preserved : goal.down-preserved
down-preserved c root u =
    let m = nodes c.args.context.now in
    let k = c.args.config in
    let s = sound c.args.context.now k in
    let i = c.down.invariant root u in
    let e : (links m k).early c.down.node ≡ false = early_is m k c.down.node ∙ sym c.is_early.ensures ∙ c.if-is_early.false in
    let f : (links m k).first c.down.node ≡ Some c.in-Some.child = sym c.first.ensures ∙ c.in-Some.is in
    (below c.down.node (s.kid c.down.node c.in-Some.child f).1 i.0, (λ S. i.1 S ∙ down_kid (links m k) s S root c.down.node c.in-Some.child i.0 e f))
