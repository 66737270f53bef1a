use Rattle.std.proofs.Common.{rules, ◌≡◌, refl, true, false, None, Some, arith, sym, ap, ◌∙◌}
use Rattle.linked_list.proofs.Lists.{none_some}
use Rattle.trees.specs.Climbs.{Within}
use Rattle.orders.specs.Places.{Links, Regular, rest}
use Rattle.orders.proofs.Moves.{parent_is, parent_within, rest_root, sibling_within, up_early, up_late, up_sibling}
use Rattle.records.specs.declared.ir_node.IRNode.{IRNode}
use Rattle.ir.specs.Stores.{nodes}
use Rattle.walkers.specs.Links.{links}
use Rattle.walkers.proofs.Stores.{early_is, shown_begun, sound, up_is}
use Rattle.walkers.proofs.steps.climb.Goals as goal

-- a node within the root that is not the root has a parent
has_parent : (L : Links IRNode) → Regular L → (root n : IRNode) → Within L.up root n → (n ≡ root → ⊥) → L.up n ≡ None → ⊥
has_parent L s root n w ne u = none_some (sym u ∙ (parent_is L s root n w ne).1)

pub climb-init : goal.climb-init
climb-init c u = (u, (λ S. refl))

pub returns-in-Some : goal.returns-in-Some
returns-in-Some c =
    let m = nodes c.args.context.now in
    let k = c.args.config in
    let s = sound c.args.context.now k in
    let ne : c.climb.node ≡ c.args.root → ⊥ = (search rules) in
    let f : (links m k).next c.climb.node ≡ Some c.in-Some.sibling = sym c.next.ensures ∙ c.in-Some.is in record {
      left = λ u S.
          let i = c.climb.invariant u in
          i.1 S ∙ up_sibling (links m k) s S c.args.root c.climb.node c.in-Some.sibling i.0 ne f
          ∙ c.down.ensures.left c.args.root (sibling_within (links m k) s c.args.root c.climb.node c.in-Some.sibling i.0 ne f) S;
      fits = λ u. c.down.ensures.fits c.args.root (sibling_within (links m k) s c.args.root c.climb.node c.in-Some.sibling (c.climb.invariant u).0 ne f);
      begun = shown_begun c.down.result c.down.ensures.showing;
    }

pub returns-then-not-is_early : goal.returns-then-not-is_early
returns-then-not-is_early c =
    let m = nodes c.args.context.now in
    let k = c.args.config in
    let s = sound c.args.context.now k in
    let ne : c.climb.node ≡ c.args.root → ⊥ = (search rules) in
    let n : (links m k).next c.climb.node ≡ None = sym c.next.ensures ∙ c.in-None.is in
    let u : (links m k).up c.climb.node ≡ Some c.in-Some-parent.above = up_is m k c.climb.node ∙ sym c.parent.ensures ∙ c.in-Some-parent.is in
    let e : (links m k).early c.in-Some-parent.above ≡ false = early_is m k c.in-Some-parent.above ∙ sym c.is_early.ensures ∙ c.if-not-is_early.true in record {
      left = λ w S. (c.climb.invariant w).1 S ∙ up_late (links m k) s S c.args.root c.climb.node c.in-Some-parent.above (c.climb.invariant w).0 ne u n e;
      fits = λ w. (e, parent_within (links m k) s c.args.root c.climb.node c.in-Some-parent.above (c.climb.invariant w).0 ne u);
      begun = tt;
    }

pub returns-in-None-parent : goal.returns-in-None-parent
returns-in-None-parent c =
    let m = nodes c.args.context.now in
    let k = c.args.config in
    let s = sound c.args.context.now k in
    let ne : c.climb.node ≡ c.args.root → ⊥ = (search rules) in
    let u : (links m k).up c.climb.node ≡ None = up_is m k c.climb.node ∙ sym c.parent.ensures ∙ c.in-None-parent.is in record {
      left = λ w S. absurd (has_parent (links m k) s c.args.root c.climb.node (c.climb.invariant w).0 ne u);
      fits = λ w. tt;
      begun = tt;
    }

pub climb-smaller : goal.climb-smaller
climb-smaller c =
    let m = nodes c.args.context.now in
    let k = c.args.config in
    let s = sound c.args.context.now k in
    let u : (links m k).up c.climb.node ≡ Some c.in-Some-parent.above = up_is m k c.climb.node ∙ sym c.parent.ensures ∙ c.in-Some-parent.is in
    omega (arith, s.deep c.climb.node c.in-Some-parent.above u)

pub climb-preserved : goal.climb-preserved
climb-preserved c w =
    let m = nodes c.args.context.now in
    let k = c.args.config in
    let s = sound c.args.context.now k in
    let i = c.climb.invariant w in
    let ne : c.climb.node ≡ c.args.root → ⊥ = (search rules) in
    let n : (links m k).next c.climb.node ≡ None = sym c.next.ensures ∙ c.in-None.is in
    let u : (links m k).up c.climb.node ≡ Some c.in-Some-parent.above = up_is m k c.climb.node ∙ sym c.parent.ensures ∙ c.in-Some-parent.is in
    let e : (links m k).early c.in-Some-parent.above ≡ true = early_is m k c.in-Some-parent.above ∙ sym c.is_early.ensures ∙ c.if-not-is_early.false in
    (parent_within (links m k) s c.args.root c.climb.node c.in-Some-parent.above i.0 ne u, (λ S. i.1 S ∙ up_early (links m k) s S c.args.root c.climb.node c.in-Some-parent.above i.0 ne u n e))

pub returns : goal.returns
returns c =
    let m = nodes c.args.context.now in
    let k = c.args.config in
    let e : c.climb.node ≡ c.args.root = (search rules) in record {
      left = λ w S. (c.climb.invariant w).1 S ∙ ap (λ (n : IRNode). rest (links m k) c.args.root S n) e ∙ rest_root (links m k) (sound c.args.context.now k) S c.args.root;
      fits = λ w. tt;
      begun = tt;
    }
