use Rattle.std.proofs.Common.{◌≡◌, refl, Bool, None, Some, sym, ap, ◌∙◌, subst}
use Rattle.trees.specs.Climbs.{below, self}
use Rattle.orders.specs.declared.place.At.{At}
use Rattle.orders.specs.declared.place.At.TheVariants.{Entering, Leaving}
use Rattle.orders.specs.declared.walk_result.WalkResult.{WalkResult}
use Rattle.orders.specs.declared.walk_result.WalkResult.TheVariants.{Advance, Skip}
use Rattle.orders.specs.Places.{Fit, Links, goes}
use Rattle.orders.proofs.Moves.{early_kid, early_leaf}
use Rattle.records.specs.declared.ir_node.IRNode.{IRNode}
use Rattle.ir.specs.Stores.{nodes}
use Rattle.walkers.specs.Links.{links}
use Rattle.walkers.proofs.Stores.{shown_begun, sound}
use Rattle.walkers.proofs.steps.after.Goals as goal

-- what comes after a place and an answer that are told
goes_as : {B : Type 0} (L : Links IRNode) (root : IRNode) (S : IRNode → Bool) (at to : At IRNode) (a b : WalkResult B) → at ≡ to → a ≡ b → goes L root S at a ≡ goes L root S to b
goes_as L root S at to a b e h = ap (λ x. goes L root S x a) e ∙ ap (goes L root S to) h

pub returns-in-Start-default : goal.returns-in-Start-default
returns-in-Start-default g c =
    let L = links (nodes c.args.context.now) c.args.config in record {
      left = λ f S. ap (λ x. goes L c.args.root S x c.args.answer.now) c.in-Start-default.is-0 ∙ c.down.ensures.left c.args.root (self refl) S;
      fits = λ f. c.down.ensures.fits c.args.root (self refl);
      begun = shown_begun c.down.result c.down.ensures.showing;
    }

pub returns-in-Some : goal.returns-in-Some
returns-in-Some g c =
    let L = links (nodes c.args.context.now) c.args.config in
    let s = sound c.args.context.now c.args.config in
    let n = c.in-Entering-Advance.node in
    let e : L.first n ≡ Some c.in-Some.child = sym c.first.ensures ∙ c.in-Some.is in record {
      left = λ f S.
          let w = subst (Fit L c.args.root) c.in-Entering-Advance.is-0 f in
          goes_as L c.args.root S c.args.at (Entering n) c.args.answer.now Advance c.in-Entering-Advance.is-0 c.in-Entering-Advance.is-1
          ∙ early_kid L s S c.args.root n c.in-Some.child w.1 w.0 e ∙ c.down-in-Some.ensures.left c.args.root (below n (s.kid n c.in-Some.child e).1 w.1) S;
      fits = λ f. c.down-in-Some.ensures.fits c.args.root (below n (s.kid n c.in-Some.child e).1 (subst (Fit L c.args.root) c.in-Entering-Advance.is-0 f).1);
      begun = shown_begun c.down-in-Some.result c.down-in-Some.ensures.showing;
    }

pub returns-in-None : goal.returns-in-None
returns-in-None g c =
    let L = links (nodes c.args.context.now) c.args.config in
    let s = sound c.args.context.now c.args.config in
    let n = c.in-Entering-Advance.node in
    let e : L.first n ≡ None = sym c.first.ensures ∙ c.in-None.is in record {
      left = λ f S.
          let w = subst (Fit L c.args.root) c.in-Entering-Advance.is-0 f in
          goes_as L c.args.root S c.args.at (Entering n) c.args.answer.now Advance c.in-Entering-Advance.is-0 c.in-Entering-Advance.is-1
          ∙ early_leaf L s S c.args.root n e ∙ c.climb.ensures.left w.1 S;
      fits = λ f. c.climb.ensures.fits (subst (Fit L c.args.root) c.in-Entering-Advance.is-0 f).1;
      begun = c.climb.ensures.begun;
    }

pub returns-in-Entering-Skip : goal.returns-in-Entering-Skip
returns-in-Entering-Skip g c =
    let L = links (nodes c.args.context.now) c.args.config in
    let n = c.in-Entering-Skip.node in record {
      left = λ f S.
          goes_as L c.args.root S c.args.at (Entering n) c.args.answer.now Skip c.in-Entering-Skip.is-0 c.in-Entering-Skip.is-1
          ∙ c.climb-in-Entering-Skip.ensures.left (subst (Fit L c.args.root) c.in-Entering-Skip.is-0 f).1 S;
      fits = λ f. c.climb-in-Entering-Skip.ensures.fits (subst (Fit L c.args.root) c.in-Entering-Skip.is-0 f).1;
      begun = c.climb-in-Entering-Skip.ensures.begun;
    }

pub returns-in-Leaving-Advance : goal.returns-in-Leaving-Advance
returns-in-Leaving-Advance g c =
    let L = links (nodes c.args.context.now) c.args.config in
    let n = c.in-Leaving-Advance.node in record {
      left = λ f S.
          goes_as L c.args.root S c.args.at (Leaving n) c.args.answer.now Advance c.in-Leaving-Advance.is-0 c.in-Leaving-Advance.is-1
          ∙ c.climb-in-Leaving-Advance.ensures.left (subst (Fit L c.args.root) c.in-Leaving-Advance.is-0 f).1 S;
      fits = λ f. c.climb-in-Leaving-Advance.ensures.fits (subst (Fit L c.args.root) c.in-Leaving-Advance.is-0 f).1;
      begun = c.climb-in-Leaving-Advance.ensures.begun;
    }

pub returns-in-Leaving-Skip : goal.returns-in-Leaving-Skip
returns-in-Leaving-Skip g c =
    let L = links (nodes c.args.context.now) c.args.config in
    let n = c.in-Leaving-Skip.node in record {
      left = λ f S.
          goes_as L c.args.root S c.args.at (Leaving n) c.args.answer.now Skip c.in-Leaving-Skip.is-0 c.in-Leaving-Skip.is-1
          ∙ c.climb-in-Leaving-Skip.ensures.left (subst (Fit L c.args.root) c.in-Leaving-Skip.is-0 f).1 S;
      fits = λ f. c.climb-in-Leaving-Skip.ensures.fits (subst (Fit L c.args.root) c.in-Leaving-Skip.is-0 f).1;
      begun = c.climb-in-Leaving-Skip.ensures.begun;
    }
