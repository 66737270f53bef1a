-- What a step of a held walk keeps and gives. Assumes nothing.
use Rattle.std.proofs.Common.{◌≡◌, refl, sym, ap, subst, ◌∙◌, ◌++◌, ◌<◌, Bool, List, length, Some, Option}
use mathlib.Core.Logic.{∥∥₁_elim}
use Rattle.orders.specs.declared.place.At.{At}
use Rattle.orders.specs.declared.place.At.TheVariants.{Start, Entering, Leaving, Ended}
use Rattle.orders.specs.declared.walk_result.WalkResult.{WalkResult}
use Rattle.orders.specs.declared.walk_result.WalkResult.TheVariants.{Advance}
use Rattle.orders.specs.Logs.{Next, Shown}
use Rattle.orders.specs.Places.{Begun, Fit, Links, goes, kids, never, node_at, remaining, shows}
use Rattle.orders.specs.Runs.{Held, answered}
use Rattle.orders.proofs.Holding.{held_start, held_step}
use Rattle.orders.proofs.Runs.{falls}
use Rattle.records.specs.declared.ir_node.IRNode.{IRNode}
use Rattle.forest.proofs.Above.{node_same}
use Rattle.ir.specs.Stores.{nodes}
use Rattle.walkers.specs.declared.walk.Walk.{Walk}
use Rattle.ir.specs.declared.context.Context.{Context}
use Rattle.walkers.specs.declared.config.WalkConfig.{WalkConfig}
use Rattle.walkers.specs.Bare.{bare}
use Rattle.walkers.specs.HeldWalks.{Gave, started, goes_on, Stands, Steps, to_come, with_answer}
use Rattle.walkers.specs.Links.{links}
use Rattle.walkers.proofs.Bare.{same_way}
use Rattle.walkers.proofs.Loops.{has_node}
use Rattle.walkers.proofs.Stores.{have, list_set, over_children}

module _ {B : Type 0} where
  -- a held walk stands at a place that fits
  fit_of : (L : Links IRNode) (root : IRNode) (at : At IRNode) (log : List (Shown IRNode B)) → Held L root at log → Fit L root at
  fit_of L root Start log h = tt
  fit_of L root (Entering n) log h = (h.awaits n refl Advance).fits
  fit_of L root (Leaving n) log h = (h.awaits n refl Advance).fits
  fit_of L root Ended log h = tt

  with_answered : (at : At IRNode) (log : List (Shown IRNode B)) (a : WalkResult B) → answered at log a ≡ with_answer (node_at at) log a
  with_answered Start log a = refl
  with_answered (Entering n) log a = refl
  with_answered (Leaving n) log a = refl
  with_answered Ended log a = refl

module _ (w : Walk) (to : At IRNode) where
  abbrev L : Links IRNode
  L = links (nodes w.context.now) w.config

  -- the walk after the step
  abbrev stepped : ∥ Fit L w.root to ∥₁ → Walk
  stepped fits = record { context = w.context; config = w.config; root = w.root; at = to; fits = fits }

  module _ {B : Type 0} (a : WalkResult B) (left : Fit L w.root w.at → (S : IRNode → Bool) → goes L w.root S w.at a ≡ shows to ++ remaining L w.root S to)
      (still : Fit L w.root w.at → Fit L w.root to) (begun : Begun to) (r : Option IRNode) (is : r ≡ node_at to) where
    step_of : (log : List (Shown IRNode (Unit {0}))) (last : Option IRNode) → Stands w log last → Held L w.root to (with_answer last log (bare a)) × Next L.up L.early (kids L) w.root (with_answer last log (bare a)) (node_at to)
    step_of log last h =
        let f = fit_of L w.root w.at log h.held in
        subst (λ (x : List (Shown IRNode (Unit {0}))). Held L w.root to x × Next L.up L.early (kids L) w.root x (node_at to))
        (with_answered w.at log (bare a) ∙ ap (λ (x : Option IRNode). with_answer x log (bare a)) h.awaits)
        (held_step node_same L (have w.context.now w.config) w.root w.at (bare a) log h.held to (λ S. same_way L w.root S w.at a ∙ left f S) (still f) begun)

    pub steps : (fits : ∥ Fit L w.root to ∥₁) → Steps w (bare a) r (stepped fits)
    steps fits = record {
      on = refl;
      by = refl;
      from = refl;
      begins = λ e. record { held = held_start L w.root w.at e; awaits = ap node_at e };
      stands = λ log last h. record { held = (step_of log last h).0; awaits = sym is };
      next = λ log last h. over_children (λ p f c. Next p f c w.root (with_answer last log (bare a)) r) w.context.now w.config
          (subst (λ (x : Option IRNode). Next L.up L.early (kids L) w.root (with_answer last log (bare a)) x) (sym is) (step_of log last h).1);
    }

    pub less : (n : IRNode) → r ≡ Some n → length (remaining L w.root never to) < to_come w
    less n e =
        falls L w.root n w.at to a
        (∥∥₁_elim w.fits (list_set _ _) (λ (f : Fit L w.root w.at). left f never ∙ ap (λ l. l ++ remaining L w.root never to) (has_node to n (sym is ∙ e))))

-- a walk that was started and stepped is one of its store, its configuration and its root, and stands after its log
pub gave_stands : {s : Context} {k : WalkConfig} {root : IRNode} {w : Walk} {log : List (Shown IRNode (Unit {0}))} {last : Option IRNode} → Gave s k root w log last
    → (w.context.now ≡ s) × (w.config ≡ k) × (w.root ≡ root) × Stands w log last
gave_stands (started {w} h) =
    (h.1.on, h.1.by, h.1.from, record { held = held_start (links (nodes w.context.now) w.config) w.root w.at h.1.fresh; awaits = ap node_at h.1.fresh })
gave_stands {s = s} (goes_on {w} {u} {log} {last} a g p) =
    let i = gave_stands g in (subst (λ x. x.now ≡ s) (sym p.on) i.0, p.by ∙ i.1, p.from ∙ i.2, p.stands log last i.3)
