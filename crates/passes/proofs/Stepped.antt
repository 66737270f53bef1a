-- What going through a held walk keeps. Assumes nothing.
use Rattle.std.proofs.Common.{◌≡◌, ◌⊎◌, List, [], Some, None, Option, refl, sym, ap, ◌∙◌, subst, inl, inr}
use Rattle.linked_list.proofs.Lists.{none_some}
use Rattle.orders.specs.declared.place.At.TheVariants.{Start}
use Rattle.orders.specs.declared.walk_result.WalkResult.{WalkResult}
use Rattle.orders.specs.declared.walk_result.WalkResult.TheVariants.{Advance}
use Rattle.orders.specs.Logs.{Next, Shown, Shows, Walked, none}
use Rattle.orders.specs.Runs.{closed}
use Rattle.orders.proofs.Logs.{shows_more}
use Rattle.records.specs.declared.ir_node.IRNode.{IRNode}
use Rattle.records.specs.Nodes.{parent}
use Rattle.ir.specs.declared.context.Context.{Context}
use Rattle.ir.specs.Stores.{nodes}
use Rattle.walkers.specs.declared.config.WalkConfig.{WalkConfig}
use Rattle.walkers.specs.declared.walk.Walk.{Walk}
use Rattle.walkers.specs.Children.{directed_children}
use Rattle.walkers.specs.Bare.{bare}
use Rattle.walkers.specs.HeldWalks.{Begins, Stands, Steps, with_answer}
use Rattle.walkers.specs.Configs.{early}
use Rattle.walkers.specs.Walks.{WalkedIn}
use Rattle.walkers.proofs.Bare.{bare_answered, bare_log, next_bare}
use Rattle.walkers.proofs.Saying.{walk_says}

module _ {V B : Type 0} (visits : V → IRNode → WalkResult B → V → Type 0) (s : Context) (k : WalkConfig) (root : IRNode) (v : V) where
  -- the walk gave no node yet, or stands after the log
  abbrev Where : Walk → List (Shown IRNode (Unit {0})) → Option IRNode → Type 0
  Where w log last = ((w.at ≡ Start) × (log ≡ []) × (last ≡ None)) ⊎ Stands w log last

  -- The visitor was shown the nodes of a log and the last node, which was answered a; the walk keeps no values of answers.
  pub record Stepped (w : Walk) (u : V) (a : WalkResult B) : Type 0 where
    pub on : w.context.now ≡ s
    pub by : w.config ≡ k
    pub from : w.root ≡ root
    pub log : List (Shown IRNode B)
    pub last : Option IRNode
    pub where_it_is : Where w (bare_log log) last
    pub shown : Shows visits v (with_answer last log a) u
    pub first : last ≡ None → (log ≡ []) × (a ≡ Advance)

  pub begins : (w : Walk) → Begins s k root w → Stepped w v Advance
  begins w b = record { on = b.on; by = b.by; from = b.from; log = []; last = None; where_it_is = inl (b.fresh, refl, refl); shown = none; first = λ e. (refl, refl) }

  -- wherever it is, it stands there
  stands : (w x : Walk) (a : WalkResult (Unit {0})) (r : Option IRNode) → Steps w a r x → (log : List (Shown IRNode (Unit {0}))) (last : Option IRNode) → Where w log last → Stands w log last
  stands w x a r t log last (inl e) = subst (λ (l : Option IRNode). Stands w log l) (sym e.2) (subst (λ (g : List (Shown IRNode (Unit {0}))). Stands w g None) (sym e.1) (t.begins e.0))
  stands w x a r t log last (inr h) = h

  module _ (w x : Walk) (u : V) (a : WalkResult B) (i : Stepped w u a) where
    pub steps_on : (r : Option IRNode) → Steps w (bare a) r x → (n : IRNode) → r ≡ Some n → (b : WalkResult B) (z : V) → visits u n b z → Stepped x z b
    steps_on r t n e b z h = record {
      on = ap (λ c. c.now) t.on ∙ i.on;
      by = t.by ∙ i.by;
      from = t.from ∙ i.from;
      log = with_answer i.last i.log a;
      last = Some n;
      where_it_is = inr
          (subst (λ (g : List (Shown IRNode (Unit {0}))). Stands x g (Some n)) (bare_answered i.last i.log a)
          (subst (Stands x (with_answer i.last (bare_log i.log) (bare a))) e (t.stands (bare_log i.log) i.last (stands w x (bare a) r t (bare_log i.log) i.last i.where_it_is))));
      shown = shows_more n b i.shown h;
      first = λ q. absurd (none_some (sym q));
    }

    -- what the step's facts say of the walk's own store and way, said of the ones that it was given
    given_ones : (P : Context → WalkConfig → IRNode → Type 0) → P w.context.now w.config w.root → P s k root
    given_ones P h = subst (λ c. P c k root) i.on (subst (λ c. P w.context.now c root) i.by (subst (P w.context.now w.config) i.from h))

    pub steps_end : (r : Option IRNode) → Steps w (bare a) r x → r ≡ None → WalkedIn s k root (with_answer i.last i.log a) (closed a)
    steps_end r t e =
        given_ones (λ c y n. WalkedIn c y n (with_answer i.last i.log a) (closed a))
        (λ l.
        let up = parent (nodes w.context.now) in
        let below = directed_children w.config (nodes w.context.now) l in
        let without = t.next (bare_log i.log) i.last (stands w x (bare a) r t (bare_log i.log) i.last i.where_it_is) l in
        let with_values = next_bare up (early w.config) below w.root (with_answer i.last i.log a) r
        (subst (λ (g : List (Shown IRNode (Unit {0}))). Next up (early w.config) below w.root g r) (bare_answered i.last i.log a) without) in
        let q = with_values.ends e in
        subst (λ say. Walked up (early w.config) below w.root (with_answer i.last i.log a) say)
        (walk_says up (early w.config) below w.root i.last i.log a q.0 i.first q.1) q.1)
