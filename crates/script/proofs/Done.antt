-- What the field that walks answers, once its value is read.
use Rattle.std.proofs.Common.{◌≡◌, ℕ, List, [], ◌++◌, length, map, Some, None, Option, Ok, Err, sym, refl, ap, ◌∙◌, subst, arith}
use Rattle.std.specs.Option.{ok_or, option_flatten, option_map, option_zip}
use Rattle.std.proofs.lemmas.Bool.{true_from_ne_false}
use Rattle.result.specs.declared.refusal.Refusal.{Refusal}
use Rattle.result.specs.declared.refusal.Refusal.TheVariants.{BadOrdinal}
use Rattle.result.specs.Rows.{NoRow}
use Rattle.linked_list.proofs.Lists.{none_some}
use Rattle.orders.specs.declared.walk_result.WalkResult.{WalkResult}
use Rattle.orders.specs.Logs.{nodes as shown_nodes}
use Rattle.records.specs.declared.ir_node.IRNode.{IRNode}
use Rattle.walkers.specs.declared.config.WalkConfig.{WalkConfig}
use Rattle.walkers.specs.Walks.{WalkedIn, root_rows}
use Rattle.script.specs.declared.node.Node.{Node}
use Rattle.script.specs.declared.node.Close.{Close}
use Rattle.script.specs.declared.state.State.{State}
use Rattle.script.specs.declared.steering.Steering.{Steering}
use Rattle.script.specs.declared.trail.Trail.{Trail}
use Rattle.script.specs.Answers.{Steered}
use Rattle.script.specs.Linkings.{rows_of}
use Rattle.script.specs.Listed.{shown_as}
use Rattle.script.specs.Prints.{done}
use Rattle.script.specs.Runs.{Answers}
use Rattle.script.specs.Trails.{TrailWalk}
use Rattle.script.specs.Walks.{FieldWalked, HaveNumbers, NoWalk, close_of, config_asked, node_asked, node_given, steering_given, walk_named, walk_rows}
use Rattle.script.proofs.Named.{missing, there}
use Rattle.script.proofs.Shown.{few_shown, have_numbers, listed_all, steered}

module _ (s : State) (value : List ℕ) (root : Node) (skip end : Option Node) (r : node_asked value 0 ≡ Some root) (k : skip ≡ node_asked value 4) (e : end ≡ node_asked value 7) where
  read_as : walk_named s value ≡ option_zip (node_given s root) (steering_given s skip end)
  read_as =
      ap (λ o. option_zip (option_flatten (option_map (node_given s) o)) (steering_given s (node_asked value 4) (node_asked value 7))) r
      ∙ ap (λ o. option_zip (node_given s root) (steering_given s o (node_asked value 7))) (sym k)
      ∙ ap (λ o. option_zip (node_given s root) (steering_given s skip o)) (sym e)

  pub walk_is : (found : IRNode × Steering) → Ok found ≡ ok_or (option_zip (node_given s root) (steering_given s skip end)) BadOrdinal → walk_named s value ≡ Some found
  walk_is found h = read_as ∙ there _ found h

  pub walk_is_none : (f : Refusal) → Err f ≡ ok_or (option_zip (node_given s root) (steering_given s skip end)) BadOrdinal → (walk_named s value ≡ None) × (f ≡ BadOrdinal)
  walk_is_none f h = let w = missing _ f h in (read_as ∙ w.0, w.1)

-- the walk is done, and the trail's list has its nodes
pub walk_done : (s : State) (value : List ℕ) (k : WalkConfig) (asked : IRNode × Steering) (v w : Trail) (r : WalkResult (Unit {0})) (c : Close) → c ≡ close_of r → (NoWalk value → ⊥) → k ≡ config_asked value → walk_named s value ≡ Some asked
    → v.state.now ≡ s → v.steering ≡ asked.1 → v.nodes.now.items ≡ [] → TrailWalk s.context k asked.0 v (Ok r) w → (list : List Node) → list ≡ w.nodes.now.items
    → Answers (walk_rows s value) (FieldWalked s value) s (done list c) s
walk_done s value k asked v w r c closes good config is state steering empty h list same =
    let walked : WalkedIn s.context (config_asked value) asked.0 h.1.log r = subst (λ (c : WalkConfig). WalkedIn s.context c asked.0 h.1.log r) config h.1.walked in
    let there = true_from_ne_false _ h.0.0 in
    let few = few_shown s (config_asked value) asked.0 h.1.log r walked there in
    let size = ap length empty in
    let items : list ≡ map (shown_as s) (shown_nodes h.1.log) =
    same ∙ listed_all s.context h.1.shows (omega arith)
    ∙ ap (λ l. l ++ map (shown_as v.state.now) (shown_nodes h.1.log)) empty
    ∙ ap (λ (u : State). map (shown_as u) (shown_nodes h.1.log)) state in (
      (good, ((λ none. none_some (sym none ∙ is)), subst (λ p. NoRow (rows_of p (λ w. root_rows s.context w.0))) (sym is) h.0)),
      record {
        asked = asked;
        names = is;
        log = h.1.log;
        says = r;
        walked = walked;
        answers = subst (λ (y : Steering). Steered y.skip y.end h.1.log) steering (steered s.context h.1.shows);
        numbers = subst (HaveNumbers s (shown_nodes h.1.log)) (sym items) (have_numbers s (config_asked value) asked.0 h.1.log r walked there);
        closed = closes;
        kept = refl;
      },
    )
