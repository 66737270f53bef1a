-- The walk of a visitor that ends it at a terminator finds the first terminator of the order. Assumes nothing.
use Rattle.std.proofs.Common.{◌≡◌, refl, sym, ap, subst, ◌∙◌, List, [], ◌∷◌, ◌++◌, inl, inr, Bool, true, false, cond, Some, None, Ok, Option}
use Rattle.linked_list.specs.Links.{In}
use Rattle.orders.specs.declared.walk_result.WalkResult.{WalkResult}
use Rattle.orders.specs.declared.walk_result.WalkResult.TheVariants.{Advance, Break, Skip}
use Rattle.orders.specs.Logs.{Ending, GoesOn, Shown, Shows, Unbroken, broken, ended, more, none, nodes as shown_nodes, shown}
use Rattle.orders.proofs.Logs.{less_none}
use Rattle.records.specs.declared.handles.OpPtr.{OpPtr}
use Rattle.records.specs.declared.ir_node.IRNode.{IRNode}
use Rattle.records.specs.declared.ir_node.IRNode.TheVariants as node
use Rattle.records.specs.Children.{Lists}
use Rattle.ir.specs.declared.context.Context.{Context}
use Rattle.ir.specs.Stores.{nodes}
use Rattle.walkers.specs.declared.config.TheConstants.{WALKCONFIG_PREORDER_FORWARD}
use Rattle.walkers.specs.Walks.{Reads, WalkCall, WalkRead}
use Rattle.passes.specs.declared.finding.TerminatorFinder.{TerminatorFinder}
use Rattle.passes.specs.Terminators.{FirstIn, FirstTerminatorCall, first_terminator, is_terminator, seeking_answer}

head_is : {N : Type 0} {a b : N} {xs ys : List N} → a ∷ xs ≡ b ∷ ys → a ≡ b
head_is e = cc

tail_is : {N : Type 0} {a b : N} {xs ys : List N} → a ∷ xs ≡ b ∷ ys → xs ≡ ys
tail_is e = cc

-- the answer by whether an operation is a terminator
skips_not : (b : Bool) (op : OpPtr) → cond b (Break op) Advance ≡ Skip → ⊥
skips_not true op e = cc
skips_not false op e = cc

passed_over : (b : Bool) (op : OpPtr) (later : Option OpPtr) → GoesOn (cond b (Break op) Advance) → cond b (Some op) later ≡ later
passed_over true op later g = absurd g
passed_over false op later g = refl

stopped : (b : Bool) (op found : OpPtr) (later : Option OpPtr) → cond b (Break op) Advance ≡ Break found → cond b (Some op) later ≡ Some found
stopped true op found later e = cc
stopped false op found later e = cc

-- what a walk found that says this
abbrev pub found_by : WalkResult OpPtr → Option OpPtr
found_by (Break op) = Some op
found_by Advance = None
found_by Skip = None

module _ (s : Context) where
  abbrev Log : Type 0
  Log = List (Shown IRNode OpPtr)

  abbrev Visits : TerminatorFinder → IRNode → WalkResult OpPtr → TerminatorFinder → Type 0
  Visits = Reads (λ v c n. seeking_answer c n) (λ v c n. v) s

  never_skips : (n : IRNode) → seeking_answer s n ≡ Skip → ⊥
  never_skips (node.Operation op) e = skips_not (is_terminator s op) op e
  never_skips (node.BasicBlock block) e = cc
  never_skips (node.Region region) e = cc

  none_skipped : {v w : TerminatorFinder} {log : Log} → Shows Visits v log w → (n : IRNode) → In (shown n Skip) log → ⊥
  none_skipped none n i = i
  none_skipped (more x v t) n (inl e) = never_skips x.node (sym v.0 ∙ ap (λ (y : Shown IRNode OpPtr). y.answer) (sym e))
  none_skipped (more x v t) n (inr i) = none_skipped t n i

  goes_past : (n : IRNode) (ns : List IRNode) → GoesOn (seeking_answer s n) → first_terminator s (n ∷ ns) ≡ first_terminator s ns
  goes_past (node.Operation op) ns g = passed_over (is_terminator s op) op (first_terminator s ns) g
  goes_past (node.BasicBlock block) ns g = refl
  goes_past (node.Region region) ns g = refl

  stops_at : (n : IRNode) (ns : List IRNode) (op : OpPtr) → seeking_answer s n ≡ Break op → first_terminator s (n ∷ ns) ≡ Some op
  stops_at (node.Operation p) ns op e = stopped (is_terminator s p) p op (first_terminator s ns) e
  stops_at (node.BasicBlock block) ns op e = cc
  stops_at (node.Region region) ns op e = cc

  -- a walk that no answer ended met no terminator; one that was ended was ended by the first
  none_met : {v w : TerminatorFinder} {log : Log} → Shows Visits v log w → Unbroken log → first_terminator s (shown_nodes log) ≡ None
  none_met none u = refl
  none_met (more x {log} v t) u = goes_past x.node (shown_nodes log) (subst GoesOn v.0 u.0) ∙ none_met t u.1

  first_met : {v w : TerminatorFinder} {log : Log} → Shows Visits v log w → (before : Log) (n : IRNode) (op : OpPtr) (rest : List IRNode)
      → log ≡ before ++ (shown n (Break op) ∷ []) → Unbroken before → first_terminator s (shown_nodes log ++ rest) ≡ Some op
  first_met none [] n op rest e u = cc
  first_met none (b ∷ bs) n op rest e u = cc
  first_met (more x {log} v t) [] n op rest e u =
      stops_at x.node (shown_nodes log ++ rest) op (sym v.0 ∙ ap (λ (y : Shown IRNode OpPtr). y.answer) (head_is e))
  first_met (more x {log} v t) (b ∷ bs) n op rest e u =
      goes_past x.node (shown_nodes log ++ rest) (subst GoesOn (sym (ap (λ (y : Shown IRNode OpPtr). y.answer) (head_is e)) ∙ v.0) u.0)
      ∙ first_met t bs n op rest (tail_is e) u.1

  finds : {v w : TerminatorFinder} {log : Log} {order : List IRNode} {say : WalkResult OpPtr} → Shows Visits v log w → Ending log order say
      → found_by say ≡ first_terminator s order
  finds t (ended u e) = sym (none_met t u) ∙ ap (first_terminator s) e
  finds t (broken before n op rest e u f) = sym (first_met t before n op rest e u) ∙ ap (first_terminator s) f

  finds_first : (root : IRNode) (v w : TerminatorFinder) (say : WalkResult OpPtr)
      → WalkRead (λ v c n. seeking_answer c n) (λ v c n. v) s WALKCONFIG_PREORDER_FORWARD root v say w → (l : Lists (nodes s)) → FirstIn s l root (found_by say)
  finds_first root v w say k l =
      let walked = k.walked l in
      record {
        order = walked.whole;
        whole = walked.is_whole;
        first = finds k.shows walked.ending ∙ ap (first_terminator s) (less_none (λ x d. none_skipped k.shows d.by d.skipped) walked.cut);
      }

  pub found : (root : OpPtr) (v w : TerminatorFinder) (say told : WalkResult OpPtr)
      → WalkCall (λ v c n. seeking_answer c n) (λ v c n. v) s WALKCONFIG_PREORDER_FORWARD (node.Operation root) v (Ok say) w → say ≡ told
      → FirstTerminatorCall s root (Ok (found_by told))
  found root v w say told h e = (h.0, λ l. subst (λ x. FirstIn s l (node.Operation root) (found_by x)) e (finds_first (node.Operation root) v w say h.1 l))
