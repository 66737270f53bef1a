-- What a walk says is told by its log. Assumes nothing.
use Rattle.std.proofs.Common.{◌≡◌, refl, sym, ap, subst, ◌∙◌, Bool, List, [], ◌∷◌, ◌++◌, Some, None, Option}
use Rattle.linked_list.specs.Links.{last_or}
use Rattle.linked_list.proofs.Lists.{last_append, none_some, some_same}
use Rattle.orders.specs.declared.walk_result.WalkResult.{WalkResult}
use Rattle.orders.specs.declared.walk_result.WalkResult.TheVariants.{Advance, Skip, Break}
use Rattle.orders.specs.Logs.{Ending, GoesOn, Shown, Unbroken, Walked, broken, ended, shown}
use Rattle.orders.specs.Runs.{closed}
use Rattle.records.specs.declared.ir_node.IRNode.{IRNode}
use Rattle.walkers.specs.HeldWalks.{with_answer}

module _ {B : Type 0} where
  last_unbroken : (log : List (Shown IRNode B)) (n : IRNode) (a : WalkResult B) → Unbroken (log ++ (shown n a ∷ [])) → GoesOn a
  last_unbroken [] n a u = u.0
  last_unbroken (s ∷ log) n a u = last_unbroken log n a u.1

  goes_on_closed : (a : WalkResult B) → GoesOn a → Advance ≡ closed a
  goes_on_closed Advance g = refl
  goes_on_closed Skip g = refl
  goes_on_closed (Break b) g = absurd g

  same_last : (xs ys : List (Shown IRNode B)) (x y : Shown IRNode B) → xs ++ (x ∷ []) ≡ ys ++ (y ∷ []) → x ≡ y
  same_last xs ys x y e =
      some_same (sym (last_append xs (x ∷ []) None) ∙ ap (λ (l : List (Shown IRNode B)). last_or l None) e ∙ last_append ys (y ∷ []) None)

  not_empty : (ys : List (Shown IRNode B)) (y : Shown IRNode B) → [] ≡ ys ++ (y ∷ []) → ⊥
  not_empty ys y e = none_some (ap (λ (l : List (Shown IRNode B)). last_or l None) e ∙ last_append ys (y ∷ []) None)

  ends_with : (log : List (Shown IRNode B)) (less : List IRNode) (n : IRNode) (a r : WalkResult B) (all : List (Shown IRNode B)) → all ≡ log ++ (shown n a ∷ []) → Ending all less r → r ≡ closed a
  ends_with log less n a r all e (ended u q) = goes_on_closed a (last_unbroken log n a (subst Unbroken e u))
  ends_with log less n a r all e (broken before m b rest l u q) =
      ap (λ (s : Shown IRNode B). closed s.answer) (same_last before log (shown m (Break b)) (shown n a) (sym l ∙ e))

  ends_empty : (less : List IRNode) (r : WalkResult B) (all : List (Shown IRNode B)) → all ≡ [] → Ending all less r → r ≡ Advance
  ends_empty less r all e (ended u q) = refl
  ends_empty less r all e (broken before m b rest l u q) = absurd (not_empty before (shown m (Break b)) (sym e ∙ l))

  -- a held walk that came to its end says the answer to its last node, as a whole walk does
  pub walk_says : (p : IRNode → Option IRNode) (early : IRNode → Bool) (children : IRNode → List IRNode) (root : IRNode) (last : Option IRNode) (log : List (Shown IRNode B)) (a r : WalkResult B)
      → (last ≡ None → (log ≡ []) × (a ≡ Advance)) → Walked p early children root (with_answer last log a) r → r ≡ closed a
  walk_says p early children root None log a r first w = ends_empty w.less r log (first refl).0 w.ending ∙ sym (ap closed (first refl).1)
  walk_says p early children root (Some n) log a r first w = ends_with log w.less n a r (log ++ (shown n a ∷ [])) refl w.ending
