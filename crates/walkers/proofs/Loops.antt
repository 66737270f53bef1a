-- What a walk's loop keeps, for any kind of visitor. Assumes nothing.
use Rattle.std.proofs.Common.{◌≡◌, refl, sym, ap, ◌∙◌, ◌++◌, List, [], ◌∷◌, Bool, ◌<◌, length, Some, None}
use Rattle.linked_list.proofs.Lists.{none_some, some_same}
use Rattle.orders.specs.declared.place.At.{At}
use Rattle.orders.specs.declared.place.At.TheVariants.{Start, Entering, Leaving, Ended}
use Rattle.orders.specs.declared.walk_result.WalkResult.{WalkResult}
use Rattle.orders.specs.declared.walk_result.WalkResult.TheVariants.{Advance}
use Rattle.orders.specs.Logs.{Shown, Shows, Walked, none}
use Rattle.orders.specs.Places.{Begun, Fit, Links, goes, kids, never, node_at, remaining, shows}
use Rattle.orders.specs.Runs.{Going, closed}
use Rattle.orders.proofs.Logs.{shows_more}
use Rattle.orders.proofs.Runs.{falls, going_ends, going_more, going_start}
use Rattle.orders.proofs.Stands.{Grown}
use Rattle.records.specs.declared.ir_node.IRNode.{IRNode}
use Rattle.forest.proofs.Above.{node_same}

-- a place that has a node shows it, and one to which a step came and that has none is the end
pub has_node : (a : At IRNode) (n : IRNode) → node_at a ≡ Some n → shows a ≡ n ∷ []
has_node Start n e = absurd (none_some e)
has_node (Entering m) n e = ap (λ x. x ∷ []) (some_same e)
has_node (Leaving m) n e = ap (λ x. x ∷ []) (some_same e)
has_node Ended n e = absurd (none_some e)

no_node : (a : At IRNode) → Begun a → node_at a ≡ None → a ≡ Ended
no_node Start b e = absurd b
no_node (Entering m) b e = absurd (none_some (sym e))
no_node (Leaving m) b e = absurd (none_some (sym e))
no_node Ended b e = refl

module _ {X B : Type 0} (visits : X → IRNode → WalkResult B → X → Type 0) (L : Links IRNode) (root : IRNode) (x : X) where
  -- The visitor was shown the nodes of a log, and the walk stands after it.
  pub record Driven (y : X) (at : At IRNode) (a : WalkResult B) : Type 0 where
    pub log : List (Shown IRNode B)
    pub shown : Shows visits x log y
    pub going : Going L root at a log

  pub starts : Driven x Start Advance
  starts = record { log = []; shown = none; going = going_start L root Start Advance refl refl }

  module _ (g : Grown L) (y : X) (at to : At IRNode) (a : WalkResult B) (left : (S : IRNode → Bool) → goes L root S at a ≡ shows to ++ remaining L root S to) where
    -- what is left where the place has a node, and where it has none
    one : (n : IRNode) → node_at to ≡ Some n → (S : IRNode → Bool) → goes L root S at a ≡ n ∷ remaining L root S to
    one n e S = left S ∙ ap (λ l. l ++ remaining L root S to) (has_node to n e)

    pub goes_on : Driven y at a → Fit L root to → (n : IRNode) → node_at to ≡ Some n → (b : WalkResult B) (z : X) → visits y n b z → Driven z to b
    goes_on d fits n e b z v = record {
      log = d.log ++ (record { node = n; answer = b } ∷ []);
      shown = shows_more n b d.shown v;
      going = going_more node_same L g root at a d.log d.going to n (one n e) fits (has_node to n e) b;
    }

    pub fewer : (n : IRNode) → node_at to ≡ Some n → length (remaining L root never to) < length (remaining L root never at)
    fewer n e = falls L root n at to a (one n e never)

    pub ends : (d : Driven y at a) → Begun to → node_at to ≡ None → Walked L.up L.early (kids L) root d.log (closed a)
    ends d b e =
        let q = no_node to b e in
        going_ends node_same L g root at a d.log d.going Ended (λ S. left S ∙ ap (λ x. shows x ++ remaining L root S x) q) refl (closed a) refl
