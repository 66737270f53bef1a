-- What the edits do to the lists: a node is put at a spot, or taken out; every other list stays.
use Rattle.std.specs.Prelude.{◌≡◌, Bool, List, [], ◌∷◌, ◌++◌, Some, None, Option, ◌≢◌}
use Rattle.linked_list.specs.declared.spot.Spot.{Spot}
use Rattle.linked_list.specs.declared.spot.Spot.TheVariants.{AtFront, AtBack, Before, After}
use Rattle.linked_list.specs.Links.{View, At, Holds, Relisted}

-- what the spot names is there: its container is held, or its mark is live
abbrev pub spot_live : {N C : Type 0} → View N C → Spot N C → Bool
spot_live v (AtFront c) = v.held c
spot_live v (AtBack c) = v.held c
spot_live v (Before mark) = v.live mark
spot_live v (After mark) = v.live mark

-- the container that a node put there enters: the one named, or the one that the mark stands in, if it stands in one
abbrev pub spot_in : {N C : Type 0} → View N C → Spot N C → Option C
spot_in v (AtFront c) = Some c
spot_in v (AtBack c) = Some c
spot_in v (Before mark) = v.within mark
spot_in v (After mark) = v.within mark

-- the list ms is the list ns with the node n put at the spot
abbrev pub Puts : {N C : Type 0} → Spot N C → N → List N → List N → Type 0
Puts (AtFront c) n ns ms = ms ≡ n ∷ ns
Puts (AtBack c) n ns ms = ms ≡ ns ++ n ∷ []
Puts {N} (Before mark) n ns ms = (xs : List N) × (ys : List N) × (ns ≡ xs ++ mark ∷ ys) × (ms ≡ xs ++ n ∷ mark ∷ ys)
Puts {N} (After mark) n ns ms = (xs : List N) × (ys : List N) × (ns ≡ xs ++ mark ∷ ys) × (ms ≡ xs ++ mark ∷ n ∷ ys)

-- the list ms is the list ns without the node n
abbrev pub Takes : {N : Type 0} → N → List N → List N → Type 0
Takes {N} n ns ms = (xs : List N) × (ys : List N) × (ns ≡ xs ++ n ∷ ys) × (ms ≡ xs ++ ys)

-- the lists M are the lists L but for that of c
abbrev pub Others : {N C : Type 0} → (C → List N) → (C → List N) → C → Type 0
Others {N} {C} L M c = (d : C) → (d ≢ c) → M d ≡ L d

-- The node n, which stood in no container, is put into the container c at the spot: the list of c has it there, and every
-- other list is as it was.
pub record Inserts {N C : Type 0} (v w : View N C) (n : N) (c : C) (spot : Spot N C) : Type 0 where
  pub lists : (L M : C → List N) → Holds v L → Puts spot n (L c) (M c) → Others L M c → Holds w M
  pub moves : At v.within w.within n (Some c)
  pub live : w.live ≡ v.live
  pub held : w.held ≡ v.held

-- The node n is taken out of the container c: the list of c is without it, and every other list is as it was.
pub record Removes {N C : Type 0} (v w : View N C) (n : N) (c : C) : Type 0 where
  pub lists : (L M : C → List N) → Holds v L → Takes n (L c) (M c) → Others L M c → Holds w M
  pub moves : At v.within w.within n None
  pub live : w.live ≡ v.live
  pub held : w.held ≡ v.held

-- What an edit means for each list by itself: the list that it changes, given as it is afterwards, and that nothing else changes,
-- also where an edit is done only if the node m stands in a container.
pub record EditLaws (N C : Type 0) : Type 0 where
  pub at_front : (v w : View N C) (n : N) (c : C) (L M : C → List N) → Inserts v w n c (AtFront c) → Holds v L → Relisted L M c (n ∷ L c) → Holds w M
  pub at_back : (v w : View N C) (n : N) (c : C) (L M : C → List N) → Inserts v w n c (AtBack c) → Holds v L → Relisted L M c (L c ++ n ∷ []) → Holds w M
  pub before : (v w : View N C) (n m : N) (c : C) (L M : C → List N) (xs ys : List N) → Inserts v w n c (Before m) → Holds v L → L c ≡ xs ++ m ∷ ys → Relisted L M c (xs ++ n ∷ m ∷ ys) → Holds w M
  pub after : (v w : View N C) (n m : N) (c : C) (L M : C → List N) (xs ys : List N) → Inserts v w n c (After m) → Holds v L → L c ≡ xs ++ m ∷ ys → Relisted L M c (xs ++ m ∷ n ∷ ys) → Holds w M
  pub removed : (v w : View N C) (n : N) (c : C) (L M : C → List N) (xs ys : List N) → Removes v w n c → Holds v L → L c ≡ xs ++ n ∷ ys → Relisted L M c (xs ++ ys) → Holds w M
  pub inserted_kept : (v w : View N C) (n m : N) (spot : Spot N C) → (v.within m ≡ None → w ≡ v) → ((c : C) → v.within m ≡ Some c → Inserts v w n c spot) → (w.live ≡ v.live) × (w.held ≡ v.held)
  pub removed_kept : (v w : View N C) (m : N) → (v.within m ≡ None → w ≡ v) → ((c : C) → v.within m ≡ Some c → Removes v w m c) → (w.live ≡ v.live) × (w.held ≡ v.held) × At v.within w.within m None
