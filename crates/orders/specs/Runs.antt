-- What is kept from node to node of a walk: where it stands, and what was shown and answered so far.
use Rattle.std.specs.Prelude.{◌≡◌, Bool, true, false, List, [], ◌∷◌, ◌++◌, None}
use Rattle.linked_list.specs.Links.{Apart}
use Rattle.orders.specs.declared.place.At.{At}
use Rattle.orders.specs.declared.place.At.TheVariants.{Start, Entering, Leaving, Ended}
use Rattle.orders.specs.declared.walk_result.WalkResult.{WalkResult}
use Rattle.orders.specs.declared.walk_result.WalkResult.TheVariants.{Advance, Skip, Break}
use Rattle.orders.specs.Logs.{Shown, shown, nodes, Unbroken, Next}
use Rattle.orders.specs.Places.{Links, kids, order, rest, remaining, shows, Fit}

-- the answer is Skip
abbrev pub is_skip : {B : Type 0} → WalkResult B → Bool
is_skip Advance = false
is_skip Skip = true
is_skip (Break b) = false

-- what a whole walk says whose last answer is a
abbrev pub closed : {B : Type 0} → WalkResult B → WalkResult B
closed Advance = Advance
closed Skip = Advance
closed (Break b) = Break b

-- S tells of the nodes of the log which were answered Skip
abbrev pub Tells : {N B : Type 0} → (N → Bool) → List (Shown N B) → Type 0
Tells S [] = Unit {0}
Tells S (s ∷ log) = (S s.node ≡ is_skip s.answer) × Tells S log

-- The place is the start, where nothing was shown, or it is that of the newest node of the log, which was answered a and is the
-- only one whose answer may end the walk.
pub data Newest {N B : Type 0} (at : At N) (a : WalkResult B) (log : List (Shown N B)) : Type 0 where
  begun : at ≡ Start → a ≡ Advance → log ≡ [] → Newest at a log
  after : (earlier : List (Shown N B)) (m : N) → shows at ≡ m ∷ [] → log ≡ earlier ++ (shown m a ∷ []) → Unbroken earlier → Newest at a log

-- A walk from root stands at the place after the log, with a answered to the newest node: whatever else is skipped, what was shown
-- and what is to come are together the order.
pub record Going {N B : Type 0} (L : Links N) (root : N) (at : At N) (a : WalkResult B) (log : List (Shown N B)) : Type 0 where
  pub newest : Newest at a log
  pub apart : Apart (nodes log)
  pub fits : Fit L root at
  pub so_far : (S : N → Bool) → Tells S log → order L S root ++ rest L root S root ≡ nodes log ++ remaining L root S at

-- the log with the answer a to the node of the place; before the first node and after the last the answer is of no use
abbrev pub answered : {N B : Type 0} → At N → List (Shown N B) → WalkResult B → List (Shown N B)
answered Start log a = log
answered (Entering n) log a = log ++ (shown n a ∷ [])
answered (Leaving n) log a = log ++ (shown n a ∷ [])
answered Ended log a = log

-- A walk from root that is held stands at the place after the log, where the node of the place, if there is one, awaits its answer.
pub record Held {N B : Type 0} (L : Links N) (root : N) (at : At N) (log : List (Shown N B)) : Type 0 where
  pub start : at ≡ Start → log ≡ []
  pub awaits : (n : N) → shows at ≡ n ∷ [] → (a : WalkResult B) → Going L root at a (log ++ (shown n a ∷ []))
  pub over : at ≡ Ended → Next L.up L.early (kids L) root log None
