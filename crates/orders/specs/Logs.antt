-- What a walk showed and what was answered, and what a whole walk is.
use Rattle.std.specs.Prelude.{◌≡◌, Bool, true, List, [], ◌∷◌, ◌++◌, None, Option}
use Rattle.linked_list.specs.Links.{In, Apart, first_or}
use Rattle.trees.specs.Climbs.{Within}
use Rattle.orders.specs.declared.walk_result.WalkResult.{WalkResult}
use Rattle.orders.specs.declared.walk_result.WalkResult.TheVariants.{Advance, Skip, Break}
use Rattle.orders.specs.Order.{Orders, Less, Inside}

-- One node that was shown, and what was answered to it. A log is a list of these, the oldest first.
pub record Shown (N B : Type 0) : Type 0 where
  pub node : N
  pub answer : WalkResult B

-- the node was shown and answered so
abbrev pub shown : {N B : Type 0} → N → WalkResult B → Shown N B
shown n a = record { node = n; answer = a }

-- the nodes of a log, in its order
abbrev pub nodes : {N B : Type 0} → List (Shown N B) → List N
nodes [] = []
nodes (s ∷ log) = s.node ∷ nodes log

-- the answer ends no walk
abbrev pub GoesOn : {B : Type 0} → WalkResult B → Type 0
GoesOn Advance = Unit {0}
GoesOn Skip = Unit {0}
GoesOn (Break b) = ⊥

-- no answer of the log ends a walk
abbrev pub Unbroken : {N B : Type 0} → List (Shown N B) → Type 0
Unbroken [] = Unit {0}
Unbroken (s ∷ log) = GoesOn s.answer × Unbroken log

-- every answer of the log is Advance
abbrev pub AllAdvance : {N B : Type 0} → List (Shown N B) → Type 0
AllAdvance [] = Unit {0}
AllAdvance (s ∷ log) = (s.answer ≡ Advance) × AllAdvance log

-- The node x lies below an early node that was answered Skip.
pub record Hidden {N B : Type 0} (p : N → Option N) (early : N → Bool) (log : List (Shown N B)) (x : N) : Type 0 where
  pub by : N
  pub first : early by ≡ true
  pub skipped : In (shown by Skip) log
  pub inside : Inside p by x

-- How a walk ends that shows the nodes of less in turn: either no answer ended it, all of them were shown, and the walk says
-- Advance; or the last answer ended it, the nodes shown are a first part of less, and the walk says that answer.
pub data Ending {N B : Type 0} (log : List (Shown N B)) (less : List N) : WalkResult B → Type 0 where
  ended : Unbroken log → nodes log ≡ less → Ending log less Advance
  broken : (before : List (Shown N B)) (n : N) (b : B) (rest : List N) → log ≡ before ++ (shown n (Break b) ∷ []) → Unbroken before → nodes log ++ rest ≡ less → Ending log less (Break b)

-- The list whole is the order of the node root and all that lies below it, each node once.
pub record Whole {N : Type 0} (p : N → Option N) (early : N → Bool) (children : N → List N) (root : N) (whole : List N) : Type 0 where
  pub order : Orders early children (root ∷ []) whole
  pub once : Apart whole
  pub below : (x : N) → In x whole → Within p root x
  pub all : (x : N) → Within p root x → In x whole

-- What a walk from root is: it shows the whole order, less what the answers hide, up to the answer that ends it, and says r.
pub record Walked {N B : Type 0} (p : N → Option N) (early : N → Bool) (children : N → List N) (root : N) (log : List (Shown N B)) (r : WalkResult B) : Type 0 where
  pub whole : List N
  pub is_whole : Whole p early children root whole
  pub less : List N
  pub cut : Less (λ x. Hidden p early log x → ⊥) whole less
  pub ending : Ending log less r

-- Whatever was answered, no node was shown twice, only nodes within the root were shown, and none that an answer hides; and where no
-- answer ended the walk, every other node within the root was shown.
pub record Seen {N B : Type 0} (p : N → Option N) (early : N → Bool) (root : N) (log : List (Shown N B)) (r : WalkResult B) : Type 0 where
  pub once : Apart (nodes log)
  pub within : (x : N) → In x (nodes log) → Within p root x
  pub hidden : (x : N) → In x (nodes log) → Hidden p early log x → ⊥
  pub all : r ≡ Advance → (x : N) → Within p root x → (Hidden p early log x → ⊥) → In x (nodes log)

-- A walk from root that goes on after the log: where nothing more is skipped, the nodes xs are still to come.
pub record Left {N B : Type 0} (p : N → Option N) (early : N → Bool) (children : N → List N) (root : N) (log : List (Shown N B)) (xs : List N) : Type 0 where
  pub whole : List N
  pub is_whole : Whole p early children root whole
  pub unbroken : Unbroken log
  pub cut : Less (λ x. Hidden p early log x → ⊥) whole (nodes log ++ xs)

-- The next node of a walk from root after the log is r: the first of those that are still to come, and none after an answer that ends
-- the walk. Where it is none, the log is that of a whole walk.
pub record Next {N B : Type 0} (p : N → Option N) (early : N → Bool) (children : N → List N) (root : N) (log : List (Shown N B)) (r : Option N) : Type 0 where
  pub comes : Unbroken log → (xs : List N) × Left p early children root log xs × (r ≡ first_or xs None)
  pub stops : (Unbroken log → ⊥) → r ≡ None
  pub ends : r ≡ None → (say : WalkResult B) × Walked p early children root log say

-- A visitor whose state was x was shown what the log says, in turn, gave its answers, and its state is then z.
pub data Shows {X N B : Type 0} (visits : X → N → WalkResult B → X → Type 0) : X → List (Shown N B) → X → Type 0 where
  none : {x : X} → Shows visits x [] x
  more : {x y z : X} (s : Shown N B) {log : List (Shown N B)} → visits x s.node s.answer y → Shows visits y log z → Shows visits x (s ∷ log) z
