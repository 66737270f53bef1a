-- The machine of a walk: links as it reads them, the order that they give, and what is left of it at a place.
use Rattle.std.specs.Prelude.{◌≡◌, ℕ, zero, suc, ◌-◌, ◌≤◌, Bool, true, false, List, [], ◌∷◌, ◌++◌, length, Some, None, Option}
use Rattle.trees.specs.Climbs.{Within}
use Rattle.orders.specs.declared.place.At.{At}
use Rattle.orders.specs.declared.place.At.TheVariants.{Start, Entering, Leaving, Ended}
use Rattle.orders.specs.declared.walk_result.WalkResult.{WalkResult}
use Rattle.orders.specs.declared.walk_result.WalkResult.TheVariants.{Advance, Skip, Break}

-- The links as a walk reads them; limit is the number of places of the store.
pub record Links (N : Type 0) : Type 0 where
  pub first : N → Option N
  pub next : N → Option N
  pub up : N → Option N
  pub early : N → Bool
  pub limit : ℕ

-- the nodes from o on, by g, at most f of them
unfoldable pub chain : {N : Type 0} → (N → Option N) → ℕ → Option N → List N
chain g zero o = []
chain g (suc f) None = []
chain g (suc f) (Some n) = n ∷ chain g f (g n)

-- how many nodes stand above n
unfoldable pub depth : {N : Type 0} → Links N → N → ℕ
depth L n = length (chain L.up L.limit (L.up n))

-- the children of n
unfoldable pub kids : {N : Type 0} → Links N → N → List N
kids L n = chain L.next L.limit (L.first n)

-- what follows n among its parent's children
unfoldable pub siblings : {N : Type 0} → Links N → N → List N
siblings L n = chain L.next L.limit (L.next n)

-- the lists of the nodes, one after another
abbrev pub flat : {N : Type 0} → (N → List N) → List N → List N
flat g [] = []
flat g (n ∷ ns) = g n ++ flat g ns

-- the node where it is early
abbrev pub before : {N : Type 0} → Bool → N → List N
before true n = n ∷ []
before false n = []

-- the node where it is not early
abbrev pub after : {N : Type 0} → Bool → N → List N
after true n = []
after false n = n ∷ []

-- what is shown below a node: nothing where the node is early and skipped
abbrev pub inner : {N : Type 0} → Bool → Bool → List N → List N
inner true true xs = []
inner true false xs = xs
inner false b xs = xs

-- the list of the node that is there
abbrev pub over : {N : Type 0} → Option N → (N → List N) → List N
over None g = []
over (Some p) g = g p

-- the order from n, f levels deep, less what lies below the early nodes that S tells
unfoldable pub order_at : {N : Type 0} → Links N → (N → Bool) → ℕ → N → List N
order_at L S zero n = []
order_at L S (suc f) n = before (L.early n) n ++ (inner (L.early n) (S n) (flat (order_at L S f) (kids L n)) ++ after (L.early n) n)

-- the order from n, less what lies below the early nodes that S tells
unfoldable pub order : {N : Type 0} → Links N → (N → Bool) → N → List N
order L S n = order_at L S (suc L.limit - depth L n) n

-- what comes after n and all that lies below it, d levels up
unfoldable pub rest_at : {N : Type 0} → Links N → (N → Bool) → ℕ → N → List N
rest_at L S zero n = []
rest_at L S (suc d) n = flat (order L S) (siblings L n) ++ over (L.up n) (λ p. after (L.early p) p ++ rest_at L S d p)

-- what comes after n and all that lies below it, up to the root
unfoldable pub rest : {N : Type 0} → Links N → N → (N → Bool) → N → List N
rest L root S n = rest_at L S (depth L n - depth L root) n

-- what the machine needs of the links
pub record Regular {N : Type 0} (L : Links N) : Type 0 where
  pub kid : (n c : N) → L.first n ≡ Some c → (kids L n ≡ c ∷ siblings L c) × (L.up c ≡ Some n)
  pub sibling : (n p s : N) → L.up n ≡ Some p → L.next n ≡ Some s → (siblings L n ≡ s ∷ siblings L s) × (L.up s ≡ Some p)
  pub deep : (n p : N) → L.up n ≡ Some p → depth L n ≡ suc (depth L p)
  pub high : (n : N) → depth L n ≤ L.limit

-- the node that a place shows
abbrev pub shows : {N : Type 0} → At N → List N
shows Start = []
shows (Entering n) = n ∷ []
shows (Leaving n) = n ∷ []
shows Ended = []

-- that node, if there is one
abbrev pub node_at : {N : Type 0} → At N → Option N
node_at Start = None
node_at (Entering n) = Some n
node_at (Leaving n) = Some n
node_at Ended = None

-- what is to come after a place
abbrev pub remaining : {N : Type 0} → Links N → N → (N → Bool) → At N → List N
remaining L root S Start = order L S root ++ rest L root S root
remaining L root S (Entering n) = inner true (S n) (flat (order L S) (kids L n)) ++ rest L root S n
remaining L root S (Leaving n) = rest L root S n
remaining L root S Ended = []

-- what is to come once the node of a place was answered
abbrev pub goes : {N B : Type 0} → Links N → N → (N → Bool) → At N → WalkResult B → List N
goes L root S Start a = order L S root ++ rest L root S root
goes L root S (Entering n) Advance = flat (order L S) (kids L n) ++ rest L root S n
goes L root S (Entering n) Skip = rest L root S n
goes L root S (Entering n) (Break b) = []
goes L root S (Leaving n) Advance = rest L root S n
goes L root S (Leaving n) Skip = rest L root S n
goes L root S (Leaving n) (Break b) = []
goes L root S Ended a = []

-- a place stands in the tree, and shows its node at the right time
abbrev pub Fit : {N : Type 0} → Links N → N → At N → Type 0
Fit L root Start = Unit {0}
Fit L root (Entering n) = (L.early n ≡ true) × Within L.up root n
Fit L root (Leaving n) = (L.early n ≡ false) × Within L.up root n
Fit L root Ended = Unit {0}

-- a place at which a node is shown
abbrev pub Showing : {N : Type 0} → At N → Type 0
Showing Start = ⊥
Showing (Entering n) = Unit {0}
Showing (Leaving n) = Unit {0}
Showing Ended = ⊥

-- a place that a step came to
abbrev pub Begun : {N : Type 0} → At N → Type 0
Begun Start = ⊥
Begun (Entering n) = Unit {0}
Begun (Leaving n) = Unit {0}
Begun Ended = Unit {0}

-- no node is skipped
abbrev pub never : {N : Type 0} → N → Bool
never n = false
