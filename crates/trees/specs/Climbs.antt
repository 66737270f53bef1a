-- Nodes with at most one parent each, and what lies inside a node.
use Rattle.std.specs.Prelude.{◌≡◌, Some, None, Option}

-- climbing from a node, from parent to parent, comes to a node without a parent
pub data Ends {N : Type 0} (p : N → Option N) : N → Type 0 where
  root : {n : N} → p n ≡ None → Ends p n
  child : {n : N} (m : N) → p n ≡ Some m → Ends p m → Ends p n

-- the node m is n, or lies below it at any depth
pub data Within {N : Type 0} (p : N → Option N) (n : N) : N → Type 0 where
  self : {m : N} → m ≡ n → Within p n m
  below : {m : N} (k : N) → p m ≡ Some k → Within p n k → Within p n m

-- every climb ends, and so no node lies below itself
abbrev pub Acyclic : {N : Type 0} → (N → Option N) → Type 0
Acyclic {N} p = ∥ ((n : N) → Ends p n) ∥₁

-- the node has a parent that is the node itself or lies inside it
pub record ContainsItself {N : Type 0} (p : N → Option N) (n : N) : Type 0 where
  pub above : N
  pub parent : p n ≡ Some above
  pub inside : Within p n above
