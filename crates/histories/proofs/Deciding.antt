-- Whether a node lies below another can be decided, since every climb ends. Assumes nothing.
use Rattle.std.proofs.Common.{◌≡◌, ◌⊎◌, Option, inl, inr, ⊎_elim}
use Rattle.trees.specs.Climbs.{Ends, root, child, Within, self, below}
use Rattle.trees.proofs.Climbing.{all_end, inside_root, inside_up}
use Rattle.records.specs.declared.ir_node.IRNode.{IRNode}
use Rattle.records.specs.Nodes.{parent}
use Rattle.forest.proofs.Above.{node_same, node_set}
use Rattle.ir.specs.declared.context.Context.{Context}
use Rattle.ir.specs.Stores.{nodes}
use Rattle.histories.specs.Ledgers.{Below, Ledger, children}
use Rattle.histories.specs.Represents.{Represents}
use Rattle.histories.proofs.Nodes.{below_within, within_below}

module _ {N : Type 0} (same : (a b : N) → (a ≡ b) ⊎ (a ≡ b → ⊥)) (p : N → Option N) (n : N) where
  climbing : (x : N) → Ends p x → Within p n x ⊎ (Within p n x → ⊥)
  climbing x (root e) = ⊎_elim (λ q. inl (self q)) (λ ne. inr (λ w. ne (inside_root p n x e w))) (same x n)
  climbing x (child k e up) =
      ⊎_elim (λ q. inl (self q))
      (λ ne. ⊎_elim (λ w. inl (below k e w)) (λ out. inr (λ w. out (inside_up p n x k e ne w))) (climbing k up)) (same x n)

pub within_or_not : (s : Context) (n x : IRNode) → Within (parent (nodes s)) n x ⊎ (Within (parent (nodes s)) n x → ⊥)
within_or_not s n x = climbing node_same (parent (nodes s)) n x (all_end (parent (nodes s)) node_set s.tables.forest.acyclic x)

pub below_or_not : (s : Context) (l : Ledger) → Represents s l → (n x : IRNode) → Below (children l) n x ⊎ (Below (children l) n x → ⊥)
below_or_not s l r n x =
    ⊎_elim (λ w. inl (within_below s l r w)) (λ out. inr (λ b. out (below_within s l r b))) (within_or_not s n x)
