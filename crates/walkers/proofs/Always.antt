-- A visitor that always advances is shown the whole order. Assumes nothing.
use Rattle.std.proofs.Common.{◌≡◌, ℕ, List}
use Rattle.orders.specs.declared.walk_result.WalkResult.{WalkResult}
use Rattle.orders.specs.declared.walk_result.WalkResult.TheVariants.{Advance}
use Rattle.orders.specs.Logs.{AllAdvance, Shown, Shows, more, none}
use Rattle.orders.proofs.Logs.{one_walk}
use Rattle.records.specs.declared.handles.OpPtr.{OpPtr}
use Rattle.records.specs.declared.ir_node.IRNode.{IRNode}
use Rattle.records.specs.Nodes.{parent}
use Rattle.ir.specs.declared.context.Context.{Context}
use Rattle.ir.specs.Stores.{nodes}
use Rattle.walkers.specs.declared.config.WalkConfig.{WalkConfig}
use Rattle.walkers.specs.Children.{directed_children}
use Rattle.walkers.specs.Configs.{early}
use Rattle.walkers.specs.Walks.{AllRead, AllWritten, Reads, WalkRead, WalkWritten, Writes, always}

module _ {X N B : Type 0} (visits : X → N → WalkResult B → X → Type 0) (advances : (x : X) (n : N) (a : WalkResult B) (y : X) → visits x n a y → a ≡ Advance) where
  all_advance : {x y : X} {log : List (Shown N B)} → Shows visits x log y → AllAdvance log
  all_advance none = tt
  all_advance (more s v t) = (advances _ s.node s.answer _ v, all_advance t)

module _ {V B : Type 0} (next : V → Context → IRNode → V) (s : Context) (k : WalkConfig) (root : IRNode) (v : V) (r : WalkResult B) (w : V) where
  pub all_read : WalkRead always next s k root v r w → AllRead B next s k root v w
  all_read h = record {
    log = h.log;
    shows = h.shows;
    whole = λ l.
        (one_walk (parent (nodes s)) (early k) (directed_children k (nodes s) l) root h.log r (h.walked l)
        (all_advance (Reads always next s) (λ x n a y e. e.0) h.shows)).0;
  }

  pub all_written : (notes : V → Context → IRNode → OpPtr → ℕ) (t : Context) → WalkWritten always next notes s k root v r w t → AllWritten B next notes s k root v w t
  all_written notes t h = record {
    log = h.log;
    shows = h.shows;
    whole = λ l.
        (one_walk (parent (nodes s)) (early k) (directed_children k (nodes s) l) root h.log r (h.walked l)
        (all_advance (Writes always next notes) (λ x n a y e. e.0) h.shows)).0;
    only = h.only;
  }
