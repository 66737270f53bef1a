-- The orders of the example trees, and the cases on them. Assumes nothing.
use Rattle.std.proofs.Common.{◌≡◌, refl, sym, subst, ◌∙◌, List, [], ◌∷◌, Some}
use Rattle.linked_list.specs.Links.{In}
use Rattle.orders.specs.declared.walk_result.WalkResult.{WalkResult}
use Rattle.orders.specs.declared.walk_result.WalkResult.TheVariants.{Advance, Skip, Break}
use Rattle.orders.specs.Order.{Orders, none, first, last}
use Rattle.orders.specs.Logs.{AllAdvance, Shown, nodes as shown_nodes}
use Rattle.orders.specs.Places.{kids}
use Rattle.orders.proofs.Lists.{in_all}
use Rattle.orders.proofs.Moves.{kids_up}
use Rattle.orders.proofs.Orders.{one}
use Rattle.orders.proofs.Logs.{one_walk}
use Rattle.records.specs.declared.handles.BlockPtr.{BlockPtr}
use Rattle.records.specs.declared.handles.OpPtr.{OpPtr}
use Rattle.records.specs.declared.handles.RegionPtr.{RegionPtr}
use Rattle.records.specs.declared.ir_node.IRNode.{IRNode}
use Rattle.records.specs.declared.ir_node.IRNode.TheVariants.{Operation, BasicBlock, Region}
use Rattle.records.specs.Nodes.{parent}
use Rattle.forest.proofs.Above.{node_same}
use Rattle.ir.specs.declared.context.Context.{Context}
use Rattle.ir.specs.Stores.{nodes}
use Rattle.walkers.specs.declared.config.WalkConfig.{WalkConfig}
use Rattle.walkers.specs.Children.{directed_children}
use Rattle.records.specs.Children.{Lists}
use Rattle.walkers.specs.Links.{links}
use Rattle.walkers.specs.Configs.{early}
use Rattle.walkers.specs.Walks.{WalkedIn}
use Rattle.walkers.proofs.Stores.{kids_are, sound, up_is}
use Rattle.edges.specs.Examples.{Nested, OnlyAt, TwoBlocks, all_first, operations_last}
use Rattle.edges.proofs.Skips.{keeps_the_next}
use Rattle.edges.proofs.Breaks.{stops_there}

-- a child's parent is the node whose child it is
up : (s : Context) (k : WalkConfig) (l : Lists (nodes s)) (n c : IRNode) → In c (directed_children k (nodes s) l n) → parent (nodes s) c ≡ Some n
up s k l n c i =
    let L = links (nodes s) k in
    sym (up_is (nodes s) k c) ∙ in_all (λ x. L.up x ≡ Some n) (kids L n) (kids_up L (sound s k) n) c (subst (λ (f : IRNode → List IRNode). In c (f n)) (sym (kids_are s k l)) i)

module _ {B : Type 0} (s : Context) (l : Lists (nodes s)) (log : List (Shown IRNode B)) (say : WalkResult B) where
  pub skip_keeps : (r : RegionPtr) (b0 b1 : BlockPtr) → TwoBlocks s l r b0 b1 → WalkedIn s all_first (Region r) log say → OnlyAt (BasicBlock b0) Skip log
      → (shown_nodes log ≡ Region r ∷ (BasicBlock b0 ∷ (BasicBlock b1 ∷ []))) × (say ≡ Advance)
  skip_keeps r b0 b1 t w only =
      keeps_the_next (parent (nodes s)) s.tables.forest.acyclic (early all_first) (directed_children all_first (nodes s) l) (up s all_first l)
      log say (Region r) (BasicBlock b0) (BasicBlock b1) t.of_r t.of_b1 refl refl refl (w l) only

module _ (s : Context) (l : Lists (nodes s)) (o0 o1 o2 : OpPtr) (r0 r1 : RegionPtr) (b0 b1 : BlockPtr) (t : Nested s l o0 o1 o2 r0 r1 b0 b1) where
  -- the order from the nodes, by a configuration
  abbrev From : WalkConfig → List IRNode → List IRNode → Type 0
  From k ns xs = Orders (early k) (directed_children k (nodes s) l) ns xs

  -- children as the tree has them
  on : (k : WalkConfig) (ns ms xs : List IRNode) → ms ≡ ns → From k ns xs → From k ms xs
  on k ns ms xs e = subst (λ z. From k z xs) (sym e)

  nested_first : From all_first (Operation o0 ∷ []) (Operation o0 ∷ (Region r0 ∷ (BasicBlock b0 ∷ (Operation o1 ∷ (Region r1 ∷ (BasicBlock b1 ∷ (Operation o2 ∷ [])))))))
  nested_first =
      let x1 = BasicBlock b1 ∷ [] in
      let x2 = Region r1 ∷ x1 in
      let x3 = Operation o1 ∷ (Region r1 ∷ (BasicBlock b1 ∷ (Operation o2 ∷ []))) in
      let x4 = BasicBlock b0 ∷ x3 in
      let x5 = Region r0 ∷ x4 in
      let b1_is : From all_first x1 x1 = first {xs = []} {ys = []} refl (on all_first _ _ _ t.of_b1 none) none in
      let r1_is : From all_first (Region r1 ∷ []) x2 = first {xs = x1} {ys = []} refl (on all_first _ _ _ t.of_r1 b1_is) none in
      let o2_is : From all_first (Operation o2 ∷ []) (Operation o2 ∷ []) = first {xs = []} {ys = []} refl (on all_first _ _ _ t.of_o2 none) none in
      let o1_is : From all_first (Operation o1 ∷ (Operation o2 ∷ [])) x3 = first {xs = x2} {ys = Operation o2 ∷ []} refl (on all_first _ _ _ t.of_o1 r1_is) o2_is in
      let b0_is : From all_first (BasicBlock b0 ∷ []) x4 = first {xs = x3} {ys = []} refl (on all_first _ _ _ t.of_b0 o1_is) none in
      let r0_is : From all_first (Region r0 ∷ []) x5 = first {xs = x4} {ys = []} refl (on all_first _ _ _ t.of_r0 b0_is) none in
      first {xs = x5} {ys = []} refl (on all_first _ _ _ t.of_o0 r0_is) none

  nested_last : From operations_last (Operation o0 ∷ []) (Region r0 ∷ (BasicBlock b0 ∷ (Region r1 ∷ (BasicBlock b1 ∷ (Operation o1 ∷ (Operation o2 ∷ (Operation o0 ∷ [])))))))
  nested_last =
      let x1 = BasicBlock b1 ∷ [] in
      let x2 = Region r1 ∷ x1 in
      let x3 = Region r1 ∷ (BasicBlock b1 ∷ (Operation o1 ∷ (Operation o2 ∷ []))) in
      let x4 = BasicBlock b0 ∷ x3 in
      let x5 = Region r0 ∷ x4 in
      let b1_is : From operations_last x1 x1 = first {xs = []} {ys = []} refl (on operations_last _ _ _ t.of_b1 none) none in
      let r1_is : From operations_last (Region r1 ∷ []) x2 = first {xs = x1} {ys = []} refl (on operations_last _ _ _ t.of_r1 b1_is) none in
      let o2_is : From operations_last (Operation o2 ∷ []) (Operation o2 ∷ []) = last {xs = []} {ys = []} refl (on operations_last _ _ _ t.of_o2 none) none in
      let o1_is : From operations_last (Operation o1 ∷ (Operation o2 ∷ [])) x3 = last {xs = x2} {ys = Operation o2 ∷ []} refl (on operations_last _ _ _ t.of_o1 r1_is) o2_is in
      let b0_is : From operations_last (BasicBlock b0 ∷ []) x4 = first {xs = x3} {ys = []} refl (on operations_last _ _ _ t.of_b0 o1_is) none in
      let r0_is : From operations_last (Region r0 ∷ []) x5 = first {xs = x4} {ys = []} refl (on operations_last _ _ _ t.of_r0 b0_is) none in
      last {xs = x5} {ys = []} refl (on operations_last _ _ _ t.of_o0 r0_is) none

  module _ {B : Type 0} (log : List (Shown IRNode B)) (say : WalkResult B) where
    pub come_after : WalkedIn s operations_last (Operation o0) log say → AllAdvance log
        → (shown_nodes log ≡ Region r0 ∷ (BasicBlock b0 ∷ (Region r1 ∷ (BasicBlock b1 ∷ (Operation o1 ∷ (Operation o2 ∷ (Operation o0 ∷ []))))))) × (say ≡ Advance)
    come_after w h =
        let x = one_walk (parent (nodes s)) (early operations_last) (directed_children operations_last (nodes s) l) (Operation o0) log say (w l) h in
        (one x.0.order nested_last, x.1)

    pub break_ends : (v : B) → WalkedIn s all_first (Operation o0) log say → OnlyAt (BasicBlock b1) (Break v) log
        → (shown_nodes log ≡ Operation o0 ∷ (Region r0 ∷ (BasicBlock b0 ∷ (Operation o1 ∷ (Region r1 ∷ (BasicBlock b1 ∷ [])))))) × (say ≡ Break v)
    break_ends v w only =
        stops_there node_same (parent (nodes s)) (early all_first) (directed_children all_first (nodes s) l) (Operation o0) log say (w l) (BasicBlock b1) v only
        (Operation o0 ∷ (Region r0 ∷ (BasicBlock b0 ∷ (Operation o1 ∷ (Region r1 ∷ []))))) (Operation o2 ∷ []) (one (w l).is_whole.order nested_first)
