-- Small trees in a store, the ways in which they are walked, and what is answered.
use Rattle.std.specs.Prelude.{◌≡◌, ◌≢◌, List, [], ◌∷◌}
use Rattle.linked_list.specs.Links.{In}
use Rattle.orders.specs.declared.walk_result.WalkResult.{WalkResult}
use Rattle.orders.specs.declared.walk_result.WalkResult.TheVariants.{Advance}
use Rattle.orders.specs.Logs.{Shown, shown}
use Rattle.records.specs.declared.handles.BlockPtr.{BlockPtr}
use Rattle.records.specs.declared.handles.OpPtr.{OpPtr}
use Rattle.records.specs.declared.handles.RegionPtr.{RegionPtr}
use Rattle.records.specs.declared.ir_node.IRNode.TheVariants.{Operation, BasicBlock, Region}
use Rattle.ir.specs.declared.context.Context.{Context}
use Rattle.ir.specs.Stores.{nodes}
use Rattle.walkers.specs.declared.config.Direction.TheVariants.{Forward}
use Rattle.walkers.specs.declared.config.Order.TheVariants.{PreOrder, PostOrder}
use Rattle.walkers.specs.declared.config.WalkConfig.{WalkConfig}
use Rattle.records.specs.Children.{Lists, children}

-- The region r holds two blocks, b0 and then b1; b1 is empty, and b0 holds anything.
pub record TwoBlocks (s : Context) (l : Lists (nodes s)) (r : RegionPtr) (b0 b1 : BlockPtr) : Type 0 where
  pub of_r : children (nodes s) l (Region r) ≡ BasicBlock b0 ∷ (BasicBlock b1 ∷ [])
  pub of_b1 : children (nodes s) l (BasicBlock b1) ≡ []

-- The operation o0 has one region, r0, which holds one block, b0, which holds the operations o1 and then o2; o1 has one region, r1,
-- which holds one block, b1; b1 is empty, and o2 has no region.
pub record Nested (s : Context) (l : Lists (nodes s)) (o0 o1 o2 : OpPtr) (r0 r1 : RegionPtr) (b0 b1 : BlockPtr) : Type 0 where
  pub of_o0 : children (nodes s) l (Operation o0) ≡ Region r0 ∷ []
  pub of_r0 : children (nodes s) l (Region r0) ≡ BasicBlock b0 ∷ []
  pub of_b0 : children (nodes s) l (BasicBlock b0) ≡ Operation o1 ∷ (Operation o2 ∷ [])
  pub of_o1 : children (nodes s) l (Operation o1) ≡ Region r1 ∷ []
  pub of_r1 : children (nodes s) l (Region r1) ≡ BasicBlock b1 ∷ []
  pub of_b1 : children (nodes s) l (BasicBlock b1) ≡ []
  pub of_o2 : children (nodes s) l (Operation o2) ≡ []

-- each node before its children, forward
abbrev pub all_first : WalkConfig
all_first = record { regions_in_op = (PreOrder, Forward); ops_in_block = (PreOrder, Forward); blocks_in_region = (PreOrder, Forward) }

-- each operation after its regions, all else before its children, forward
abbrev pub operations_last : WalkConfig
operations_last = record { regions_in_op = (PostOrder, Forward); ops_in_block = (PreOrder, Forward); blocks_in_region = (PreOrder, Forward) }

-- The node n was answered a, if it was shown, and every other node Advance.
pub record OnlyAt {N B : Type 0} (n : N) (a : WalkResult B) (log : List (Shown N B)) : Type 0 where
  pub here : (x : WalkResult B) → In (shown n x) log → x ≡ a
  pub elsewhere : (m : N) (x : WalkResult B) → m ≢ n → In (shown m x) log → x ≡ Advance
