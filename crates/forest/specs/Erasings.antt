-- What erasing does: the refusals in the order in which they are tested, and else which nodes end, in which order, and what stays.
use Rattle.std.specs.Prelude.{◌≡◌, true, false, List, [], ◌∷◌, Some, None, Result}
use Rattle.result.specs.declared.refusal.Refusal.{Refusal}
use Rattle.result.specs.declared.refusal.Refusal.TheVariants.{Dangling, FixedBody, GoesThroughTable}
use Rattle.result.specs.Rows.{Answered}
use Rattle.linked_list.specs.Edits.{Others, Takes}
use Rattle.linked_list.specs.Links.{Holds, In, View}
use Rattle.trees.specs.Climbs.{Within}
use Rattle.orders.specs.Logs.{Whole}
use Rattle.orders.specs.Places.{never}
use Rattle.records.specs.declared.handles.BlockPtr.{BlockPtr}
use Rattle.records.specs.declared.handles.OpPtr.{OpPtr}
use Rattle.records.specs.declared.handles.RegionPtr.{RegionPtr}
use Rattle.records.specs.declared.ir_node.IRNode.{IRNode}
use Rattle.records.specs.declared.ir_node.IRNode.TheVariants as node
use Rattle.records.specs.Children.{Lists, children, is_live}
use Rattle.records.specs.Endings.{but_links, without_all}
use Rattle.records.specs.Models.{Model}
use Rattle.records.specs.Nodes.{is, of_table, parent, table_bound}
use Rattle.records.specs.Views.{block_links, op_links}
use Rattle.forest.specs.declared.forest.Forest.{Forest}
use Rattle.forest.specs.Forests.{model}

-- the refusals of erasing an operation, uppermost first
abbrev pub erase_op_rows : Model → OpPtr → List (Refusal × Type 0)
erase_op_rows m op =
    (Dangling, (op_links m).live op ≡ false)
    ∷ (GoesThroughTable, table_bound m op ((op_links m).within op) ≡ true)
    ∷ []

-- the refusals of erasing a block, uppermost first
abbrev pub erase_block_rows : Model → BlockPtr → List (Refusal × Type 0)
erase_block_rows m block =
    (Dangling, (block_links m).live block ≡ false)
    ∷ (FixedBody, is (of_table m) ((block_links m).within block) ≡ true)
    ∷ []

-- The node n and all that lies below it end, and no other node. The nodes ends are these, all live before, in forward post-order:
-- the children of a node in order, each after all below it, and the node after them. They end one after another, so their places are
-- free in that order, and all else of the tables but links is as it was: every other record, its version, and the counts of makings.
-- Every node that stays has the parent that it had.
pub record Ended (m : Model) (n : IRNode) (t : Model) : Type 0 where
  pub ends : List IRNode
  pub alive : (x : IRNode) → In x ends → is_live m x ≡ true
  pub whole : (l : Lists m) → Whole (parent m) never (children m l) n ends
  pub gone : (x : IRNode) → Within (parent m) n x → is_live t x ≡ false
  pub stays : (x : IRNode) → (Within (parent m) n x → ⊥) → is_live t x ≡ is_live m x
  pub places : but_links t ≡ without_all ends (but_links m)
  pub parents : (x : IRNode) → is_live t x ≡ true → parent t x ≡ parent m x

-- The lists M are the lists L with the node n taken out of the list of its container, if it stands in one.
pub record TakenOut {N C : Type 0} (v : View N C) (n : N) (L M : C → List N) : Type 0 where
  pub linked : (c : C) → v.within n ≡ Some c → Takes n (L c) (M c) × Others L M c
  pub loose : v.within n ≡ None → (c : C) → M c ≡ L c

-- The operation and all that lies below it end, the operation is gone from the children of its block, if it stood in one, and
-- every other list of children is as it was.
pub record OpErased (m : Model) (op : OpPtr) (t : Model) : Type 0 where
  pub ended : Ended m (node.Operation op) t
  pub lists : (l : Lists m) (ops : BlockPtr → List OpPtr) → TakenOut (op_links m) op l.ops ops → Holds (op_links t) ops × Holds (block_links t) l.blocks

-- the same of a block and its region
pub record BlockErased (m : Model) (block : BlockPtr) (t : Model) : Type 0 where
  pub ended : Ended m (node.BasicBlock block) t
  pub lists : (l : Lists m) (blocks : RegionPtr → List BlockPtr) → TakenOut (block_links m) block l.blocks blocks → Holds (op_links t) l.ops × Holds (block_links t) blocks

-- the two calls on the store of nodes
abbrev pub ErasesOp : Forest → OpPtr → Result (Unit {0}) Refusal → Forest → Type 0
ErasesOp f op r t = Answered (erase_op_rows (model f) op) (λ _ u. OpErased (model f) op (model u)) f r t

abbrev pub ErasesBlock : Forest → BlockPtr → Result (Unit {0}) Refusal → Forest → Type 0
ErasesBlock f block r t = Answered (erase_block_rows (model f) block) (λ _ u. BlockErased (model f) block (model u)) f r t
