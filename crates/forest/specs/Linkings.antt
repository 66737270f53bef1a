-- What linking and unlinking do: the refusals in the order in which they are tested, and else the children after.
use Rattle.std.specs.Prelude.{◌≡◌, true, false, ◌⊎◌, List, [], ◌∷◌, is_some, Some, None, Ok, Err, Result}
use Rattle.result.specs.declared.refusal.Refusal.{Refusal}
use Rattle.result.specs.declared.refusal.Refusal.TheVariants.{AlreadyLinked, Dangling, FixedBody, GoesThroughTable, MarkNotLinked, NotLinked, WouldContainItself}
use Rattle.result.specs.Rows.{Answered, Uppermost}
use Rattle.linked_list.specs.declared.spot.Spot.{Spot}
use Rattle.linked_list.specs.declared.spot.Spot.TheVariants.{After, AtBack, AtFront, Before}
use Rattle.linked_list.specs.Edits.{Inserts, Removes, spot_in, spot_live}
use Rattle.linked_list.specs.Links.{View}
use Rattle.trees.specs.Climbs.{Within}
use Rattle.records.specs.declared.handles.BlockPtr.{BlockPtr}
use Rattle.records.specs.declared.handles.OpPtr.{OpPtr}
use Rattle.records.specs.declared.handles.RegionPtr.{RegionPtr}
use Rattle.records.specs.declared.ir_node.IRNode.{IRNode}
use Rattle.records.specs.declared.ir_node.IRNode.TheVariants as node
use Rattle.records.specs.Models.{Model}
use Rattle.records.specs.Nodes.{block_target, is, of_table, op_target, parent, table_bound}
use Rattle.records.specs.Views.{block_links, but_block_links, but_op_links, op_links}
use Rattle.forest.specs.declared.forest.Forest.{Forest}
use Rattle.forest.specs.Forests.{model}

-- the node, or what the spot names, is not live
abbrev pub Dead : {N C : Type 0} → View N C → N → Spot N C → Type 0
Dead v n spot = (v.live n ≡ false) ⊎ (spot_live v spot ≡ false)

-- the first refusals of linking, for a node of either kind
abbrev pub enter_rows : {N C : Type 0} → View N C → N → Spot N C → List (Refusal × Type 0)
enter_rows v n spot =
    (Dangling, Dead v n spot)
    ∷ (AlreadyLinked, is_some (v.within n) ≡ true)
    ∷ (MarkNotLinked, spot_in v spot ≡ None)
    ∷ []

-- the node and what the spot names are live, the node stands in no container, and the spot lies in the container c
pub record Passed {N C : Type 0} (v : View N C) (n : N) (spot : Spot N C) (c : C) : Type 0 where
  pub alive : v.live n ≡ true
  pub there : spot_live v spot ≡ true
  pub loose : v.within n ≡ None
  pub into : spot_in v spot ≡ Some c

-- the container that the node enters at the spot
abbrev pub Enters : {N C : Type 0} → View N C → N → Spot N C → Result C Refusal → Type 0
Enters v n spot (Ok c) = Passed v n spot c
Enters v n spot (Err e) = Uppermost (enter_rows v n spot) e

-- the first refusals of unlinking, for a node of either kind
abbrev pub leave_rows : {N C : Type 0} → View N C → N → List (Refusal × Type 0)
leave_rows v n = (Dangling, v.live n ≡ false) ∷ (NotLinked, v.within n ≡ None) ∷ []

-- the container that the node leaves
abbrev pub Leaves : {N C : Type 0} → View N C → N → Result C Refusal → Type 0
Leaves v n (Ok c) = (v.live n ≡ true) × (v.within n ≡ Some c)
Leaves v n (Err e) = Uppermost (leave_rows v n) e

-- what a spot names, its container or its mark, as a node
abbrev pub spot_node : {N C : Type 0} → (N → IRNode) → (C → IRNode) → Spot N C → IRNode
spot_node inner outer (AtFront c) = outer c
spot_node inner outer (AtBack c) = outer c
spot_node inner outer (Before mark) = inner mark
spot_node inner outer (After mark) = inner mark

-- the refusals of linking an operation at a spot, uppermost first
abbrev pub link_op_rows : Model → OpPtr → Spot OpPtr BlockPtr → List (Refusal × Type 0)
link_op_rows m op spot =
    (Dangling, Dead (op_links m) op spot)
    ∷ (AlreadyLinked, is_some ((op_links m).within op) ≡ true)
    ∷ (MarkNotLinked, spot_in (op_links m) spot ≡ None)
    ∷ (WouldContainItself, Within (parent m) (node.Operation op) (op_target spot))
    ∷ (GoesThroughTable, table_bound m op (spot_in (op_links m) spot) ≡ true)
    ∷ []

-- the refusals of linking a block at a spot, uppermost first
abbrev pub link_block_rows : Model → BlockPtr → Spot BlockPtr RegionPtr → List (Refusal × Type 0)
link_block_rows m block spot =
    (Dangling, Dead (block_links m) block spot)
    ∷ (AlreadyLinked, is_some ((block_links m).within block) ≡ true)
    ∷ (MarkNotLinked, spot_in (block_links m) spot ≡ None)
    ∷ (FixedBody, is (of_table m) (spot_in (block_links m) spot) ≡ true)
    ∷ (WouldContainItself, Within (parent m) (node.BasicBlock block) (block_target spot))
    ∷ []

-- the refusals of unlinking an operation, uppermost first
abbrev pub unlink_op_rows : Model → OpPtr → List (Refusal × Type 0)
unlink_op_rows m op =
    (Dangling, (op_links m).live op ≡ false)
    ∷ (NotLinked, (op_links m).within op ≡ None)
    ∷ (GoesThroughTable, table_bound m op ((op_links m).within op) ≡ true)
    ∷ []

-- the refusals of unlinking a block, uppermost first
abbrev pub unlink_block_rows : Model → BlockPtr → List (Refusal × Type 0)
unlink_block_rows m block =
    (Dangling, (block_links m).live block ≡ false)
    ∷ (NotLinked, (block_links m).within block ≡ None)
    ∷ (FixedBody, is (of_table m) ((block_links m).within block) ≡ true)
    ∷ []

-- The node stands at the spot among the children of the spot's container. Every other list of children of its kind is as it
-- was, and so is all of the tables but these links: kinds, names, notes, regions, versions, free places and counts.
pub record Linked {N C : Type 0} (links : Model → View N C) (rest : Model → Model) (m : Model) (n : N) (spot : Spot N C) (t : Model) : Type 0 where
  pub container : C
  pub into : spot_in (links m) spot ≡ Some container
  pub inserts : Inserts (links m) (links t) n container spot
  pub rests : rest t ≡ rest m

-- The node is gone from the children of its container, and all else is as it was.
pub record Unlinked {N C : Type 0} (links : Model → View N C) (rest : Model → Model) (m : Model) (n : N) (t : Model) : Type 0 where
  pub container : C
  pub from : (links m).within n ≡ Some container
  pub removes : Removes (links m) (links t) n container
  pub rests : rest t ≡ rest m

-- an operation in a block, a block in a region
abbrev pub OpLinked : Model → OpPtr → Spot OpPtr BlockPtr → Model → Type 0
OpLinked = Linked op_links but_op_links

abbrev pub BlockLinked : Model → BlockPtr → Spot BlockPtr RegionPtr → Model → Type 0
BlockLinked = Linked block_links but_block_links

abbrev pub OpUnlinked : Model → OpPtr → Model → Type 0
OpUnlinked = Unlinked op_links but_op_links

abbrev pub BlockUnlinked : Model → BlockPtr → Model → Type 0
BlockUnlinked = Unlinked block_links but_block_links

-- the four calls on the store of nodes
abbrev pub LinksOp : Forest → OpPtr → Spot OpPtr BlockPtr → Result (Unit {0}) Refusal → Forest → Type 0
LinksOp f op spot r t = Answered (link_op_rows (model f) op spot) (λ _ u. OpLinked (model f) op spot (model u)) f r t

abbrev pub LinksBlock : Forest → BlockPtr → Spot BlockPtr RegionPtr → Result (Unit {0}) Refusal → Forest → Type 0
LinksBlock f block spot r t = Answered (link_block_rows (model f) block spot) (λ _ u. BlockLinked (model f) block spot (model u)) f r t

abbrev pub UnlinksOp : Forest → OpPtr → Result (Unit {0}) Refusal → Forest → Type 0
UnlinksOp f op r t = Answered (unlink_op_rows (model f) op) (λ _ u. OpUnlinked (model f) op (model u)) f r t

abbrev pub UnlinksBlock : Forest → BlockPtr → Result (Unit {0}) Refusal → Forest → Type 0
UnlinksBlock f block r t = Answered (unlink_block_rows (model f) block) (λ _ u. BlockUnlinked (model f) block (model u)) f r t
