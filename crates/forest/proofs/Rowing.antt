-- The rows of linkings: what passed the first of them, and what a spot names. Assumes nothing.
use Rattle.std.proofs.Common.{◌≡◌, false, is_some, sym, refl, ap, ◌∙◌, ⊎_elim}
use Rattle.linked_list.specs.declared.spot.Spot.{Spot}
use Rattle.linked_list.specs.declared.spot.Spot.TheVariants.{AtFront, AtBack, Before, After}
use Rattle.linked_list.specs.Edits.{spot_live}
use Rattle.linked_list.specs.Links.{View}
use Rattle.result.specs.Rows.{NoRow}
use Rattle.records.specs.declared.handles.BlockPtr.{BlockPtr}
use Rattle.records.specs.declared.handles.OpPtr.{OpPtr}
use Rattle.records.specs.declared.handles.RegionPtr.{RegionPtr}
use Rattle.records.specs.declared.ir_node.IRNode.TheVariants as node
use Rattle.records.specs.Nodes.{block_target, op_target}
use Rattle.forest.specs.Linkings.{Passed, enter_rows, spot_node}
use Rattle.forest.proofs.Listed.{clash, no_some}

-- no first row refuses what passed them
pub passed_rows : {N C : Type 0} (v : View N C) (n : N) (spot : Spot N C) (c : C) → Passed v n spot c → NoRow (enter_rows v n spot)
passed_rows v n spot c p = (
  ⊎_elim (λ (d : v.live n ≡ false). clash (sym p.alive ∙ d)) (λ (d : spot_live v spot ≡ false). clash (sym p.there ∙ d)),
  ((λ l. clash (sym l ∙ ap is_some p.loose)), ((λ e. no_some c _ e p.into), tt)),
)

-- what the spot of an operation names, and the spot of a block
pub op_spot : (spot : Spot OpPtr BlockPtr) → spot_node node.Operation node.BasicBlock spot ≡ op_target spot
op_spot (AtFront c) = refl
op_spot (AtBack c) = refl
op_spot (Before k) = refl
op_spot (After k) = refl

pub block_spot : (spot : Spot BlockPtr RegionPtr) → spot_node node.BasicBlock node.Region spot ≡ block_target spot
block_spot (AtFront c) = refl
block_spot (AtBack c) = refl
block_spot (Before k) = refl
block_spot (After k) = refl
