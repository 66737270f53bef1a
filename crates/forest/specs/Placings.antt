-- What linking and unlinking do for one who has asked what is said of symbols in the bodies of tables.
use Rattle.std.specs.Prelude.{◌≡◌, true, false, List, [], ◌∷◌, is_some, None, Result}
use Rattle.result.specs.declared.refusal.Refusal.{Refusal}
use Rattle.result.specs.declared.refusal.Refusal.TheVariants.{AlreadyLinked, Dangling, MarkNotLinked, NotLinked, WouldContainItself}
use Rattle.result.specs.Rows.{Answered}
use Rattle.linked_list.specs.declared.spot.Spot.{Spot}
use Rattle.linked_list.specs.Edits.{spot_in}
use Rattle.trees.specs.Climbs.{Within}
use Rattle.records.specs.declared.handles.BlockPtr.{BlockPtr}
use Rattle.records.specs.declared.handles.OpPtr.{OpPtr}
use Rattle.records.specs.declared.ir_node.IRNode.TheVariants as node
use Rattle.records.specs.Models.{Model}
use Rattle.records.specs.Nodes.{op_target, parent}
use Rattle.records.specs.Views.{op_links}
use Rattle.forest.specs.declared.forest.Forest.{Forest}
use Rattle.forest.specs.Forests.{model}
use Rattle.forest.specs.Linkings.{Dead, OpLinked, OpUnlinked}

-- the refusals of linking an operation at a spot, whoever may stand there, uppermost first
abbrev pub place_op_rows : Model → OpPtr → Spot OpPtr BlockPtr → List (Refusal × Type 0)
place_op_rows m op spot =
    (Dangling, Dead (op_links m) op spot)
    ∷ (AlreadyLinked, is_some ((op_links m).within op) ≡ true)
    ∷ (MarkNotLinked, spot_in (op_links m) spot ≡ None)
    ∷ (WouldContainItself, Within (parent m) (node.Operation op) (op_target spot))
    ∷ []

-- the refusals of unlinking an operation, wherever it stands, uppermost first
abbrev pub take_op_rows : Model → OpPtr → List (Refusal × Type 0)
take_op_rows m op = (Dangling, (op_links m).live op ≡ false) ∷ (NotLinked, (op_links m).within op ≡ None) ∷ []

-- the two calls on the store of nodes
abbrev pub PlacesOp : Forest → OpPtr → Spot OpPtr BlockPtr → Result (Unit {0}) Refusal → Forest → Type 0
PlacesOp f op spot r t = Answered (place_op_rows (model f) op spot) (λ _ u. OpLinked (model f) op spot (model u)) f r t

abbrev pub TakesOp : Forest → OpPtr → Result (Unit {0}) Refusal → Forest → Type 0
TakesOp f op r t = Answered (take_op_rows (model f) op) (λ _ u. OpUnlinked (model f) op (model u)) f r t
