-- Where a symbol goes in a body.
use Rattle.std.specs.Prelude.{◌≡◌, Bool, true, if◌then◌else◌, Some, None, Option}
use Rattle.linked_list.specs.declared.spot.Spot.{Spot}
use Rattle.linked_list.specs.declared.spot.Spot.TheVariants.{After, AtBack, AtFront, Before}
use Rattle.linked_list.specs.Edits.{spot_in, spot_live}
use Rattle.linked_list.specs.Links.{View}
use Rattle.records.specs.declared.handles.BlockPtr.{BlockPtr}
use Rattle.records.specs.declared.handles.OpPtr.{OpPtr}
use Rattle.records.specs.Models.{Model}
use Rattle.records.specs.Views.{op_links, part}
use Rattle.symbol_table.specs.declared.op_insertion_point.OpInsertionPoint.{OpInsertionPoint}
use Rattle.symbol_table.specs.declared.op_insertion_point.OpInsertionPoint.TheVariants.{AfterOperation, AtBlockEnd, AtBlockStart, BeforeOperation, Unset}
use Rattle.symbol_table.specs.Bodies.{body_in, is_terminator}

-- the spot that a point names; a point that was not set names none
abbrev pub point_spot : OpInsertionPoint → Option (Spot OpPtr BlockPtr)
point_spot Unset = None
point_spot (AtBlockStart b) = Some (AtFront b)
point_spot (AtBlockEnd b) = Some (AtBack b)
point_spot (AfterOperation o) = Some (After o)
point_spot (BeforeOperation o) = Some (Before o)

-- the block of a point: none where the point was not set, or stands beside an operation in no block
abbrev pub point_block : Model → OpInsertionPoint → Option BlockPtr
point_block m p = part (spot_in (op_links m)) (point_spot p)

-- what a spot that may be there names is live
abbrev pub names_live : View OpPtr BlockPtr → Option (Spot OpPtr BlockPtr) → Bool
names_live v None = true
names_live v (Some spot) = spot_live v spot

-- what a point that may be given names is live
abbrev pub has_spot : View OpPtr BlockPtr → Option OpInsertionPoint → Bool
has_spot v None = true
has_spot v (Some p) = names_live v (point_spot p)

-- before the operation that may be the last of a block if that is a terminator, else at the back
abbrev pub end_before : Model → BlockPtr → Option OpPtr → Spot OpPtr BlockPtr
end_before m b None = AtBack b
end_before m b (Some last) = if is_terminator m last then Before last else AtBack b

-- where a symbol goes in a body without a point
abbrev pub end_spot : Model → BlockPtr → Spot OpPtr BlockPtr
end_spot m b = end_before m b ((op_links m).tail b)

-- where a symbol goes in a body: at the point that is given, or without one at the end
abbrev pub goes_to : Model → BlockPtr → Option OpInsertionPoint → Option (Spot OpPtr BlockPtr)
goes_to m b None = Some (end_spot m b)
goes_to m b (Some p) = point_spot p

-- a point is given, and it has no block
abbrev pub NoBlock : Model → Option OpInsertionPoint → Type 0
NoBlock m None = ⊥
NoBlock m (Some p) = point_block m p ≡ None

-- a point is given, and its block is not the body of the table
abbrev pub OtherBlock : Model → OpPtr → Option OpInsertionPoint → Type 0
OtherBlock m t None = ⊥
OtherBlock m t (Some p) = body_in m t ≡ point_block m p → ⊥
