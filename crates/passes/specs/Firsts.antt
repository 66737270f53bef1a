-- The first operation of a block, and a pass that unlinks it.
use Rattle.std.specs.Prelude.{◌≡◌, ◌⊎◌, List, Some, None, Ok, Err, Option, Result}
use Rattle.result.specs.declared.refusal.Refusal.{Refusal}
use Rattle.result.specs.Rows.{NoRow, Uppermost}
use Rattle.forest.specs.Iters.{iter_rows}
use Rattle.linked_list.specs.Links.{Holds, first_or}
use Rattle.records.specs.declared.handles.BlockPtr.{BlockPtr}
use Rattle.records.specs.declared.handles.OpPtr.{OpPtr}
use Rattle.records.specs.declared.ir_node.IRNode.{IRNode}
use Rattle.records.specs.declared.ir_node.IRNode.TheVariants as node
use Rattle.records.specs.Views.{op_links}
use Rattle.ir.specs.declared.context.Context.{Context}
use Rattle.ir.specs.Linkings.{UnlinkOpCall}
use Rattle.ir.specs.Stores.{nodes}

-- this is the first child of the block, or none where it has none
abbrev pub IsFirst : Context → BlockPtr → Option OpPtr → Type 0
IsFirst s block first = (L : BlockPtr → List OpPtr) → Holds (op_links (nodes s)) L → first ≡ first_or (L block) None

-- the operation that a node is, if it is one
abbrev pub operation_in : Option IRNode → Option OpPtr
operation_in None = None
operation_in (Some (node.Operation op)) = Some op
operation_in (Some (node.BasicBlock block)) = None
operation_in (Some (node.Region region)) = None

-- the first operation of a live block is unlinked; where there is none, nothing changes; the pass is refused where the block is dead or
-- its first operation may not be unlinked, and then nothing changes
abbrev pub FirstTaken : Context → BlockPtr → Result (Option OpPtr) Refusal → Context → Type 0
FirstTaken s block (Ok (Some op)) t = NoRow (iter_rows (op_links (nodes s)) block) × IsFirst s block (Some op) × UnlinkOpCall s op (Ok tt) t
FirstTaken s block (Ok None) t = NoRow (iter_rows (op_links (nodes s)) block) × IsFirst s block None × (t ≡ s)
FirstTaken s block (Err e) t = (Uppermost (iter_rows (op_links (nodes s)) block) e × (t ≡ s)) ⊎ ((op : OpPtr) × IsFirst s block (Some op) × UnlinkOpCall s op (Err e) t)
