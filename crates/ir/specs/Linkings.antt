-- What linking and unlinking do to a store: the refusals in the order in which they are tested, and else the nodes after;
-- the names and the mappings of symbol tables stay.
use Rattle.std.specs.Prelude.{◌≡◌, Bool, false, [], ◌∷◌, is_some, Result}
use Rattle.result.specs.declared.refusal.Refusal.{Refusal}
use Rattle.result.specs.declared.refusal.Refusal.TheVariants.{Dangling}
use Rattle.result.specs.Rows.{Answered}
use Rattle.linked_list.specs.declared.spot.Spot.{Spot}
use Rattle.linked_list.specs.Links.{View}
use Rattle.records.specs.declared.handles.BlockPtr.{BlockPtr}
use Rattle.records.specs.declared.handles.OpPtr.{OpPtr}
use Rattle.records.specs.declared.handles.RegionPtr.{RegionPtr}
use Rattle.records.specs.Views.{block_links, op_links}
use Rattle.forest.specs.Linkings.{BlockLinked, BlockUnlinked, OpLinked, OpUnlinked, link_block_rows, link_op_rows, unlink_block_rows, unlink_op_rows}
use Rattle.ir.specs.declared.context.Context.{Context}
use Rattle.ir.specs.Stores.{mappings, names, nodes}

-- the operation stands at the spot among the children of its block; all else stays
pub record OpInserted (s : Context) (op : OpPtr) (spot : Spot OpPtr BlockPtr) (t : Context) : Type 0 where
  pub linked : OpLinked (nodes s) op spot (nodes t)
  pub held : names t ≡ names s
  pub mapped : mappings t ≡ mappings s

-- linking an operation at a spot
abbrev pub InsertOpCall : Context → OpPtr → Spot OpPtr BlockPtr → Result (Unit {0}) Refusal → Context → Type 0
InsertOpCall s op spot r t = Answered (link_op_rows (nodes s) op spot) (λ _ u. OpInserted s op spot u) s r t

-- the block stands at the spot among the children of its region; all else stays
pub record BlockInserted (s : Context) (block : BlockPtr) (spot : Spot BlockPtr RegionPtr) (t : Context) : Type 0 where
  pub linked : BlockLinked (nodes s) block spot (nodes t)
  pub held : names t ≡ names s
  pub mapped : mappings t ≡ mappings s

-- linking a block at a spot
abbrev pub InsertBlockCall : Context → BlockPtr → Spot BlockPtr RegionPtr → Result (Unit {0}) Refusal → Context → Type 0
InsertBlockCall s block spot r t = Answered (link_block_rows (nodes s) block spot) (λ _ u. BlockInserted s block spot u) s r t

-- the operation is gone from the children of its block; all else stays
pub record OpTaken (s : Context) (op : OpPtr) (t : Context) : Type 0 where
  pub unlinked : OpUnlinked (nodes s) op (nodes t)
  pub held : names t ≡ names s
  pub mapped : mappings t ≡ mappings s

-- unlinking an operation
abbrev pub UnlinkOpCall : Context → OpPtr → Result (Unit {0}) Refusal → Context → Type 0
UnlinkOpCall s op r t = Answered (unlink_op_rows (nodes s) op) (λ _ u. OpTaken s op u) s r t

-- the block is gone from the children of its region; all else stays
pub record BlockTaken (s : Context) (block : BlockPtr) (t : Context) : Type 0 where
  pub unlinked : BlockUnlinked (nodes s) block (nodes t)
  pub held : names t ≡ names s
  pub mapped : mappings t ≡ mappings s

-- unlinking a block
abbrev pub UnlinkBlockCall : Context → BlockPtr → Result (Unit {0}) Refusal → Context → Type 0
UnlinkBlockCall s block r t = Answered (unlink_block_rows (nodes s) block) (λ _ u. BlockTaken s block u) s r t

-- whether a live node stands in a container
abbrev pub IsLinked : {N C : Type 0} → View N C → N → Result Bool Refusal → Context → Type 0
IsLinked v n r s = Answered ((Dangling, v.live n ≡ false) ∷ []) (λ x t. x ≡ is_some (v.within n)) s r s

-- whether an operation stands in a block, and a block in a region
abbrev pub OpIsLinked : Context → OpPtr → Result Bool Refusal → Type 0
OpIsLinked s op r = IsLinked (op_links (nodes s)) op r s

abbrev pub BlockIsLinked : Context → BlockPtr → Result Bool Refusal → Type 0
BlockIsLinked s block r = IsLinked (block_links (nodes s)) block r s
