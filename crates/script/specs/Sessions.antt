-- What a session holds.
use Rattle.std.specs.Prelude.{◌≡◌, ℕ, List, [], vec_items, vec_len}
use Rattle.records.specs.declared.handles.OpPtr.{OpPtr}
use Rattle.records.specs.declared.handles.BlockPtr.{BlockPtr}
use Rattle.records.specs.declared.handles.RegionPtr.{RegionPtr}
use Rattle.ir.specs.Stores.{Built}
use Rattle.script.specs.declared.state.State.{State}

-- the operations in the order of their numbers
abbrev pub operations : State → List OpPtr
operations s = vec_items s.operations.handles

-- the blocks in the order of theirs
abbrev pub blocks : State → List BlockPtr
blocks s = vec_items s.blocks.handles

-- the regions in the order of theirs
abbrev pub regions : State → List RegionPtr
regions s = vec_items s.regions.handles

-- how many operations are numbered, which is the number that the next one gets
abbrev pub next_operation : State → ℕ
next_operation s = vec_len s.operations.handles

-- the number that the next block gets
abbrev pub next_block : State → ℕ
next_block s = vec_len s.blocks.handles

-- the number that the next region gets
abbrev pub next_region : State → ℕ
next_region s = vec_len s.regions.handles

-- nothing is made in the store, and no node is numbered
pub record Started (s : State) : Type 0 where
  pub store : Built s.context
  pub no_operation : operations s ≡ []
  pub no_block : blocks s ≡ []
  pub no_region : regions s ≡ []
