-- How the number of a live node is found: by the place of its handle.
use Rattle.std.specs.Prelude.{◌≡◌, ℕ, ◌<◌, ◌≤◌, true, List, Some, vec_items, slice_index}
use Rattle.std.specs.List.{slice_get}
use Rattle.arena.specs.declared.handle.Handle.{Handle}
use Rattle.arena.specs.Pools.{Pool, live}
use Rattle.records.specs.declared.handles.BlockPtr.{BlockPtr}
use Rattle.records.specs.declared.handles.OpPtr.{OpPtr}
use Rattle.records.specs.declared.handles.RegionPtr.{RegionPtr}
use Rattle.records.specs.Models.{Model}
use Rattle.script.specs.declared.numbers.Numbers.{Numbers}

-- Of the numbers given last at each place, the one at a live node's place is the node's, and no later number was given there.
pub record Found {T : Type 0} (handle : T → Handle) (p : Pool) (handles : List T) (latest : List ℕ) : Type 0 where
  pub finds : (x : T) → live p (handle x) ≡ true → slice_get handles (slice_index latest (handle x).place) ≡ Some x
  pub last : (n : ℕ) (x : T) → slice_get handles n ≡ Some x → (handle x).place < 512 → n ≤ slice_index latest (handle x).place

-- the same of all three kinds
pub record AllFound (m : Model) (operations : Numbers OpPtr) (blocks : Numbers BlockPtr) (regions : Numbers RegionPtr) : Type 0 where
  pub operations_found : Found (λ p. p.handle) m.operations.pool (vec_items operations.handles) (vec_items operations.latest)
  pub blocks_found : Found (λ p. p.handle) m.blocks.pool (vec_items blocks.handles) (vec_items blocks.latest)
  pub regions_found : Found (λ p. p.handle) m.regions.pool (vec_items regions.handles) (vec_items regions.latest)
