-- A handle that names no record is dead.
use Rattle.std.proofs.Common.{◌≡◌, false, None, sym}
use Rattle.arena.specs.declared.arena.Arena.{Arena}
use Rattle.arena.specs.declared.handle.Handle.{Handle}
use Rattle.arena.specs.Pools.{live}
use Rattle.arena.specs.Recorded.{shelf}
use Rattle.arena.specs.Shelves.{at}
use Rattle.arena.proofs.Shelving.{at_none, shelf_long}

pub names_none : {T : Type 0} (a : Arena T) (h : Handle) → at (shelf a) h ≡ None → live (shelf a).pool h ≡ false
names_none a h e = at_none (shelf a) h (shelf_long a) (sym e)
