-- What the calls on records of one kind do.
use Rattle.std.specs.Prelude.{◌≡◌, ◌<◌, true, false, Some, None, ℕ, vec_items, vec_len, Option}
use Rattle.arena.specs.declared.arena.Arena.{Arena}
use Rattle.arena.specs.declared.handle.Handle.{Handle}
use Rattle.arena.specs.Pools.{live, next, room}
use Rattle.arena.specs.Shelves.{Shelf, at, ended, entered, pool_of, records_of, Only}
use Rattle.arena.specs.Lending.{place_with, still_sound}
use Rattle.std.specs.Vec.{with_item}
use Rattle.std.specs.Borrow.{Lends, Fml, RattleType, MutBor}
use Rattle.arena.specs.contracts.arena.Arena.{the_row}

-- what an arena means
abbrev pub shelf : {T : Type 0} → Arena T → Shelf T
shelf a = record { pool = pool_of (vec_items a.places) (vec_items a.freed) a.fresh a.taken; records = records_of (vec_items a.places) }

-- how many places it has
abbrev pub capacity : {T : Type 0} → Arena T → ℕ
capacity a = vec_len a.places

-- the arena with another record at a place
abbrev pub with_record : {T : Type 0} → Arena T → ℕ → T → Arena T
with_record a place x = record {
  places = with_item a.places place (place_with (vec_items a.places) place x);
  freed = a.freed;
  fresh = a.fresh;
  taken = a.taken;
  few = a.few;
  roomy = a.roomy;
  sound = still_sound (vec_items a.places) place x (vec_items a.freed) a.fresh a.taken a.sound;
}

-- once the borrow r ends, the record has the last value written through r
abbrev pub LendsRecord : (T : RattleType) → MutBor (Arena T.Denot) → Handle → MutBor T.Denot → Fml
LendsRecord T a h r = Lends (the_row T) T a r (with_record a.now h.place)

-- A making: the record stands under the next handle, which was dead before, and every other handle names what it named.
pub record Entered {T : Type 0} (a : Arena T) (x : T) (h : Handle) (b : Arena T) : Type 0 where
  pub left : 0 < room (shelf a).pool
  pub given : h ≡ next (shelf a).pool
  pub after : shelf b ≡ entered x (shelf a)
  pub new : at (shelf a) h ≡ None
  pub only : Only (at (shelf a)) (at (shelf b)) h (Some x)

-- where no place is left, nothing is made and all stays
abbrev pub Makes : {T : Type 0} → Arena T → T → Option Handle → Arena T → Type 0
Makes a x None b = (room (shelf a).pool ≡ 0) × (b ≡ a)
Makes a x (Some h) b = Entered a x h b

-- An end: the handle is dead after, and every other handle names what it named.
pub record Ended {T : Type 0} (a : Arena T) (h : Handle) (b : Arena T) : Type 0 where
  pub was : live (shelf a).pool h ≡ true
  pub after : shelf b ≡ ended h (shelf a)
  pub only : Only (at (shelf a)) (at (shelf b)) h None

-- the record that a live handle named is given back; at a dead handle all stays
abbrev pub Ends : {T : Type 0} → Arena T → Handle → Option T → Arena T → Type 0
Ends a h (Some x) b = (at (shelf a) h ≡ Some x) × Ended a h b
Ends a h None b = (live (shelf a).pool h ≡ false) × (b ≡ a)
