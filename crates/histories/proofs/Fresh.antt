-- There is a store in which nothing was made: its places are all unused, nothing is mapped and no name is held. It is built here as a value,
-- with no memory behind it. Assumes nothing.
use denote.RawPtr.{null_ptr}
use Rattle.std.proofs.Common.{◌≡◌, ℕ, ◌^◌, ◌<◌, ◌≤◌, false, List, [], ◌∷◌, length, replicate, zero, suc, None, sym, refl, ap, arith}
use Rattle.std.proofs.lemmas.List.{length-replicate}
use Rattle.std.specs.Global.{Global, Vec}
use Rattle.arena.specs.declared.arena.Arena.{Arena}
use Rattle.arena.specs.declared.slot.Place.{Place}
use Rattle.arena.specs.declared.slot.Slot.{Slot}
use Rattle.arena.specs.Pools.{unused, unused_pool}
use Rattle.arena.specs.Recorded.{capacity, shelf}
use Rattle.arena.specs.Shelves.{pool_of, slots_of}
use Rattle.arena.proofs.Filling.{sound_as}
use Rattle.arena.proofs.Pooling.{unused_sound}
use Rattle.records.specs.declared.handles.BlockPtr.{BlockPtr}
use Rattle.records.specs.declared.handles.OpPtr.{OpPtr}
use Rattle.records.specs.declared.handles.RegionPtr.{RegionPtr}
use Rattle.records.specs.declared.kind.Kind.{Kind}
use Rattle.records.specs.declared.records.Records.{Records}
use Rattle.records.specs.Makings.{new_block, new_operation, new_region}
use Rattle.records.specs.Models.{Untouched, op_of, tables}
use Rattle.forest.specs.declared.forest.Forest.{Forest}
use Rattle.forest.specs.Calls.{Fresh}
use Rattle.forest.proofs.Climbs.{fresh_acyclic}
use Rattle.forest.proofs.Kept.{nothing_listed, unused_dead}
use Rattle.forest.proofs.Owning.{fresh_owned}
use Rattle.mappings.specs.declared.mappings.Mappings.{Mappings}
use Rattle.mappings.specs.Held.{held as mappings_held}
use Rattle.mappings.proofs.Holding.{none_held, none_probed}
use Rattle.names.specs.declared.names.Names.{Names}
use Rattle.names.specs.Held.{held as names_held}
use Rattle.names.proofs.Holding.{nothing_held}
use Rattle.symbol_table.proofs.Freshness.{fresh_whole}
use Rattle.ir.specs.declared.context.Context.{Context}
use Rattle.ir.specs.Stores.{Built}
use Rattle.ir.proofs.Numbering.{fresh_held}

heap : Global
heap = record { memory = record { seal = tt } }

-- a vector of these elements
abbrev vector : {X : Type 0} (xs : List X) (len most : ℕ) → len ≡ length xs → len ≤ most → most < 2 ^ 63 → Vec X
vector xs len most e le lt = record { ptr = null_ptr; len = len; cap = most; alloc = heap; items = xs; ok = (e, le); small = lt }

abbrev filled : {X : Type 0} (x : X) (n : ℕ) → n < 2 ^ 63 → Vec X
filled x n lt = vector (replicate n x) n n (sym (length-replicate n x)) (omega arith) lt

slots_unused : {T : Type 0} (blank : T) (n : ℕ) → slots_of (replicate n (record { slot = unused; value = blank })) ≡ replicate n unused
slots_unused blank zero = refl
slots_unused blank (suc n) = ap (λ ss. unused ∷ ss) (slots_unused blank n)

-- places that were never taken
arena : {T : Type 0} (blank : T) (n : ℕ) → n ≤ 65535 → (a : Arena T) × ((shelf a).pool ≡ unused_pool n) × (capacity a ≡ n)
arena {T} blank n le =
    let ps : List (Place T) = replicate n (record { slot = unused; value = blank }) in
    let e : pool_of ps [] 0 0 ≡ unused_pool n = ap (λ (ss : List Slot). record { slots = ss; freed = []; fresh = 0; taken = 0 }) (slots_unused blank n) in (
      record {
        places = filled (record { slot = unused; value = blank }) n (omega arith);
        freed = vector [] 0 n refl (omega arith) (omega arith);
        fresh = 0;
        taken = 0;
        few = le;
        roomy = omega arith;
        sound = sound_as (pool_of ps [] 0 0) (unused_pool n) e (unused_sound n);
      },
      e,
      refl,
    )

no_kind : Kind
no_kind = record { table = false; symbol = false; terminator = false }

records : (r : Records) × Untouched (tables r)
records =
    let ops = arena (new_operation no_kind None []) 512 (omega arith) in
    let blocks = arena (new_block None) 256 (omega arith) in
    let regions = arena (new_region (op_of (record { place = 0; version = 0 })) None 0) 256 (omega arith) in (
      record { operations = ops.0; blocks = blocks.0; regions = regions.0; ops = ops.2; blks = blocks.2; rgns = regions.2 },
      record { operations = ops.1; blocks = blocks.1; regions = regions.1 },
    )

forest : (f : Forest) × Fresh f
forest =
    let fresh = records.1 in (
      record {
        records = records.0;
        oplists = nothing_listed _ (λ (n : OpPtr). unused_dead _ 512 n.handle fresh.operations) (λ (b : BlockPtr). unused_dead _ 256 b.handle fresh.blocks);
        blocklists = nothing_listed _ (λ (n : BlockPtr). unused_dead _ 256 n.handle fresh.blocks) (λ (r : RegionPtr). unused_dead _ 256 r.handle fresh.regions);
        owned = fresh_owned _ fresh;
        acyclic = fresh_acyclic _ fresh;
      },
      record { operations = fresh.operations; blocks = fresh.blocks; regions = fresh.regions },
    )

mappings : (m : Mappings) × (mappings_held m ≡ [])
mappings = (
  record { entries = filled None 512 (omega arith); long = refl; probed = none_probed (replicate 512 None) refl },
  none_held (replicate 512 None) refl,
)

names : (n : Names) × (names_held n ≡ [])
names = (
  record {
    list = vector [] 0 256 refl (omega arith) (omega arith);
    entries = filled None 256 (omega arith);
    room = omega arith;
    few = omega arith;
    long = refl;
    numbered = nothing_held [] (replicate 256 None) refl refl;
  },
  refl,
)

-- a store that was just built
pub store : (s : Context) × Built s
store =
    let f = forest in
    let m = mappings in
    let w = fresh_whole f.0 m.0 f.1 m.1 in (
      record {
        tables = record { forest = f.0; mappings = m.0; bodied = w.bodied; named = w.named; follows = w.follows };
        names = names.0;
        numbers = ∣ fresh_held f.0 _ f.1 ∣₁;
      },
      record { fresh = f.1; unmapped = m.1; nameless = names.1 },
    )
