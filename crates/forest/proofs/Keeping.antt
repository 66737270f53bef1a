-- A making keeps all live nodes. Assumes nothing.
use Rattle.std.proofs.Common.{◌≡◌, ℕ, ◌<◌, ◌≤◌, Bool, true, false, Some, None, Option, sym, refl, subst}
use Rattle.arena.specs.Pools.{room, Sound}
use Rattle.arena.specs.Shelves.{Shelf, entered}
use Rattle.records.specs.declared.kind.Kind.{Kind}
use Rattle.records.specs.Makings.{AllKept, Keeps, Roomy, blocks_needed, body_of, new_block, new_operation, regions_made, with_block, with_body, with_operation}
use Rattle.records.specs.Models.{Model, next_op, next_region}
use Rattle.records.proofs.Regions.{grown_more, grown_none, regions_grown}
use Rattle.forest.proofs.Tables.{Tables}

-- one making keeps all that is live in its table
one_keeps : {T : Type 0} (a : Shelf T) (x : T) → Sound a.pool → 0 < room a.pool → Keeps a (entered x a)
one_keeps a x s h = (grown_more 0 a a x (grown_none a s) h).keeps

none_keeps : {T : Type 0} (a : Shelf T) → Keeps a a
none_keeps a = record { keeps = λ k e. refl }

body_keeps : (b : Bool) (m : Model) → Sound m.blocks.pool → blocks_needed b ≤ room m.blocks.pool → Keeps m.blocks (with_body b m)
body_keeps true m s h = one_keeps m.blocks (new_block (Some (next_region m))) s h
body_keeps false m s h = none_keeps m.blocks

pub operation_kept : (m n : Model) (kind : Kind) (name : Option ℕ) (count : ℕ) → Tables m → Roomy kind count m → n ≡ with_operation kind name count m → AllKept m n
operation_kept m n kind name count t r e =
    subst (AllKept m) (sym e) (record {
      operations = one_keeps m.operations (new_operation kind name (regions_made kind count m)) t.op_places r.operations;
      blocks = body_keeps kind.table m t.block_places r.blocks;
      regions = (regions_grown (next_op m) (body_of kind.table m) m.regions count t.region_places r.regions).keeps;
    })

pub block_kept : (m n : Model) → Tables m → 1 ≤ room m.blocks.pool → n ≡ with_block m → AllKept m n
block_kept m n t h e =
    subst (AllKept m) (sym e) (record { operations = none_keeps m.operations; blocks = one_keeps m.blocks (new_block None) t.block_places h; regions = none_keeps m.regions })
