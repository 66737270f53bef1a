-- What starting to go through children answers.
use Rattle.std.specs.Prelude.{MatchResult, Result}
use Rattle.result.specs.declared.refusal.Refusal.{Refusal}
use Rattle.result.specs.Rows.{NoRow, Uppermost}
use Rattle.records.specs.declared.handles.BlockPtr.{BlockPtr}
use Rattle.records.specs.declared.handles.RegionPtr.{RegionPtr}
use Rattle.forest.specs.declared.iter.BlockIter.{BlockIter}
use Rattle.forest.specs.declared.iter.OpIter.{OpIter}
use Rattle.forest.specs.Iters.{Starts, blocks_in, iter_rows, ops_in}
use Rattle.ir.specs.declared.context.Context.{Context}

-- going through the operations of a block
abbrev pub IterOpsCall : Context → BlockPtr → Result OpIter Refusal → Type 0
IterOpsCall s block r = MatchResult r
    (λ it. NoRow (iter_rows (ops_in s.tables.forest) block) × Starts ops_in s.tables.forest block it.forest.now it.left)
    (λ e. Uppermost (iter_rows (ops_in s.tables.forest) block) e)

-- going through the blocks of a region
abbrev pub IterBlocksCall : Context → RegionPtr → Result BlockIter Refusal → Type 0
IterBlocksCall s region r = MatchResult r
    (λ it. NoRow (iter_rows (blocks_in s.tables.forest) region) × Starts blocks_in s.tables.forest region it.forest.now it.left)
    (λ e. Uppermost (iter_rows (blocks_in s.tables.forest) region) e)
