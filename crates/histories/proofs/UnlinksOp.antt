-- Unlinking an operation keeps the store as the ledger says. Assumes nothing.
use Rattle.std.proofs.Common.{◌≡◌, sym, ◌∙◌}
use Rattle.linked_list.proofs.Lists.{some_same}
use Rattle.records.specs.declared.handles.OpPtr.{OpPtr}
use Rattle.records.specs.Views.{op_links}
use Rattle.records.specs.Writes.{block_same}
use Rattle.forest.specs.Linkings.{OpUnlinked}
use Rattle.ir.specs.declared.context.Context.{Context}
use Rattle.ir.specs.Linkings.{OpTaken}
use Rattle.ir.specs.Stores.{names, nodes}
use Rattle.histories.specs.Feeding.{OpTaken as OpGoes}
use Rattle.histories.specs.Ledgers.{Ledger}
use Rattle.histories.specs.Represents.{Represents}
use Rattle.histories.proofs.Edits.{still_there, taken_from, taken_holds}
use Rattle.histories.proofs.InsertsOp.{block_lists_stay, blocks_stay, operations_stay, regions_stay}
use Rattle.histories.proofs.Nodes.{op_in_block}

-- the links of the operation as they are edited where the names stay, by whatever call
pub unlinked : (s t : Context) (l m : Ledger) → Represents s l → (op : OpPtr) → OpUnlinked (nodes s) op (nodes t) → names t ≡ names s → OpGoes l op m → Represents t m
unlinked s t l m r op d held w =
    let p = w.blocks in
    let same : p.container ≡ d.container = some_same (sym (op_in_block s l r op p.container (taken_from l.block m.block op p)) ∙ d.from) in
    record {
      operations = operations_stay s t l m r held d.rests w.operations;
      blocks = blocks_stay s t l m r held d.rests (still_there block_same l.block m.block p.container p.before p.after p.was p.change);
      regions = regions_stay s t l m r held d.rests w.regions;
      ops_hold = taken_holds (op_links (nodes s)) (op_links (nodes t)) l.block m.block op d.container d.removes p same r.ops_hold;
      blocks_hold = block_lists_stay s t l m r held d.rests w.regions;
    }

pub represents : (s t : Context) (l m : Ledger) → Represents s l → (op : OpPtr) → OpTaken s op t → OpGoes l op m → Represents t m
represents s t l m r op d w = unlinked s t l m r op d.unlinked d.held w
