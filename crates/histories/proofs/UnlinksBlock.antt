-- Unlinking a block keeps the store as the ledger says. Assumes nothing.
use Rattle.std.proofs.Common.{◌≡◌, sym, ◌∙◌}
use Rattle.linked_list.proofs.Lists.{some_same}
use Rattle.records.specs.declared.handles.BlockPtr.{BlockPtr}
use Rattle.records.specs.Views.{block_links}
use Rattle.records.specs.Writes.{region_same}
use Rattle.ir.specs.declared.context.Context.{Context}
use Rattle.ir.specs.Linkings.{BlockTaken}
use Rattle.ir.specs.Stores.{nodes}
use Rattle.histories.specs.Feeding.{BlockTaken as BlockGoes}
use Rattle.histories.specs.Ledgers.{Ledger}
use Rattle.histories.specs.Represents.{Represents}
use Rattle.histories.proofs.Edits.{still_there, taken_from, taken_holds}
use Rattle.histories.proofs.InsertsBlock.{blocks_stay, op_lists_stay, operations_stay, regions_stay}
use Rattle.histories.proofs.Nodes.{block_in_region}

pub represents : (s t : Context) (l m : Ledger) → Represents s l → (block : BlockPtr) → BlockTaken s block t → BlockGoes l block m → Represents t m
represents s t l m r block d w =
    let p = w.regions in
    let same : p.container ≡ d.unlinked.container = some_same (sym (block_in_region s l r block p.container (taken_from l.region m.region block p)) ∙ d.unlinked.from) in
    record {
      operations = operations_stay s t l m r d.held d.unlinked.rests w.operations;
      blocks = blocks_stay s t l m r d.held d.unlinked.rests w.blocks;
      regions = regions_stay s t l m r d.held d.unlinked.rests (still_there region_same l.region m.region p.container p.before p.after p.was p.change);
      ops_hold = op_lists_stay s t l m r d.held d.unlinked.rests w.blocks;
      blocks_hold = taken_holds (block_links (nodes s)) (block_links (nodes t)) l.region m.region block d.unlinked.container d.unlinked.removes p same r.blocks_hold;
    }
