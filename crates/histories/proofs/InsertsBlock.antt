-- Linking a block keeps the store as the ledger says. Assumes nothing.
use Rattle.std.proofs.Common.{◌≡◌, ℕ, List, is_some, Option, sym, ap, ◌∙◌, subst}
use mathlib.Core.Path.{fun_ext}
use Rattle.std.specs.Option.{option_map}
use Rattle.arena.specs.Pools.{Pool, live}
use Rattle.arena.specs.Shelves.{Shelf, at}
use Rattle.linked_list.specs.declared.spot.Spot.{Spot}
use Rattle.linked_list.specs.Links.{Holds, View}
use Rattle.linked_list.proofs.Lists.{some_same}
use Rattle.records.specs.declared.handles.BlockPtr.{BlockPtr}
use Rattle.records.specs.declared.handles.OpPtr.{OpPtr}
use Rattle.records.specs.declared.handles.RegionPtr.{RegionPtr}
use Rattle.records.specs.declared.operation.Operation.{Operation}
use Rattle.records.specs.Models.{Model, operation_at}
use Rattle.records.specs.Views.{block_links, but_block_links, endless_region, loose_block, op_links}
use Rattle.records.specs.Writes.{region_same}
use Rattle.records.proofs.Rests.{same_pool}
use Rattle.records.proofs.Rests.{block_edit_links}
use Rattle.ir.specs.declared.context.Context.{Context}
use Rattle.ir.specs.Linkings.{BlockInserted}
use Rattle.ir.specs.Stores.{names, nodes}
use Rattle.histories.specs.Feeding.{Unchanged, BlockPut}
use Rattle.histories.specs.Ledgers.{Ledger, listed}
use Rattle.histories.specs.Represents.{Represents, entry}
use Rattle.histories.proofs.Edits.{put_holds, still_there}
use Rattle.histories.proofs.Nodes.{loose_block as alone_block}
use Rattle.histories.proofs.Standing.{spot_into}

-- what an edit of the links of blocks in regions leaves
module _ (s t : Context) (l m : Ledger) (r : Represents s l) (held : names t ≡ names s) (rests : but_block_links (nodes t) ≡ but_block_links (nodes s)) where
  pub operations_stay : Unchanged l.operation m.operation → (op : OpPtr) → m.operation op ≡ option_map (entry (names t)) (operation_at (nodes t) op)
  operations_stay same op =
      same op ∙ r.operations op ∙ ap (λ (h : List (List ℕ)). option_map (entry h) (operation_at (nodes s) op)) (sym held)
      ∙ sym (ap (λ (a : Shelf Operation). option_map (entry (names t)) (at a op.handle)) (ap (λ (a : Model). a.operations) rests))

  pub blocks_stay : Unchanged l.block m.block → (b : BlockPtr) → is_some (m.block b) ≡ live (nodes t).blocks.pool b.handle
  blocks_stay same b =
      ap is_some (same b) ∙ r.blocks b
      ∙ sym (ap (λ (p : Pool). live p b.handle) (same_pool loose_block (nodes s).blocks (nodes t).blocks (ap (λ (a : Model). a.blocks) rests)))

  pub regions_stay : ((x : RegionPtr) → is_some (m.region x) ≡ is_some (l.region x)) → (x : RegionPtr) → is_some (m.region x) ≡ live (nodes t).regions.pool x.handle
  regions_stay same x =
      same x ∙ r.regions x
      ∙ sym (ap (λ (p : Pool). live p x.handle) (same_pool endless_region (nodes s).regions (nodes t).regions (ap (λ (a : Model). a.regions) rests)))

  pub op_lists_stay : Unchanged l.block m.block → Holds (op_links (nodes t)) (λ b. listed (m.block b))
  op_lists_stay same =
      subst (λ (v : View OpPtr BlockPtr). Holds v (λ b. listed (m.block b))) (sym (block_edit_links (nodes s) (nodes t) rests))
      (subst (λ (f : BlockPtr → Option (List OpPtr)). Holds (op_links (nodes s)) (λ b. listed (f b))) (sym (fun_ext same)) r.ops_hold)

pub represents : (s t : Context) (l m : Ledger) → Represents s l → (block : BlockPtr) (spot : Spot BlockPtr RegionPtr) → BlockInserted s block spot t → BlockPut l block spot m → Represents t m
represents s t l m r block spot d w =
    let p = w.regions in
    let into = spot_into (block_links (nodes s)) l.region r.regions r.blocks_hold (alone_block s l r) spot p.container p.into in
    let same : p.container ≡ d.linked.container = some_same (sym into ∙ d.linked.into) in
    record {
      operations = operations_stay s t l m r d.held d.linked.rests w.operations;
      blocks = blocks_stay s t l m r d.held d.linked.rests w.blocks;
      regions = regions_stay s t l m r d.held d.linked.rests (still_there region_same l.region m.region p.container p.before p.after p.was p.change);
      ops_hold = op_lists_stay s t l m r d.held d.linked.rests w.blocks;
      blocks_hold = put_holds (block_links (nodes s)) (block_links (nodes t)) l.region m.region block d.linked.container spot d.linked.inserts p same r.blocks_hold;
    }
