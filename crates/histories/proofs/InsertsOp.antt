-- Linking an operation keeps the store as the ledger says. Assumes nothing.
use Rattle.std.proofs.Common.{◌≡◌, ℕ, List, is_some, Option, sym, refl, ap, ◌∙◌, subst}
use mathlib.Core.Path.{fun_ext}
use Rattle.std.specs.Option.{option_map}
use Rattle.arena.specs.Pools.{Pool, live}
use Rattle.linked_list.specs.declared.spot.Spot.{Spot}
use Rattle.linked_list.specs.Links.{Holds, View}
use Rattle.linked_list.proofs.Lists.{some_same}
use Rattle.records.specs.declared.handles.BlockPtr.{BlockPtr}
use Rattle.records.specs.declared.handles.OpPtr.{OpPtr}
use Rattle.records.specs.declared.handles.RegionPtr.{RegionPtr}
use Rattle.records.specs.Models.{Model, operation_at}
use Rattle.records.specs.Views.{block_links, but_op_links, endless_block, loose_op, op_links}
use Rattle.records.specs.Writes.{block_same}
use Rattle.records.proofs.Rests.{same_mapped, same_pool}
use Rattle.records.proofs.Rests.{op_edit_links}
use Rattle.forest.specs.Linkings.{OpLinked}
use Rattle.ir.specs.declared.context.Context.{Context}
use Rattle.ir.specs.Linkings.{OpInserted}
use Rattle.ir.specs.Stores.{names, nodes}
use Rattle.histories.specs.Feeding.{Unchanged, OpPut}
use Rattle.histories.specs.Ledgers.{Ledger, listed}
use Rattle.histories.specs.Represents.{Represents, entry}
use Rattle.histories.proofs.Edits.{put_holds, still_there}
use Rattle.histories.proofs.Nodes.{loose_op as alone_op}
use Rattle.histories.proofs.Standing.{spot_into}

-- what an edit of the links of operations in blocks leaves
module _ (s t : Context) (l m : Ledger) (r : Represents s l) (held : names t ≡ names s) (rests : but_op_links (nodes t) ≡ but_op_links (nodes s)) where
  pub operations_stay : Unchanged l.operation m.operation → (op : OpPtr) → m.operation op ≡ option_map (entry (names t)) (operation_at (nodes t) op)
  operations_stay same op =
      same op ∙ r.operations op ∙ ap (λ (h : List (List ℕ)). option_map (entry h) (operation_at (nodes s) op)) (sym held)
      ∙ sym (same_mapped loose_op (nodes s).operations (nodes t).operations (ap (λ (a : Model). a.operations) rests) (entry (names t)) (λ o. refl) op.handle)

  pub blocks_stay : ((b : BlockPtr) → is_some (m.block b) ≡ is_some (l.block b)) → (b : BlockPtr) → is_some (m.block b) ≡ live (nodes t).blocks.pool b.handle
  blocks_stay same b =
      same b ∙ r.blocks b
      ∙ sym (ap (λ (p : Pool). live p b.handle) (same_pool endless_block (nodes s).blocks (nodes t).blocks (ap (λ (a : Model). a.blocks) rests)))

  pub regions_stay : Unchanged l.region m.region → (x : RegionPtr) → is_some (m.region x) ≡ live (nodes t).regions.pool x.handle
  regions_stay same x = ap is_some (same x) ∙ r.regions x ∙ sym (ap (λ (a : Model). live a.regions.pool x.handle) rests)

  pub block_lists_stay : Unchanged l.region m.region → Holds (block_links (nodes t)) (λ x. listed (m.region x))
  block_lists_stay same =
      subst (λ (v : View BlockPtr RegionPtr). Holds v (λ x. listed (m.region x))) (sym (op_edit_links (nodes s) (nodes t) rests))
      (subst (λ (f : RegionPtr → Option (List BlockPtr)). Holds (block_links (nodes s)) (λ x. listed (f x))) (sym (fun_ext same)) r.blocks_hold)

-- the links of the operation as they are edited where the names stay, by whatever call
pub linked : (s t : Context) (l m : Ledger) → Represents s l → (op : OpPtr) (spot : Spot OpPtr BlockPtr) → OpLinked (nodes s) op spot (nodes t) → names t ≡ names s → OpPut l op spot m → Represents t m
linked s t l m r op spot d held w =
    let p = w.blocks in
    let into = spot_into (op_links (nodes s)) l.block r.blocks r.ops_hold (alone_op s l r) spot p.container p.into in
    let same : p.container ≡ d.container = some_same (sym into ∙ d.into) in
    record {
      operations = operations_stay s t l m r held d.rests w.operations;
      blocks = blocks_stay s t l m r held d.rests (still_there block_same l.block m.block p.container p.before p.after p.was p.change);
      regions = regions_stay s t l m r held d.rests w.regions;
      ops_hold = put_holds (op_links (nodes s)) (op_links (nodes t)) l.block m.block op d.container spot d.inserts p same r.ops_hold;
      blocks_hold = block_lists_stay s t l m r held d.rests w.regions;
    }

pub represents : (s t : Context) (l m : Ledger) → Represents s l → (op : OpPtr) (spot : Spot OpPtr BlockPtr) → OpInserted s op spot t → OpPut l op spot m → Represents t m
represents s t l m r op spot d w = linked s t l m r op spot d.linked d.held w
