-- Where a store is as a ledger says, its rows of refusals and the ledger's fit alike. Assumes nothing.
use Rattle.std.proofs.Common.{◌≡◌, Bool, true, false, ◌&&◌, ◌⊎◌, List, [], ◌∷◌, None, Option, sym, refl, ◌∙◌, inl, inr, ⊎_elim}
use Rattle.linked_list.specs.declared.spot.Spot.{Spot}
use Rattle.linked_list.specs.Edits.{spot_in, spot_live}
use Rattle.linked_list.specs.Links.{In}
use Rattle.records.specs.declared.handles.BlockPtr.{BlockPtr}
use Rattle.records.specs.declared.handles.OpPtr.{OpPtr}
use Rattle.records.specs.declared.handles.RegionPtr.{RegionPtr}
use Rattle.records.specs.Nodes.{is, is_body, is_symbol, is_table, of_table}
use Rattle.records.specs.Views.{block_links, op_links}
use Rattle.result.specs.declared.refusal.Refusal.{Refusal}
use Rattle.result.specs.declared.refusal.Refusal.TheVariants.{Dangling, NotATable}
use Rattle.identifier.specs.Identifiers.{name_rows}
use Rattle.forest.proofs.Listed.{clash}
use Rattle.ir.specs.declared.context.Context.{Context}
use Rattle.ir.specs.Calls.{make_block_rows, make_operation_rows}
use Rattle.ir.specs.Stores.{nodes}
use Rattle.histories.specs.Calls.{Call, make_operation, make_block, insert_op, insert_block, unlink_op, unlink_block, erase_op, erase_block, table_insert, table_remove, table_erase, lookup, lookup_nearest, nearest_symbol_table, set_note, walk, walk_noting, walk_table, SpotGone, SpotWhere, ledger_rows, no_table_rows, rows}
use Rattle.histories.specs.Ledgers.{Body, Ledger, OfTable, ops_in}
use Rattle.histories.specs.Ledgers.{is_symbol as symbol_in}
use Rattle.histories.specs.Represents.{Represents}
use Rattle.histories.proofs.Judging.{Alike, AlikeInTurn, as_they_are, in_turn}
use Rattle.histories.proofs.Nodes as the
use Rattle.histories.proofs.Standing as standing
use Rattle.histories.proofs.TableRowing.{table_insert_alike, table_remove_alike}

both : (a b : Bool) → (a && b) ≡ true → (a ≡ true) × (b ≡ true)
both true b e = (refl, e)
both false b e = absurd (clash (sym e))

and_so : (a b : Bool) → a ≡ true → b ≡ true → (a && b) ≡ true
and_so true b e f = f
and_so false b e f = absurd (clash (sym e))

module _ (s : Context) (l : Ledger) (r : Represents s l) where
  abbrev ops_to : (b : Bool) → Type 0
  ops_to b = b ≡ true

  -- an operation, and what a spot among operations names
  op_gone : (op : OpPtr) (spot : Spot OpPtr BlockPtr) → ((op_links (nodes s)).live op ≡ false) ⊎ (spot_live (op_links (nodes s)) spot ≡ false)
      → (l.operation op ≡ None) ⊎ SpotGone (λ n. l.operation n ≡ None) (λ c. l.block c ≡ None) spot
  op_gone op spot e =
      ⊎_elim (λ d. inl (the.dead_op s l r op d))
      (λ d. inr (standing.spot_gone (op_links (nodes s)) (λ n. l.operation n ≡ None) (λ c. l.block c ≡ None) (the.dead_op s l r) (the.dead_block s l r) spot d)) e

  gone_op : (op : OpPtr) (spot : Spot OpPtr BlockPtr) → (l.operation op ≡ None) ⊎ SpotGone (λ n. l.operation n ≡ None) (λ c. l.block c ≡ None) spot
      → ((op_links (nodes s)).live op ≡ false) ⊎ (spot_live (op_links (nodes s)) spot ≡ false)
  gone_op op spot e =
      ⊎_elim (λ d. inl (the.op_dead s l r op d))
      (λ d. inr (standing.gone_spot (op_links (nodes s)) (λ n. l.operation n ≡ None) (λ c. l.block c ≡ None) (the.op_dead s l r) (the.block_dead s l r) spot d)) e

  -- the same for blocks
  block_gone : (b : BlockPtr) (spot : Spot BlockPtr RegionPtr) → ((block_links (nodes s)).live b ≡ false) ⊎ (spot_live (block_links (nodes s)) spot ≡ false)
      → (l.block b ≡ None) ⊎ SpotGone (λ n. l.block n ≡ None) (λ c. l.region c ≡ None) spot
  block_gone b spot e =
      ⊎_elim (λ d. inl (the.dead_block s l r b d))
      (λ d. inr (standing.spot_gone (block_links (nodes s)) (λ n. l.block n ≡ None) (λ c. l.region c ≡ None) (the.dead_block s l r) (the.dead_region s l r) spot d)) e

  gone_block : (b : BlockPtr) (spot : Spot BlockPtr RegionPtr) → (l.block b ≡ None) ⊎ SpotGone (λ n. l.block n ≡ None) (λ c. l.region c ≡ None) spot
      → ((block_links (nodes s)).live b ≡ false) ⊎ (spot_live (block_links (nodes s)) spot ≡ false)
  gone_block b spot e =
      ⊎_elim (λ d. inl (the.block_dead s l r b d))
      (λ d. inr (standing.gone_spot (block_links (nodes s)) (λ n. l.block n ≡ None) (λ c. l.region c ≡ None) (the.block_dead s l r) (the.region_dead s l r) spot d)) e

  -- the body that an operation would come to, or stands in
  bound : (op : OpPtr) (o : Option BlockPtr) (P : Type 0) → (is (is_body (nodes s)) o ≡ true → P) → (is_symbol (nodes s) op && is (is_body (nodes s)) o) ≡ true → (symbol_in l op ≡ true) × P
  bound op o P f e = let w = both (is_symbol (nodes s) op) (is (is_body (nodes s)) o) e in (the.symbol_is s l r op ∙ w.0, f w.1)

  bind : (op : OpPtr) (o : Option BlockPtr) (P : Type 0) → (P → is (is_body (nodes s)) o ≡ true) → (symbol_in l op ≡ true) × P → (is_symbol (nodes s) op && is (is_body (nodes s)) o) ≡ true
  bind op o P f w = and_so (is_symbol (nodes s) op) (is (is_body (nodes s)) o) (sym (the.symbol_is s l r op) ∙ w.0) (f w.1)

  insert_op_alike : (op : OpPtr) (spot : Spot OpPtr BlockPtr) → Alike (rows s (insert_op op spot)) (ledger_rows l s (insert_op op spot))
  insert_op_alike op spot =
      let v = op_links (nodes s) in
      let body = standing.spot_where v l.block r.blocks r.ops_hold (the.loose_op s l r) (is_body (nodes s)) (Body l) (the.to_body s l r) (the.from_body s l r) spot in
      let bodied = standing.where_spot v l.block r.blocks r.ops_hold (the.loose_op s l r) (is_body (nodes s)) (Body l) (the.to_body s l r) (the.from_body s l r) spot in (
        refl,
        op_gone op spot,
        gone_op op spot,
        (
          refl,
          standing.stands v l.block r.blocks r.ops_hold (the.loose_op s l r) op,
          standing.stood v l.block r.blocks r.ops_hold (the.loose_op s l r) op,
          (
            refl,
            standing.nowhere v l.block r.blocks r.ops_hold (the.loose_op s l r) spot,
            standing.not_somewhere v l.block r.blocks r.ops_hold (the.loose_op s l r) spot,
            (
              refl,
              the.within_below s l r,
              the.below_within s l r,
              (refl, bound op (spot_in v spot) (SpotWhere (ops_in l) (Body l) spot) body, bind op (spot_in v spot) (SpotWhere (ops_in l) (Body l) spot) bodied, tt),
            ),
          ),
        ),
      )

  insert_block_alike : (b : BlockPtr) (spot : Spot BlockPtr RegionPtr) → Alike (rows s (insert_block b spot)) (ledger_rows l s (insert_block b spot))
  insert_block_alike b spot =
      let v = block_links (nodes s) in
      let fixed = standing.spot_where v l.region r.regions r.blocks_hold (the.loose_block s l r) (of_table (nodes s)) (OfTable l) (the.to_of_table s l r) (the.from_of_table s l r) spot in
      let held = standing.where_spot v l.region r.regions r.blocks_hold (the.loose_block s l r) (of_table (nodes s)) (OfTable l) (the.to_of_table s l r) (the.from_of_table s l r) spot in (
        refl,
        block_gone b spot,
        gone_block b spot,
        (
          refl,
          standing.stands v l.region r.regions r.blocks_hold (the.loose_block s l r) b,
          standing.stood v l.region r.regions r.blocks_hold (the.loose_block s l r) b,
          (
            refl,
            standing.nowhere v l.region r.regions r.blocks_hold (the.loose_block s l r) spot,
            standing.not_somewhere v l.region r.regions r.blocks_hold (the.loose_block s l r) spot,
            (
              refl,
              fixed,
              held,
              (refl, the.within_below s l r, the.below_within s l r, tt),
            ),
          ),
        ),
      )

  unlink_op_alike : (op : OpPtr) → Alike (rows s (unlink_op op)) (ledger_rows l s (unlink_op op))
  unlink_op_alike op =
      let v = op_links (nodes s) in
      let body = standing.within_where v l.block r.blocks r.ops_hold (the.loose_op s l r) (is_body (nodes s)) (Body l) (the.to_body s l r) (the.from_body s l r) op in
      let bodied = standing.where_within v l.block r.blocks r.ops_hold (the.loose_op s l r) (is_body (nodes s)) (Body l) (the.to_body s l r) (the.from_body s l r) op in (
        refl,
        the.dead_op s l r op,
        the.op_dead s l r op,
        (
          refl,
          standing.alone v l.block r.blocks r.ops_hold (the.loose_op s l r) op,
          standing.not_alone v l.block r.blocks r.ops_hold (the.loose_op s l r) op,
          (refl, bound op (v.within op) ((c : BlockPtr) × In op (ops_in l c) × Body l c) body, bind op (v.within op) ((c : BlockPtr) × In op (ops_in l c) × Body l c) bodied, tt),
        ),
      )

  unlink_block_alike : (b : BlockPtr) → Alike (rows s (unlink_block b)) (ledger_rows l s (unlink_block b))
  unlink_block_alike b =
      let v = block_links (nodes s) in (
        refl,
        the.dead_block s l r b,
        the.block_dead s l r b,
        (
          refl,
          standing.alone v l.region r.regions r.blocks_hold (the.loose_block s l r) b,
          standing.not_alone v l.region r.regions r.blocks_hold (the.loose_block s l r) b,
          (
            refl,
            standing.within_where v l.region r.regions r.blocks_hold (the.loose_block s l r) (of_table (nodes s)) (OfTable l) (the.to_of_table s l r) (the.from_of_table s l r) b,
            standing.where_within v l.region r.regions r.blocks_hold (the.loose_block s l r) (of_table (nodes s)) (OfTable l) (the.to_of_table s l r) (the.from_of_table s l r) b,
            tt,
          ),
        ),
      )

  erase_op_alike : (op : OpPtr) → Alike (rows s (erase_op op)) (ledger_rows l s (erase_op op))
  erase_op_alike op =
      let v = op_links (nodes s) in
      let body = standing.within_where v l.block r.blocks r.ops_hold (the.loose_op s l r) (is_body (nodes s)) (Body l) (the.to_body s l r) (the.from_body s l r) op in
      let bodied = standing.where_within v l.block r.blocks r.ops_hold (the.loose_op s l r) (is_body (nodes s)) (Body l) (the.to_body s l r) (the.from_body s l r) op in (
        refl,
        the.dead_op s l r op,
        the.op_dead s l r op,
        (refl, bound op (v.within op) ((c : BlockPtr) × In op (ops_in l c) × Body l c) body, bind op (v.within op) ((c : BlockPtr) × In op (ops_in l c) × Body l c) bodied, tt),
      )

  erase_block_alike : (b : BlockPtr) → Alike (rows s (erase_block b)) (ledger_rows l s (erase_block b))
  erase_block_alike b =
      let v = block_links (nodes s) in (
        refl,
        the.dead_block s l r b,
        the.block_dead s l r b,
        (
          refl,
          standing.within_where v l.region r.regions r.blocks_hold (the.loose_block s l r) (of_table (nodes s)) (OfTable l) (the.to_of_table s l r) (the.from_of_table s l r) b,
          standing.where_within v l.region r.regions r.blocks_hold (the.loose_block s l r) (of_table (nodes s)) (OfTable l) (the.to_of_table s l r) (the.from_of_table s l r) b,
          tt,
        ),
      )

  -- the rows of asking a table, above others
  no_table_alike : (table : OpPtr) (others : List (Refusal × Type 0)) → Alike ((Dangling, (op_links (nodes s)).live table ≡ false) ∷ (NotATable, is_table (nodes s) table ≡ false) ∷ others) (no_table_rows l table others)
  no_table_alike table others = (
    refl,
    the.dead_op s l r table,
    the.op_dead s l r table,
    (refl, (λ e. the.table_is s l r table ∙ e), (λ e. sym (the.table_is s l r table) ∙ e), as_they_are others),
  )

  -- a call whose rows are alike, whatever rows are above
  each : (c : Call) → Alike (rows s c) (ledger_rows l s c) → AlikeInTurn (rows s c) (ledger_rows l s c)
  each c = in_turn (rows s c) (ledger_rows l s c)

  pub alike : (c : Call) → AlikeInTurn (rows s c) (ledger_rows l s c)
  alike (make_operation kind regions name) = each (make_operation kind regions name) (as_they_are (make_operation_rows s kind regions name))
  alike make_block = each make_block (as_they_are (make_block_rows s))
  alike (insert_op op spot) = each (insert_op op spot) (insert_op_alike op spot)
  alike (insert_block block spot) = each (insert_block block spot) (insert_block_alike block spot)
  alike (unlink_op op) = each (unlink_op op) (unlink_op_alike op)
  alike (unlink_block block) = each (unlink_block block) (unlink_block_alike block)
  alike (erase_op op) = each (erase_op op) (erase_op_alike op)
  alike (erase_block block) = each (erase_block block) (erase_block_alike block)
  alike (table_insert table op point) = table_insert_alike s l r table op point
  alike (table_remove table op) = each (table_remove table op) (table_remove_alike s l r table op)
  alike (table_erase table op) = each (table_erase table op) (table_remove_alike s l r table op)
  alike (lookup table name) = each (lookup table name) (no_table_alike table (name_rows name))
  alike (lookup_nearest op name) = each (lookup_nearest op name) (refl, the.dead_op s l r op, the.op_dead s l r op, as_they_are (name_rows name))
  alike (nearest_symbol_table op) = each (nearest_symbol_table op) (refl, the.dead_op s l r op, the.op_dead s l r op, tt)
  alike (set_note op note) = each (set_note op note) (refl, the.op_none s l r op, the.none_op s l r op, tt)
  alike (walk root k) = each (walk root k) (refl, the.dead_gone s l r root, the.gone_dead s l r root, tt)
  alike (walk_noting root k) = each (walk_noting root k) (refl, the.dead_gone s l r root, the.gone_dead s l r root, tt)
  alike (walk_table table) = each (walk_table table) (no_table_alike table [])
