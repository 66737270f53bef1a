-- The rows of the calls that edit tables, in the store and in the ledger that it is as, fit alike. Assumes nothing.
use Rattle.std.proofs.Common.{◌≡◌, ℕ, Bool, true, false, ◌⊎◌, [], is_some, Some, None, Option, sym, refl, ap, ◌∙◌, subst, inl, inr, ⊎_elim, slice_index_or, ◌≢◌}
use Rattle.std.proofs.lemmas.Bool.{true_from_ne_false}
use Rattle.linked_list.specs.declared.spot.Spot.{Spot}
use Rattle.linked_list.specs.Edits.{spot_in}
use Rattle.linked_list.proofs.Lists.{none_some, some_same}
use Rattle.records.specs.declared.handles.BlockPtr.{BlockPtr}
use Rattle.records.specs.declared.handles.OpPtr.{OpPtr}
use Rattle.records.specs.declared.ir_node.IRNode.TheVariants as node
use Rattle.records.specs.declared.operation.Operation.{Operation}
use Rattle.records.specs.Models.{operation_at}
use Rattle.records.specs.Nodes.{is_table as store_table}
use Rattle.records.specs.Views.{op_links, part}
use Rattle.forest.proofs.Listed.{clash}
use Rattle.names.specs.Places.{Stands as At}
use Rattle.symbol_table.specs.declared.op_insertion_point.OpInsertionPoint.{OpInsertionPoint}
use Rattle.symbol_table.specs.Bodies.{body_in}
use Rattle.symbol_table.specs.Bodies.{name_of as number_of}
use Rattle.symbol_table.specs.Inserting.{AnyDead, BodyInside, EitherDead, OtherParent, Redefined}
use Rattle.symbol_table.specs.Points.{NoBlock, OtherBlock, has_spot, names_live, point_spot}
use Rattle.symbol_table.proofs.Owned.{has_one_body}
use Rattle.ir.specs.declared.context.Context.{Context}
use Rattle.ir.specs.Stores.{name_at, name_of, names, nodes}
use Rattle.ir.specs.Tables.{bytes_of}
use Rattle.ir.proofs.Tabling.{by_bytes, by_number, numbered}
use Rattle.histories.specs.Calls.{EitherGone, Elsewhere, MaybeGone, MaybeIn, NameTaken, Nowhere, PointGone, ledger_rows, rows, table_insert, table_remove}
use Rattle.histories.specs.Feeding.{BodyOf}
use Rattle.histories.specs.Ledgers.{Below, Ledger, children}
use Rattle.histories.specs.Represents.{Represents}
use Rattle.histories.specs.Tables.{ParentOp}
use Rattle.histories.proofs.Judging.{Alike, AlikeInTurn}
use Rattle.histories.proofs.Nodes as the
use Rattle.histories.proofs.Standing as standing
use Rattle.histories.proofs.Tables.{body_of, from_parent_op, from_stands, mapped_part, name_read, one_body, part_mapped, part_some, to_parent_op, to_stands}

false_from : (b : Bool) → (b ≡ true → ⊥) → b ≡ false
false_from true f = absurd (f refl)
false_from false f = refl

module _ (s : Context) (l : Ledger) (r : Represents s l) where
  either_gone : (table op : OpPtr) → EitherDead (nodes s) table op → EitherGone l table op
  either_gone table op e = ⊎_elim (λ d. inl (the.dead_op s l r table d)) (λ d. inr (the.dead_op s l r op d)) e

  gone_either : (table op : OpPtr) → EitherGone l table op → EitherDead (nodes s) table op
  gone_either table op e = ⊎_elim (λ d. inl (the.op_dead s l r table d)) (λ d. inr (the.op_dead s l r op d)) e

  -- what a point names
  maybe_gone : (o : Option (Spot OpPtr BlockPtr)) → names_live (op_links (nodes s)) o ≡ false → MaybeGone l o
  maybe_gone None e = clash e
  maybe_gone (Some spot) e = standing.spot_gone (op_links (nodes s)) (λ n. l.operation n ≡ None) (λ c. l.block c ≡ None) (the.dead_op s l r) (the.dead_block s l r) spot e

  gone_maybe : (o : Option (Spot OpPtr BlockPtr)) → MaybeGone l o → names_live (op_links (nodes s)) o ≡ false
  gone_maybe None e = absurd e
  gone_maybe (Some spot) e = standing.gone_spot (op_links (nodes s)) (λ n. l.operation n ≡ None) (λ c. l.block c ≡ None) (the.op_dead s l r) (the.block_dead s l r) spot e

  point_gone : (point : Option OpInsertionPoint) → has_spot (op_links (nodes s)) point ≡ false → PointGone l point
  point_gone None e = clash e
  point_gone (Some p) e = maybe_gone (point_spot p) e

  gone_point : (point : Option OpInsertionPoint) → PointGone l point → has_spot (op_links (nodes s)) point ≡ false
  gone_point None e = absurd e
  gone_point (Some p) e = gone_maybe (point_spot p) e

  any_gone : (table op : OpPtr) (point : Option OpInsertionPoint) → AnyDead (nodes s) table op point → EitherGone l table op ⊎ PointGone l point
  any_gone table op point e = ⊎_elim (λ d. inl (either_gone table op d)) (λ d. inr (point_gone point d)) e

  gone_any : (table op : OpPtr) (point : Option OpInsertionPoint) → EitherGone l table op ⊎ PointGone l point → AnyDead (nodes s) table op point
  gone_any table op point e = ⊎_elim (λ d. inl (gone_either table op d)) (λ d. inr (gone_point point d)) e

  -- a name is in the table
  bytes_some : (op : OpPtr) (i : ℕ) → number_of (nodes s) op ≡ Some i → bytes_of s op ≡ Some (slice_index_or (names s) i [])
  bytes_some op i e =
      let o = part_some (λ (x : Operation). x.name) (operation_at (nodes s) op) i e in
      ap (part (name_of (names s))) o.1 ∙ ap (name_at (names s)) o.2

  taken : (table op : OpPtr) → Redefined (nodes s) table op → NameTaken l table op
  taken table op w =
      let name = slice_index_or (names s) w.number [] in
      let e = bytes_some op w.number w.named in
      let n = numbered s op name e in
      let at : At (names s) w.number name = subst (λ (i : ℕ). At (names s) i name) (some_same (sym n.named ∙ w.named)) n.at in
      (name, w.other, name_read s l r op ∙ part_mapped (name_of (names s)) (operation_at (nodes s) op) name e, to_stands s l r table name w.other (by_bytes s table name w.number at w.other w.stands))

  redefined : (table op : OpPtr) → NameTaken l table op → Redefined (nodes s) table op
  redefined table op w =
      let n = numbered s op w.0 (mapped_part (name_of (names s)) (operation_at (nodes s) op) w.0 (sym (name_read s l r op) ∙ w.2)) in
      record { number = n.number; named = n.named; other = w.1; stands = by_number s table w.0 n.number n.at w.1 (from_stands s l r table w.0 w.1 w.3) }

  to_other : (table op : OpPtr) → OtherParent (nodes s) table op → (other : OpPtr) × ParentOp l op other × (other ≢ table)
  to_other table op w = (w.other, to_parent_op s l r op w.other w.parent, w.differs)

  from_other : (table op : OpPtr) → ((other : OpPtr) × ParentOp l op other × (other ≢ table)) → OtherParent (nodes s) table op
  from_other table op w = record { other = w.0; parent = from_parent_op s l r op w.0 w.1; differs = w.2 }

  -- a point lies in a block, or in none
  into : (o : Option (Spot OpPtr BlockPtr)) (b : BlockPtr) → MaybeIn l o b → part (spot_in (op_links (nodes s))) o ≡ Some b
  into None b i = absurd i
  into (Some spot) b i = standing.spot_into (op_links (nodes s)) l.block r.blocks r.ops_hold (the.loose_op s l r) spot b i

  into_is : (o : Option (Spot OpPtr BlockPtr)) (b : BlockPtr) → part (spot_in (op_links (nodes s))) o ≡ Some b → MaybeIn l o b
  into_is None b e = none_some e
  into_is (Some spot) b e = standing.into_spot (op_links (nodes s)) l.block r.blocks r.ops_hold (the.loose_op s l r) spot b e

  to_nowhere : (point : Option OpInsertionPoint) → NoBlock (nodes s) point → Nowhere l point
  to_nowhere None e = e
  to_nowhere (Some p) e = λ w. none_some (sym e ∙ into (point_spot p) w.0 w.1)

  from_nowhere : (point : Option OpInsertionPoint) → Nowhere l point → NoBlock (nodes s) point
  from_nowhere None e = e
  from_nowhere (Some p) e =
      standing.none_is (part (spot_in (op_links (nodes s))) (point_spot p))
      (false_from (is_some (part (spot_in (op_links (nodes s))) (point_spot p)))
      (λ t. let w = standing.some_is (part (spot_in (op_links (nodes s))) (point_spot p)) t in e (w.0, into_is (point_spot p) w.0 w.1)))

  module _ (table : OpPtr) (is_one : store_table (nodes s) table ≡ false → ⊥) where
    body_at : (b : BlockPtr) → BodyOf l table b → body_in (nodes s) table ≡ Some b
    body_at b w =
        let o = has_one_body s.tables table (true_from_ne_false _ is_one) in
        o.is_body ∙ ap (λ (z : BlockPtr). Some z) (one_body s l r table o.body b (body_of s l r table o) w)

    pub at_body : (b : BlockPtr) → body_in (nodes s) table ≡ Some b → BodyOf l table b
    at_body b e =
        let o = has_one_body s.tables table (true_from_ne_false _ is_one) in
        subst (BodyOf l table) (some_same (sym o.is_body ∙ e)) (body_of s l r table o)

    to_elsewhere : (point : Option OpInsertionPoint) → OtherBlock (nodes s) table point → Elsewhere l table point
    to_elsewhere None e = e
    to_elsewhere (Some p) e = λ w. e (body_at w.0 w.1 ∙ sym (into (point_spot p) w.0 w.2))

    from_elsewhere : (point : Option OpInsertionPoint) → Elsewhere l table point → OtherBlock (nodes s) table point
    from_elsewhere None e = e
    from_elsewhere (Some p) e = λ q.
        let o = has_one_body s.tables table (true_from_ne_false _ is_one) in
        e (o.body, body_of s l r table o, into_is (point_spot p) o.body (sym q ∙ o.is_body))

    to_inside : (op : OpPtr) → BodyInside (nodes s) table op → (b : BlockPtr) × BodyOf l table b × Below (children l) (node.Operation op) (node.BasicBlock b)
    to_inside op w = (w.body, at_body w.body w.is_body, the.within_below s l r w.inside)

    from_inside : (op : OpPtr) → ((b : BlockPtr) × BodyOf l table b × Below (children l) (node.Operation op) (node.BasicBlock b)) → BodyInside (nodes s) table op
    from_inside op w = record { body = w.0; is_body = body_at w.0 w.1; inside = the.below_within s l r w.2 }

  pub table_insert_alike : (table op : OpPtr) (point : Option OpInsertionPoint) → AlikeInTurn (rows s (table_insert table op point)) (ledger_rows l s (table_insert table op point))
  table_insert_alike table op point =
      let v = op_links (nodes s) in (
        refl,
        any_gone table op point,
        gone_any table op point,
        (λ live. (
          refl,
          (λ e. the.table_is s l r table ∙ e),
          (λ e. sym (the.table_is s l r table) ∙ e),
          (λ one. (
            refl,
            (λ e. the.symbol_is s l r op ∙ e),
            (λ e. sym (the.symbol_is s l r op) ∙ e),
            (λ symbol. (
              refl,
              taken table op,
              redefined table op,
              (λ new. (
                refl,
                to_other table op,
                from_other table op,
                (λ only. (
                  refl,
                  to_nowhere point,
                  from_nowhere point,
                  (λ placed. (
                    refl,
                    to_elsewhere table one point,
                    from_elsewhere table one point,
                    (λ same. (
                      refl,
                      standing.stands v l.block r.blocks r.ops_hold (the.loose_op s l r) op,
                      standing.stood v l.block r.blocks r.ops_hold (the.loose_op s l r) op,
                      (λ free. (refl, to_inside table one op, from_inside table one op, (λ no. tt))),
                    )),
                  )),
                )),
              )),
            )),
          )),
        )),
      )

  pub table_remove_alike : (table op : OpPtr) → Alike (rows s (table_remove table op)) (ledger_rows l s (table_remove table op))
  table_remove_alike table op = (
    refl,
    either_gone table op,
    gone_either table op,
    (
      refl,
      (λ e. the.table_is s l r table ∙ e),
      (λ e. sym (the.table_is s l r table) ∙ e),
      (
        refl,
        (λ e. the.symbol_is s l r op ∙ e),
        (λ e. sym (the.symbol_is s l r op) ∙ e),
        (refl, (λ e w. e (from_parent_op s l r op table w)), (λ e w. e (to_parent_op s l r op table w)), tt),
      ),
    ),
  )
