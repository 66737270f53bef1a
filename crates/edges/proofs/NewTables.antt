-- A new table that is put into its own body. Assumes nothing.
use Rattle.std.proofs.Common.{◌≡◌, ℕ, true, false, List, is_some, Some, None, Option, sym, refl, ap, ◌∙◌, subst, inl, inr}
use Rattle.std.specs.Option.{option_map}
use mathlib.Core.HLevel.{⊥_prop}
use mathlib.Core.Logic.{∥∥₁_elim}
use Rattle.arena.specs.Shelves.{item}
use Rattle.arena.proofs.Shelving.{enter_only, next_dead}
use Rattle.result.specs.declared.refusal.Refusal.TheVariants.{WouldContainItself}
use Rattle.result.specs.Rows.{NoRow, Uppermost}
use Rattle.trees.specs.Climbs.{Within, below, self}
use Rattle.records.specs.declared.basic_block.BasicBlock.{BasicBlock}
use Rattle.records.specs.declared.handles.BlockPtr.{BlockPtr}
use Rattle.records.specs.declared.handles.OpPtr.{OpPtr}
use Rattle.records.specs.declared.ir_node.IRNode.TheVariants as node
use Rattle.records.specs.declared.kind.Kind.{Kind}
use Rattle.records.specs.declared.making.MadeOperation.{MadeOperation}
use Rattle.records.specs.declared.operation.Operation.{Operation}
use Rattle.records.specs.declared.region.Region.{Region}
use Rattle.records.specs.Makings.{Roomy, body_of, new_region, region_ptrs, with_regions}
use Rattle.records.specs.Models.{Model, block_at, next_block, next_op, next_region, operation_at}
use Rattle.records.specs.Nodes.{is, is_symbol, is_table, owner, parent, regions_of}
use Rattle.records.specs.Views.{block_links, op_links, part}
use Rattle.records.proofs.Sums.{one_kind}
use Rattle.forest.proofs.Listed.{clash, decide}
use Rattle.forest.proofs.Owning.{named_live}
use Rattle.forest.proofs.Tables.{Tables}
use Rattle.symbol_table.specs.declared.op_insertion_point.OpInsertionPoint.{OpInsertionPoint}
use Rattle.symbol_table.specs.declared.op_insertion_point.OpInsertionPoint.TheVariants.{AfterOperation, AtBlockEnd, AtBlockStart, BeforeOperation, Unset}
use Rattle.symbol_table.specs.Bodies.{block_parent, body_in, first_region, parent_op}
use Rattle.symbol_table.specs.Inserting.{AnyDead, insert_rows}
use Rattle.symbol_table.specs.Points.{NoBlock, OtherBlock, has_spot}
use Rattle.symbol_table.proofs.Following.{none_some, part_none}
use Rattle.symbol_table.proofs.Growing.{new_loose, parent_live, parent_still, part_some}
use Rattle.symbol_table.proofs.Putting.{body_parent}
use Rattle.ir.specs.declared.context.Context.{Context}
use Rattle.ir.specs.Calls.{OperationMade, make_operation_rows}
use Rattle.ir.specs.Stores.{nodes}
use Rattle.edges.specs.NewTables.{InBody}
use Rattle.edges.proofs.Makings.{alive as new_alive, entry, is_there as entered_as, places_of, roomy as room_for}

module _ (s t : Context) (name : List ℕ) (made : MadeOperation) (free : NoRow (make_operation_rows s 3 1 name)) (o : OperationMade s 3 1 name made t) where
  abbrev m : Model
  m = nodes s

  abbrev n : Model
  n = nodes t

  abbrev op : OpPtr
  op = next_op m

  places : Tables m
  places = places_of s

  kind_is : o.is ≡ record { table = true; symbol = true; terminator = false }
  kind_is = one_kind o.is (record { table = true; symbol = true; terminator = false }) o.sum

  roomy : Roomy o.is 1 m
  roomy = room_for s t 3 1 name made free o

  is_there : operation_at n op ≡ Some (entry s t 3 1 name made free o)
  is_there = entered_as s t 3 1 name made free o

  alive : (op_links n).live op ≡ true
  alive = new_alive s t 3 1 name made free o

  table : is_table n op ≡ true
  table = ap (is (λ (x : Operation). x.kind.table)) is_there ∙ ap (λ (k : Kind). k.table) kind_is

  symbol : is_symbol n op ≡ true
  symbol = ap (is (λ (x : Operation). x.kind.symbol)) is_there ∙ ap (λ (k : Kind). k.symbol) kind_is

  loose : (op_links n).within op ≡ None
  loose = ap (part (λ (x : Operation). x.container)) is_there

  parentless : parent_op n op ≡ None
  parentless = ap (part (block_parent n)) loose

  -- nothing stands in the new table
  none_under : (x : OpPtr) → parent_op n x ≡ Some op → ⊥
  none_under x e =
      ∥∥₁_elim s.tables.forest.oplists ⊥_prop (λ ops. ∥∥₁_elim s.tables.forest.blocklists ⊥_prop (λ blocks. ∥∥₁_elim s.tables.forest.owned ⊥_prop (λ own.
      let was : (y : OpPtr) → (op_links m).live y ≡ false → (op_links n).within y ≡ None =
      λ y d. ap (λ (z : Model). (op_links z).within y) o.after ∙ new_loose m places o.is o.number 1 roomy y d in
      elim (decide ((op_links m).live x)) [
        | inl l ↦
            (let up : parent_op m x ≡ Some op = sym (parent_still m n o.kept ops.0 blocks.0 ops.1 blocks.1 own was x l) ∙ e in
            clash (sym (parent_live m own x op up) ∙ next_dead m.operations.pool places.op_places roomy.operations))
        | inr d ↦ part_none (block_parent n) ((op_links n).within x) op (was x d) e
      ])))

  first : first_region n op ≡ Some (next_region m)
  unfolding region_ptrs with_regions
  first = ap (part (λ (x : Operation). item (regions_of x) 0)) is_there

  head : (block_links n).head (next_region m) ≡ body_of o.is.table m
  unfolding with_regions
  head =
      ap (λ (x : Model). (block_links x).head (next_region m)) o.after
      ∙ ap (part (λ (x : Region). x.head)) (enter_only m.regions (new_region op (body_of o.is.table m) 0) places.region_places roomy.regions places.regions_even).here

  -- the body that the making answers
  body_is : body_in n op ≡ made.body
  body_is = ap (part (block_links n).head) first ∙ head ∙ sym (ap (λ (x : MadeOperation). x.body) o.answer)

  body_there : made.body ≡ Some (next_block m)
  body_there = ap (λ (x : MadeOperation). x.body) o.answer ∙ ap (λ (k : Kind). body_of k.table m) kind_is

  module _ (b : BlockPtr) (own : made.body ≡ Some b) where
    upward : block_parent n b ≡ Some op
    upward = body_parent n t.tables.bodied t.tables.forest.owned op table b (body_is ∙ own)

    held : (op_links n).held b ≡ true
    held =
        let r = part_some (owner n) ((block_links n).within b) op upward in
        let x = part_some (λ (y : BasicBlock). y.container) (block_at n b) r.it r.is in
        named_live n.blocks b.handle x.it x.is

    inside : Within (parent n) (node.Operation op) (node.BasicBlock b)
    inside =
        let r = part_some (owner n) ((block_links n).within b) op upward in
        below (node.Region r.it) (ap (option_map node.Region) r.is) (below (node.Operation op) (ap (option_map node.Operation) r.part) (self refl))

  -- the point names what is live, and its block is the body
  spot_there : (point : Option OpInsertionPoint) → InBody made.body point → has_spot (op_links n) point ≡ true
  spot_there None i = refl
  spot_there (Some Unset) i = absurd i
  spot_there (Some (AtBlockStart b)) i = held b i
  spot_there (Some (AtBlockEnd b)) i = held b i
  spot_there (Some (AfterOperation x)) i = absurd i
  spot_there (Some (BeforeOperation x)) i = absurd i

  has_block : (point : Option OpInsertionPoint) → InBody made.body point → NoBlock n point → ⊥
  has_block None i h = h
  has_block (Some Unset) i h = i
  has_block (Some (AtBlockStart b)) i h = none_some (sym h)
  has_block (Some (AtBlockEnd b)) i h = none_some (sym h)
  has_block (Some (AfterOperation x)) i h = i
  has_block (Some (BeforeOperation x)) i h = i

  own_block : (point : Option OpInsertionPoint) → InBody made.body point → OtherBlock n op point → ⊥
  own_block None i h = h
  own_block (Some Unset) i h = i
  own_block (Some (AtBlockStart b)) i h = h (body_is ∙ i)
  own_block (Some (AtBlockEnd b)) i h = h (body_is ∙ i)
  own_block (Some (AfterOperation x)) i h = i
  own_block (Some (BeforeOperation x)) i h = i

  all_live : (point : Option OpInsertionPoint) → InBody made.body point → AnyDead n op op point → ⊥
  all_live point i (inl (inl d)) = clash (sym alive ∙ d)
  all_live point i (inl (inr d)) = clash (sym alive ∙ d)
  all_live point i (inr d) = clash (sym (spot_there point i) ∙ d)

  fits : (point : Option OpInsertionPoint) → InBody made.body point → Uppermost (insert_rows n op op point) WouldContainItself
  fits point i =
      inr (
        all_live point i,
        inr (
          (λ d. clash (sym table ∙ d)),
          inr (
            (λ d. clash (sym symbol ∙ d)),
            inr (
              (λ d. none_under d.other d.stands.parent),
              inr (
                (λ d. none_some (sym parentless ∙ d.parent)),
                inr (
                  has_block point i,
                  inr (
                    own_block point i,
                    inr (
                      (λ d. clash (sym d ∙ ap is_some loose)),
                      inl (refl, record { body = next_block m; is_body = body_is ∙ body_there; inside = inside (next_block m) body_there }),
                    ),
                  ),
                ),
              ),
            ),
          ),
        ),
      )

  pub contains_itself : (point : Option OpInsertionPoint) → InBody made.body point → Uppermost (insert_rows n made.operation made.operation point) WouldContainItself
  contains_itself point i =
      subst (λ (x : OpPtr). Uppermost (insert_rows n x x point) WouldContainItself) (sym (ap (λ (x : MadeOperation). x.operation) o.answer)) (fits point i)
