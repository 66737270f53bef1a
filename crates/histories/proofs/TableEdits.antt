-- The edits of tables keep the store as the ledger says. Assumes nothing.
use Rattle.std.proofs.Common.{◌≡◌, Bool, true, false, cond, if◌then◌else◌, Some, None, Option, sym, refl, ap, ◌∙◌, subst, inl}
use Rattle.linked_list.specs.declared.spot.Spot.{Spot}
use Rattle.linked_list.specs.declared.spot.Spot.TheVariants.{AtBack, Before}
use Rattle.linked_list.specs.Links.{In, last_or}
use Rattle.linked_list.proofs.Lists.{some_same}
use Rattle.records.specs.declared.handles.BlockPtr.{BlockPtr}
use Rattle.records.specs.declared.handles.OpPtr.{OpPtr}
use Rattle.records.specs.declared.operation.Operation.{Operation}
use Rattle.records.specs.Models.{operation_at}
use Rattle.records.specs.Nodes.{is, is_table}
use Rattle.records.specs.Views.{block_links, op_links}
use Rattle.symbol_table.specs.declared.op_insertion_point.OpInsertionPoint.{OpInsertionPoint}
use Rattle.symbol_table.specs.Bodies.{is_terminator as ends_block}
use Rattle.symbol_table.specs.Points.{end_before, end_spot}
use Rattle.ir.specs.declared.context.Context.{Context}
use Rattle.ir.specs.Stores.{names, nodes}
use Rattle.ir.specs.Tables.{SymbolInserted, SymbolRemoved}
use Rattle.histories.specs.Feeding.{BodyOf, OpPut, PutAt, TableInserted, TableRemoved, default_after, default_spot}
use Rattle.histories.specs.Ledgers.{Ledger, OpEntry, is_terminator, ops_in}
use Rattle.histories.specs.Represents.{Represents}
use Rattle.histories.proofs.InsertsOp as op_in
use Rattle.histories.proofs.Nodes as the
use Rattle.histories.proofs.Standing as standing
use Rattle.histories.proofs.TableRowing.{at_body}
use Rattle.histories.proofs.Tables.{one_body}
use Rattle.histories.proofs.UnlinksOp as op_out

choose : {X : Type 0} (b c : Bool) (x y : X) → b ≡ c → (if b then x else y) ≡ cond c x y
choose true true x y e = refl
choose true false x y e = cc
choose false true x y e = cc
choose false false x y e = refl

module _ (s : Context) (l : Ledger) (r : Represents s l) where
  -- the body of a table is live
  pub body_held : (table : OpPtr) (b : BlockPtr) → BodyOf l table b → (op_links (nodes s)).held b ≡ true
  body_held table b w =
      standing.in_live (block_links (nodes s)) l.region r.regions r.blocks_hold (the.loose_block s l r) b w.region (subst (In b) (sym w.only_block) (inl refl))

  terminator_is : (op : OpPtr) → is_terminator l op ≡ ends_block (nodes s) op
  terminator_is op =
      ap (is (λ (e : OpEntry). e.kind.terminator)) (r.operations op)
      ∙ the.op_entry (names s) (λ (e : OpEntry). e.kind.terminator) (λ (o : Operation). o.kind.terminator) (λ o. refl) (operation_at (nodes s) op)

  after_is : (b : BlockPtr) (o : Option OpPtr) → end_before (nodes s) b o ≡ default_after l b o
  after_is b None = refl
  after_is b (Some last) = choose (ends_block (nodes s) last) (is_terminator l last) (Before last) (AtBack b) (sym (terminator_is last))

  -- where a symbol goes without a point
  pub default_is : (table : OpPtr) (b : BlockPtr) → BodyOf l table b → end_spot (nodes s) b ≡ default_spot l b
  default_is table b w =
      ap (end_before (nodes s) b) (r.ops_hold.chains b (body_held table b w)).tail ∙ after_is b (last_or (ops_in l b) None)

pub inserted : (s t : Context) (l m : Ledger) → Represents s l → (table op : OpPtr) (point : Option OpInsertionPoint) → (is_table (nodes s) table ≡ false → ⊥) → SymbolInserted s table op point t → TableInserted l table op point m → Represents t m
inserted s t l m r table op None one d w =
    let i = d.inserted in
    let same : w.0 ≡ i.body = one_body s l r table w.0 i.body w.1 (at_body s l r table one i.body i.is_body) in
    let spot : default_spot l w.0 ≡ i.spot = sym (default_is s l r table w.0 w.1) ∙ ap (end_spot (nodes s)) same ∙ some_same i.goes in
    op_in.linked s t l m r op i.spot i.linked d.held (subst (λ (z : Spot OpPtr BlockPtr). OpPut l op z m) spot w.2)
inserted s t l m r table op (Some point) one d w =
    let i = d.inserted in
    op_in.linked s t l m r op i.spot i.linked d.held (subst (λ (z : Option (Spot OpPtr BlockPtr)). PutAt l op z m) i.goes w)

pub removed : (s t : Context) (l m : Ledger) → Represents s l → (table op : OpPtr) → SymbolRemoved s table op t → TableRemoved l table op m → Represents t m
removed s t l m r table op d w = op_out.unlinked s t l m r op d.removed.unlinked d.held w
