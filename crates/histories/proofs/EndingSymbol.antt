-- What a table's erase leaves is what the ledger takes down of an erasing: the symbol was unlinked first, and then it ended with all that
-- lies below it. Assumes nothing.
use Rattle.std.proofs.Common.{◌≡◌, true, false, List, Some, None, sym, refl, ap, ◌∙◌, subst, ⊎_elim}
use Rattle.std.specs.Option.{option_map}
use Rattle.linked_list.specs.Edits.{Removes}
use Rattle.linked_list.specs.Links.{At, Holds}
use Rattle.linked_list.proofs.Lists.{none_some, some_same}
use Rattle.trees.specs.Climbs.{Within, below, self}
use Rattle.records.specs.declared.handles.BlockPtr.{BlockPtr}
use Rattle.records.specs.declared.handles.OpPtr.{OpPtr}
use Rattle.records.specs.declared.ir_node.IRNode.{IRNode}
use Rattle.records.specs.declared.ir_node.IRNode.TheVariants as node
use Rattle.records.specs.Children.{Lists, is_live}
use Rattle.records.specs.Models.{Model, operation_at}
use Rattle.records.specs.Nodes.{owner, parent}
use Rattle.records.specs.Views.{block_links, loose_op, op_links}
use Rattle.records.specs.Writes.{block_same}
use Rattle.records.proofs.Rests.{at_all, op_edit_links}
use Rattle.erasers.proofs.Ends.{outside_op}
use Rattle.forest.specs.Erasings.{OpErased, TakenOut}
use Rattle.forest.specs.Linkings.{OpUnlinked}
use Rattle.forest.proofs.Above.{node_same}
use Rattle.forest.proofs.Subtrees.{fewer_ended, less_of, op_lists, op_moved}
use Rattle.symbol_table.specs.Carried.{nodes as tabled}
use Rattle.ir.specs.declared.context.Context.{Context}
use Rattle.ir.specs.Stores.{nodes}
use Rattle.ir.specs.Tables.{SymbolErased}
use Rattle.histories.specs.Ledgers.{Ledger, blocks_in, ops_in}
use Rattle.histories.specs.Represents.{Represents}
use Rattle.histories.proofs.Ending.{block_no_op, is_out, less_same, op_inj, taken_same, was_there}
use Rattle.histories.proofs.Erases.{Erases}
use Rattle.histories.proofs.Held.{holds_same}
use Rattle.histories.proofs.Nodes as the
use Rattle.histories.proofs.Standing.{in_live}

-- from the store m an operation is unlinked, which gives u
module _ (m u : Model) (op : OpPtr) (d : OpUnlinked m op u) where
  none_out : (op_links m).within op ≡ None → op_links u ≡ op_links m
  none_out e = absurd (none_some (sym e ∙ d.from))

  some_out : (c : BlockPtr) → (op_links m).within op ≡ Some c → Removes (op_links m) (op_links u) op c
  some_out c e = subst (λ (z : BlockPtr). Removes (op_links m) (op_links u) op z) (some_same (sym d.from ∙ e)) d.removes

  moved : At (op_links m).within (op_links u).within op None
  moved = op_moved m u op none_out some_out

  -- only the operation has another parent, and that is none
  other : (y : IRNode) → (y ≡ node.Operation op → ⊥) → parent u y ≡ parent m y
  other (node.Operation p) ne = ap (option_map node.BasicBlock) (moved.other p (λ e. ne (ap node.Operation e)))
  other (node.BasicBlock b) ne = ap (λ v. option_map node.Region (v.within b)) (op_edit_links m u d.rests)
  other (node.Region x) ne = ap (λ (a : Model). option_map node.Operation (owner a x)) d.rests

  alone : parent u (node.Operation op) ≡ None
  alone = ap (option_map node.BasicBlock) moved.here

  to_before : {x : IRNode} → Within (parent u) (node.Operation op) x → Within (parent m) (node.Operation op) x
  to_before (self e) = self e
  to_before {x} (below k e w) = below k (sym (other x (λ z. none_some (sym alone ∙ ap (parent u) (sym z) ∙ e))) ∙ e) (to_before w)

  from_before : {x : IRNode} → Within (parent m) (node.Operation op) x → Within (parent u) (node.Operation op) x
  from_before (self e) = self e
  from_before {x} (below k e w) = ⊎_elim (λ z. self z) (λ ne. below k (other x ne ∙ e) (from_before w)) (node_same x (node.Operation op))

  same_live : (x : IRNode) → is_live u x ≡ is_live m x
  same_live (node.Operation p) = ap (λ (a : Model). is_live a (node.Operation p)) d.rests
  same_live (node.BasicBlock b) = ap (λ (a : Model). is_live a (node.BasicBlock b)) d.rests
  same_live (node.Region x) = ap (λ (a : Model). is_live a (node.Region x)) d.rests

  same_loose : (p : OpPtr) → option_map loose_op (operation_at u p) ≡ option_map loose_op (operation_at m p)
  same_loose p = sym (at_all loose_op u.operations p.handle) ∙ ap (λ (a : Model). operation_at a p) d.rests ∙ at_all loose_op m.operations p.handle

  -- once it is unlinked, nothing more is taken out
  nothing : (K : BlockPtr → List OpPtr) → TakenOut (op_links u) op K K
  nothing K = record { linked = λ c e. absurd (none_some (sym moved.here ∙ e)); loose = λ e c. refl }

  -- and then it is erased, which gives t
  module _ (t : Model) (e : OpErased u op t) (alive : (op_links m).live op ≡ true) where
    gone : (x : IRNode) → Within (parent m) (node.Operation op) x → is_live t x ≡ false
    gone x w = e.ended.gone x (from_before w)

    stays : (x : IRNode) → (Within (parent m) (node.Operation op) x → ⊥) → is_live t x ≡ is_live m x
    stays x out = e.ended.stays x (λ w. out (to_before w)) ∙ same_live x

    lists_after : (l : Lists m) (less : (K : BlockPtr → List OpPtr) × TakenOut (op_links m) op l.ops K) → Holds (op_links t) less.0 × Holds (block_links t) l.blocks
    lists_after l less = e.lists (op_lists m u op alive d.rests none_out some_out l less.0 less.1) less.0 (nothing less.0)

    ops_stay : Lists m → (p : OpPtr) → (Within (parent m) (node.Operation op) (node.Operation p) → ⊥) → option_map loose_op (operation_at t p) ≡ option_map loose_op (operation_at m p)
    ops_stay l p out =
        let less = less_of block_same (op_links m) op l.ops l.ops_hold alive in
        let k = op_lists m u op alive d.rests none_out some_out l less.0 less.1 in
        outside_op (fewer_ended e.ended k) p (λ i. out (to_before ((e.ended.whole k).below (node.Operation p) i))) ∙ same_loose p

pub symbol_erases : (s t : Context) (l : Ledger) → Represents s l → (table op : OpPtr) → SymbolErased s table op t → Erases s (node.Operation op) t
symbol_erases s t l r table op d =
    let n = node.Operation op in
    let m = nodes s in
    let u = tabled d.erased.between in
    let un = d.erased.removed.unlinked in
    let e = d.erased.erased.erased in
    let v = op_links m in
    let alive : v.live op ≡ true = in_live v l.block r.blocks r.ops_hold (the.loose_op s l r) op un.container (the.block_has_op s l r op un.container un.from) in
    let ends = gone m u op un (nodes t) e alive in
    let rest = stays m u op un (nodes t) e alive in
    record {
      held = d.held;
      ends = ends;
      stays = rest;
      ops = ops_stay m u op un (nodes t) e alive (the.lists s l r);
      op_lists = λ L M h w.
          let less = less_of block_same v op L h alive in
          holds_same (op_links (nodes t)) less.0 M (lists_after m u op un (nodes t) e alive (record { ops = L; blocks = blocks_in l; ops_hold = h; blocks_hold = r.blocks_hold }) less).0
          (λ b k. taken_same block_same v node.Operation op (λ x z. op_inj x op z) L less.0 M h less.1 b (was_there s t n ends rest (node.BasicBlock b) k) (w b (is_out s t n ends rest (node.BasicBlock b) k)));
      block_lists = λ L M h w.
          let less = less_of block_same v op (ops_in l) r.ops_hold alive in
          holds_same (block_links (nodes t)) L M (lists_after m u op un (nodes t) e alive (record { ops = ops_in l; blocks = L; ops_hold = r.ops_hold; blocks_hold = h }) less).1
          (λ x k. sym (less_same node.BasicBlock n (λ b i z. block_no_op b op z) (w x (is_out s t n ends rest (node.Region x) k))));
    }
