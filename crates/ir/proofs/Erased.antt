-- Erasing leaves every name held: what is live afterwards has the name that it had. Assumes nothing.
use Rattle.std.proofs.Common.{◌≡◌, ℕ, Ok, Err, List, Result, sym, refl, ap, ◌∙◌, subst}
use mathlib.Core.Logic.{∥∥₁_elim}
use native.Mathlib.Bridge.{le_prop}
use Rattle.std.specs.Option.{option_map}
use Rattle.linked_list.specs.Links.{Holds}
use Rattle.records.specs.declared.handles.BlockPtr.{BlockPtr}
use Rattle.records.specs.declared.handles.OpPtr.{OpPtr}
use Rattle.records.specs.declared.handles.RegionPtr.{RegionPtr}
use Rattle.records.specs.declared.ir_node.IRNode.{IRNode}
use Rattle.records.specs.declared.ir_node.IRNode.TheVariants as node
use Rattle.records.specs.declared.operation.Operation.{Operation}
use Rattle.records.specs.Children.{Lists}
use Rattle.records.specs.Models.{Model, operation_at}
use Rattle.records.specs.Views.{block_links, loose_op, op_links}
use Rattle.records.proofs.Rests.{mapped_all, was}
use Rattle.result.specs.declared.refusal.Refusal.{Refusal}
use Rattle.erasers.proofs.Ends.{live_outside, outside_op}
use Rattle.forest.specs.Erasings.{Ended}
use Rattle.forest.proofs.Owning.{named_live}
use Rattle.forest.proofs.Subtrees.{fewer_ended}
use Rattle.symbol_table.specs.declared.symbol_tables.SymbolTables.{SymbolTables}
use Rattle.symbol_table.specs.Carried.{nodes as tabled}
use Rattle.symbol_table.specs.Erasing.{Erases, ErasesBlockIn, ErasesOpIn}
use Rattle.ir.specs.Numbers.{NumbersHeld}
use Rattle.ir.proofs.Numbering.{op_edit_held}

-- what is live where a node ended has the name that it had
ended_held : (m t : Model) (x : IRNode) (n : ℕ) → Ended m x t → Lists m → NumbersHeld m n → NumbersHeld t n
ended_held m t x n e l h = record {
  number = λ op o i z q.
      let fewer = fewer_ended e l in
      let same = outside_op fewer op (live_outside fewer (node.Operation op) (named_live t.operations op.handle o z)) in
      let names = sym (mapped_all loose_op (λ (y : Operation). y.name) (λ y. refl) (operation_at t op)) ∙ ap (option_map (λ (y : Operation). y.name)) same ∙ mapped_all loose_op (λ (y : Operation). y.name) (λ y. refl) (operation_at m op) in
      let w = was (λ (y : Operation). y.name) (operation_at m op) (operation_at t op) o names z in
      h.number op w.it i w.is (w.alike ∙ q);
}

module _ (f t : SymbolTables) (n : ℕ) (held : NumbersHeld (tabled f) n) where
  ended : (x : IRNode) → Ended (tabled f) x (tabled t) → NumbersHeld (tabled t) n
  ended x e = record {
    number = λ op o i z q.
        ∥∥₁_elim f.forest.oplists le_prop (λ (a : (L : BlockPtr → List OpPtr) × Holds (op_links (tabled f)) L).
        ∥∥₁_elim f.forest.blocklists le_prop (λ (b : (L : RegionPtr → List BlockPtr) × Holds (block_links (tabled f)) L).
        (ended_held (tabled f) (tabled t) x n e (record { ops = a.0; blocks = b.0; ops_hold = a.1; blocks_hold = b.1 }) held).number op o i z q));
  }

  stays : t ≡ f → NumbersHeld (tabled t) n
  stays same = subst (λ (g : SymbolTables). NumbersHeld (tabled g) n) (sym same) held

  pub op_erased_held : (op : OpPtr) (r : Result (Unit {0}) Refusal) → ErasesOpIn f op r t → NumbersHeld (tabled t) n
  op_erased_held op (Ok x) a = ended (node.Operation op) a.1.erased.ended
  op_erased_held op (Err e) a = stays a.1

  pub block_erased_held : (block : BlockPtr) (r : Result (Unit {0}) Refusal) → ErasesBlockIn f block r t → NumbersHeld (tabled t) n
  block_erased_held block (Ok x) a = ended (node.BasicBlock block) a.1.erased.ended
  block_erased_held block (Err e) a = stays a.1

-- erasing a symbol out of a table does, too
pub symbol_erased_held : (f t : SymbolTables) (n : ℕ) → NumbersHeld (tabled f) n → (table op : OpPtr) (r : Result (Unit {0}) Refusal) → Erases f table op r t → NumbersHeld (tabled t) n
symbol_erased_held f t n held table op (Ok x) a =
    let b = a.1.between in
    ended b t n (op_edit_held (tabled f) (tabled b) n a.1.removed.unlinked.rests held) (node.Operation op) a.1.erased.erased.ended
symbol_erased_held f t n held table op (Err e) a = stays f t n held a.1
