use Rattle.std.proofs.Common.{◌<◌, Some, Option, sym, refl, ◌∙◌, subst}
use Rattle.records.specs.declared.handles.OpPtr.{OpPtr}
use Rattle.forest.proofs.Above.{to_climb}
use Rattle.forest.proofs.Listed.{clash}
use Rattle.symbol_table.specs.Carried.{nodes}
use Rattle.symbol_table.specs.Lookups.{itself}
use Rattle.symbol_table.proofs.Findings.{Nearest?, climbs_up, nearest_up, op_node}
use Rattle.symbol_table.proofs.symbol_tables.SymbolTables.nearest_symbol_table.Goals as goal

pub climb-smaller : goal.climb-smaller
climb-smaller c =
    let s = c.args.self.now in
    let m = nodes s in
    let a = s.forest.acyclic in
    subst (λ (x : Option OpPtr). to_climb m a (op_node c.parent_op-at.result) < to_climb m a (op_node x)) (sym c.in-Some.is)
    (subst (λ (x : Option OpPtr). to_climb m a (op_node x) < to_climb m a (op_node (Some c.in-Some.here))) (sym c.parent_op-at.ensures)
    (climbs_up m a c.in-Some.here))

pub climb-preserved : goal.climb-preserved
climb-preserved c = λ x near.
    let m = nodes c.args.self.now in
    c.climb.invariant x (subst (λ (o : Option OpPtr). Nearest? m o x) (sym c.in-Some.is)
    (nearest_up m c.in-Some.here x c.parent_op-at.result (sym c.is_table.ensures ∙ c.if-is_table.false) (sym c.parent_op-at.ensures) near))

pub returns-then-is_table : goal.returns-then-is_table
returns-then-is_table c =
    let m = nodes c.args.self.now in (
      ((λ d. clash (c.if-not-is_live.ensures ∙ d)), tt),
      c.climb.invariant (Some c.in-Some.here) (subst (λ (o : Option OpPtr). Nearest? m o (Some c.in-Some.here)) (sym c.in-Some.is)
          (itself (sym c.is_table.ensures ∙ c.if-is_table.true) refl)),
    )
