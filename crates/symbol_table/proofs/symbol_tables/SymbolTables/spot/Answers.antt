use Rattle.std.proofs.Common.{None, Option, sym, ◌∙◌, subst}
use Rattle.std.specs.Prelude.{IsSome}
use Rattle.linked_list.specs.declared.spot.Spot.{Spot}
use Rattle.records.specs.declared.handles.BlockPtr.{BlockPtr}
use Rattle.records.specs.declared.handles.OpPtr.{OpPtr}
use Rattle.symbol_table.specs.declared.op_insertion_point.OpInsertionPoint.{OpInsertionPoint}
use Rattle.symbol_table.specs.Carried.{nodes}
use Rattle.symbol_table.specs.Steps.{Found}
use Rattle.symbol_table.proofs.Spots.{end_found, has_body}
use Rattle.symbol_table.proofs.symbol_tables.SymbolTables.spot.Goals as goal

pub returns-in_default : goal.returns-in_default
returns-in_default c =
    let s = c.args.self.now in
    let m = nodes s in
    subst (λ (p : Option OpInsertionPoint). Found m c.args.table p c.end_spot.result) (sym c.in_default.is)
    (subst (λ (x : Spot OpPtr BlockPtr). Found m c.args.table None x) (sym c.end_spot.ensures)
    (end_found m s.forest.oplists c.unwrap.result c.args.table (sym c.body.ensures ∙ c.unwrap.ensures)))

pub unwrap-requires : goal.unwrap-requires
unwrap-requires c = let s = c.args.self.now in subst (λ (x : Option BlockPtr). IsSome x) (sym c.body.ensures) (has_body (nodes s) s.bodied c.args.table c.requires)
