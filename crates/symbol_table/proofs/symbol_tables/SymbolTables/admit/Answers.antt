use Rattle.std.proofs.Common.{sym, ◌∙◌}
use Rattle.symbol_table.specs.Carried.{nodes}
use Rattle.symbol_table.proofs.Findings.{not_redefined}
use Rattle.symbol_table.proofs.symbol_tables.SymbolTables.admit.Goals as goal

pub returns : goal.returns
returns c =
    let m = nodes c.args.self.now in
    let w = c.in_ok-number.ensures in record {
      wanted = w;
      there = sym c.if-not-is_point_live.ensures;
      new = not_redefined m c.args.table c.args.op c.in_ok-number.number c.lookup.result c.lookup.ensures.stands (sym c.is_some.ensures ∙ c.if-is_some.false) w.named;
      only = c.if-has_other_parent.ensures;
      found = c.in_ok-spot.ensures;
    }
