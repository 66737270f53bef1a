use Rattle.std.proofs.Common.{ℕ, Option, sym, ap, ◌∙◌}
use Rattle.std.specs.Option.{ok_or}
use Rattle.result.specs.declared.refusal.Refusal.TheVariants.{NotASymbol}
use Rattle.symbol_table.specs.Carried.{nodes}
use Rattle.symbol_table.proofs.Carrying.{named_of}
use Rattle.symbol_table.proofs.Findings.{wants}
use Rattle.symbol_table.proofs.symbol_tables.SymbolTables.wanted.Goals as goal

pub returns : goal.returns
returns c =
    let s = c.args.self.now in
    wants (nodes s) (named_of (nodes s) s.named) c.args.table c.args.op (sym c.if-not-is_live.ensures) (sym c.if-not-is_live-2.ensures) (sym c.if-not-is_table.ensures) c.ok_or.result
    (c.ok_or.ensures.value ∙ ap (λ (x : Option ℕ). ok_or x NotASymbol) c.name_number.ensures)
