use Rattle.std.proofs.Common.{◌≡◌, is_some, sym, refl, ap, ◌∙◌}
use Rattle.records.specs.declared.kind.Kind.{Kind}
use Rattle.records.specs.Shapes.{BadName}
use Rattle.result.specs.declared.refusal.Refusal.TheVariants.{BadShape}
use Rattle.forest.specs.Calls.{OperationMade, operation_rows}
use Rattle.mappings.specs.Held.{mapped}
use Rattle.symbol_table.specs.Carried.{nodes}
use Rattle.symbol_table.proofs.Carrying.{made_operation}
use Rattle.symbol_table.proofs.Equating.{equal_bools}
use Rattle.symbol_table.proofs.Stores.{carried_below, whole}
use Rattle.symbol_table.proofs.symbol_tables.SymbolTables.make_operation.Goals as goal
use Rattle.symbol_table.proofs.symbol_tables.SymbolTables.make_operation.Goals.{Else-kind-is_some}

-- a name is given exactly for a symbol
fits : (c : Else-kind-is_some) → c.args.shape.kind.symbol ≡ is_some c.args.name
fits c = sym (ap (λ (k : Kind). k.symbol) c.kind.ensures) ∙ equal_bools _ _ c.if-kind-is_some.false ∙ c.is_some.ensures

pub invariant_of-self : goal.invariant_of-self
invariant_of-self c =
    let s = c.args.self.now in
    let w = made_operation s.forest c.make_operation.new.self (mapped s.mappings) (whole s) c.args.shape c.args.name (fits (goal.at.invariant_of-self c).Else-kind-is_some) c.make_operation.result c.make_operation.ensures in
    record { bodied = w.bodied; named = w.named; follows = w.follows }

pub returns : goal.returns
returns c =
    let s = c.args.self.now in
    carried_below (BadShape, BadName c.args.shape.kind (is_some c.args.name)) (operation_rows (nodes s) c.args.shape) (OperationMade s.forest c.args.shape c.args.name) s _ refl
    (λ bad. bad (fits (goal.at.returns c).Else-kind-is_some)) c.make_operation.result c.make_operation.ensures
