use Rattle.std.proofs.Common.{rules, ◌≡◌, Some, sym, refl, ◌∙◌}
use Rattle.symbol_table.specs.Bodies.{parent_op}
use Rattle.symbol_table.specs.Carried.{nodes}
use Rattle.symbol_table.proofs.Inserted.{removed, taken_whole}
use Rattle.symbol_table.proofs.symbol_tables.SymbolTables.remove.Goals as goal
use Rattle.symbol_table.proofs.symbol_tables.SymbolTables.remove.Goals.{Else-ne}

stood : (c : Else-ne) → parent_op (nodes c.args.self.now) c.args.op ≡ Some c.args.table
stood c = sym c.parent_op.ensures ∙ (search rules)

pub invariant_of-self-2 : goal.invariant_of-self-2
invariant_of-self-2 c =
    let s = c.args.self.now in
    let w = taken_whole s c.args.table c.args.op c.in_ok-number.number c.in_ok-number.ensures (stood (goal.at.invariant_of-self-2 c).Else-ne) c.take_op.new.self c.in_ok-take_op.ensures.1 c.take.new.self c.take.ensures.changed in
    record { bodied = w.bodied; named = w.named; follows = w.follows }

pub returns : goal.returns
returns c =
    let s = c.args.self.now in
    removed s c.args.table c.args.op c.in_ok-number.number c.in_ok-number.ensures (stood (goal.at.returns c).Else-ne) c.take_op.new.self c.in_ok-take_op.ensures.1 c.take.new.self c.take.ensures.changed _ refl refl
