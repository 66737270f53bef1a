use Rattle.std.proofs.Common.{refl}
use Rattle.symbol_table.specs.Carried.{nodes}
use Rattle.symbol_table.proofs.Equating.{handed_on}
use Rattle.symbol_table.proofs.Inserted.{inserted, put_whole}
use Rattle.symbol_table.proofs.Putting.{refused}
use Rattle.symbol_table.proofs.Stores.{same_tables}
use Rattle.symbol_table.proofs.symbol_tables.SymbolTables.insert.Goals as goal

pub returns-in_err-admitted : goal.returns-in_err-admitted
returns-in_err-admitted c = rw (handed_on c.from_residual.result c.in_err-admitted.field-0.0 c.from_residual.ensures.1) (c.in_err-admitted.ensures, refl)

pub returns-in_err-place_op : goal.returns-in_err-place_op
returns-in_err-place_op c =
    let s = c.args.self.now in
    let a = c.in_ok-admitted in
    rw (handed_on c.from_residual-in_err-place_op.result c.in_err-place_op.field-0.0 c.from_residual-in_err-place_op.ensures.1) (
      refused (nodes s) s.forest.oplists s.bodied c.args.table c.args.op c.args.point a.admitted a.ensures _ c.in_err-place_op.ensures.0,
      same_tables s _ c.in_err-place_op.ensures.1 refl,
    )

pub invariant_of-self-2 : goal.invariant_of-self-2
invariant_of-self-2 c =
    let a = c.in_ok-admitted in
    let e = c.in_ok-place_op.ensures in
    let w = put_whole c.args.self.now c.args.table c.args.op c.args.point a.admitted a.ensures c.place_op.new.self e.0 e.1 c.put.result c.put.new.self c.put.ensures in
    record { bodied = w.bodied; named = w.named; follows = w.follows }

pub returns : goal.returns
returns c =
    let a = c.in_ok-admitted in
    let e = c.in_ok-place_op.ensures in
    inserted c.args.self.now c.args.table c.args.op c.args.point a.admitted a.ensures c.place_op.new.self e.0 e.1 c.put.result c.put.new.self c.put.ensures _ refl refl
