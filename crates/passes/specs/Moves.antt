-- Moving a symbol from one table to another.
use Rattle.std.specs.Prelude.{Ok, Err, None, Result}
use Rattle.records.specs.declared.handles.OpPtr.{OpPtr}
use Rattle.ir.specs.declared.context.Context.{Context}
use Rattle.ir.specs.Tables.{InsertSymbolCall, RemoveSymbolCall}
use Rattle.passes.specs.declared.moving.NotMoved.{NotMoved}
use Rattle.passes.specs.declared.moving.NotMoved.TheVariants.{Loose, Stays}

-- The symbol is taken out of the one table, and then the other takes it or refuses it. Where the one does not give it, nothing changes;
-- where the other refuses it, it was taken out and that is all.
abbrev pub Moved : Context → OpPtr → OpPtr → OpPtr → Result (Unit {0}) NotMoved → Context → Type 0
Moved s op from to (Ok done) t = (u : Context) × RemoveSymbolCall s from op (Ok tt) u × InsertSymbolCall u to op None (Ok tt) t
Moved s op from to (Err (Stays e)) t = RemoveSymbolCall s from op (Err e) t
Moved s op from to (Err (Loose e)) t = (u : Context) × RemoveSymbolCall s from op (Ok tt) u × InsertSymbolCall u to op None (Err e) t
