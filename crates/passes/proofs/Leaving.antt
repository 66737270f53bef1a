-- How a move ended whose symbol was taken out of its table. Assumes nothing.
use Rattle.std.proofs.Common.{◌≡◌, sym, subst, None, Ok, Err, Result, MatchResult, IsErrAnd, true, is_ok}
use Rattle.result.specs.declared.refusal.Refusal.{Refusal}
use Rattle.records.specs.declared.handles.OpPtr.{OpPtr}
use Rattle.ir.specs.declared.context.Context.{Context}
use Rattle.ir.specs.Tables.{InsertSymbolCall, RemoveSymbolCall}
use Rattle.passes.specs.declared.moving.NotMoved.{NotMoved}
use Rattle.passes.specs.declared.moving.NotMoved.TheVariants.{Loose}
use Rattle.passes.specs.Moves.{Moved}

ok_or_err : {A E : Type 0} {x : A} {e : E} → ◌≡◌ {A = Result A E} (Err e) (Ok x) → ⊥
ok_or_err p = cc

-- a removal that was not refused
pub comes_out : (s u : Context) (op from : OpPtr) (q : Result (Unit {0}) Refusal) → true ≡ is_ok q → RemoveSymbolCall s from op q u → RemoveSymbolCall s from op (Ok tt) u
comes_out s u op from (Ok x) o h = h
comes_out s u op from (Err e) o h = cc

-- and then an insertion, and what is told of it
pub goes_in : (s u t : Context) (op from to : OpPtr) (q : Result (Unit {0}) Refusal) (r : Result (Unit {0}) NotMoved)
    → RemoveSymbolCall s from op (Ok tt) u → InsertSymbolCall u to op None q t
    → MatchResult q (λ x. r ≡ Ok x) (λ e. IsErrAnd r (λ why. why ≡ Loose e)) → Moved s op from to r t
goes_in s u t op from to (Ok x) (Ok done) h i c = (u, h, i)
goes_in s u t op from to (Ok x) (Err why) h i c = absurd (ok_or_err c)
goes_in s u t op from to (Err e) (Ok done) h i c = absurd c
goes_in s u t op from to (Err e) (Err why) h i c = subst (λ w. Moved s op from to (Err w) t) (sym c) (u, h, i)
