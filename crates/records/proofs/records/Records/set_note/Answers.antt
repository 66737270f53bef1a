use Rattle.std.proofs.Common.{Some, sym, refl, ap, subst}
use Rattle.arena.specs.Recorded.{shelf}
use Rattle.arena.specs.Shelves.{Only, Shelf, at, changed}
use Rattle.arena.proofs.Shelving.{changed_only, shelf_with}
use Rattle.records.specs.declared.operation.Operation.{Operation}
use Rattle.records.specs.Notes.{noted}
use Rattle.records.proofs.records.Records.set_note.Goals as goal

pub returns : goal.returns
returns c =
    let table = shelf c.args.self.now.operations in
    let h = c.args.op.handle in
    let old : Operation = c.record_mut.result.now in
    let new : Operation = c.set_note.new.self in
    let after = shelf_with c.args.self.now.operations h new in
    record {
      old = old;
      was = c.record_mut.ensures.value;
      places = ap (λ (s : Shelf Operation). s.pool) after;
      only = subst (λ (s : Shelf Operation). Only (at table) (at s) h (Some (noted c.args.note old))) (sym after)
          (subst (λ (o : Operation). Only (at table) (at (changed h new table)) h (Some o)) c.set_note.ensures (changed_only table h old new c.record_mut.ensures.value));
      blocks = refl;
      regions = refl;
    }
