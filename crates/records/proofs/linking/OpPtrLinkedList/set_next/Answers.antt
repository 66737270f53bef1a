use Rattle.std.proofs.Common.{List, sym, refl, ap, ◌∙◌, subst}
use mathlib.Core.Path.{fun_ext}
use Rattle.arena.specs.Recorded.{shelf}
use Rattle.arena.specs.Shelves.{Shelf}
use Rattle.arena.proofs.Shelving.{changed_as, shelf_with}
use Rattle.linked_list.specs.Links.{SetsNext}
use Rattle.records.specs.declared.handles.OpPtr.{OpPtr}
use Rattle.records.specs.declared.operation.Operation.{Operation}
use Rattle.records.specs.Models.{Model, tables}
use Rattle.records.specs.Views.{all_as, endless_block, loose_op, but_op_links, op_links, op_view}
use Rattle.records.specs.Writes.{left, same_opptr, set_here, set_other}
use Rattle.records.proofs.linking.OpPtrLinkedList.set_next.Goals as goal

pub returns : goal.returns
returns c =
    let table = shelf c.args.ctx.now.operations in
    let h = c.args.n.handle in
    let old : Operation = c.record_mut.result.now in
    let new : Operation = record { kind = old.kind; name = old.name; regions = old.regions; note = old.note; next = c.args.x; prev = old.prev; container = old.container } in
    let read = c.record_mut.ensures.value in
    let model : Shelf Operation → Model = λ s. record { operations = s; blocks = (tables c.args.ctx.now).blocks; regions = (tables c.args.ctx.now).regions } in
    let after = shelf_with c.args.ctx.now.operations h new in
    record {
      sets = subst (λ (s : Shelf Operation). SetsNext (op_view c.args.ctx.now) (op_links (model s)) c.args.n c.args.x) (sym after) (record {
        change = record {
          here = set_here table h old new read (λ (o : Operation). o.next);
          other = λ m ne. set_other table h old new read (λ (o : Operation). o.next) m.handle (λ e. ne (same_opptr m c.args.n e));
        };
        live = refl;
        held = refl;
        prev = fun_ext (λ (m : OpPtr). left table h old new read (λ (o : Operation). o.prev) refl m.handle);
        within = fun_ext (λ (m : OpPtr). left table h old new read (λ (o : Operation). o.container) refl m.handle);
        head = refl;
        tail = refl;
      });
      rest = ap (λ (s : Shelf Operation). but_op_links (model s)) after ∙ ap (λ (xs : List Operation). let m : Model = record { operations = record { pool = table.pool; records = xs }; blocks = all_as endless_block (tables c.args.ctx.now).blocks; regions = (tables c.args.ctx.now).regions } in m) (changed_as loose_op table h old new read refl);
    }
