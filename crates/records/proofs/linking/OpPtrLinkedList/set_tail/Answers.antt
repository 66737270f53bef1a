use Rattle.std.proofs.Common.{List, sym, refl, ap, ◌∙◌, subst}
use mathlib.Core.Path.{fun_ext}
use Rattle.arena.specs.Recorded.{shelf}
use Rattle.arena.specs.Shelves.{Shelf}
use Rattle.arena.proofs.Shelving.{changed_as, shelf_with}
use Rattle.linked_list.specs.Links.{SetsTail}
use Rattle.records.specs.declared.handles.BlockPtr.{BlockPtr}
use Rattle.records.specs.declared.basic_block.BasicBlock.{BasicBlock}
use Rattle.records.specs.Models.{Model, tables}
use Rattle.records.specs.Views.{all_as, endless_block, loose_op, but_op_links, op_links, op_view}
use Rattle.records.specs.Writes.{left, same_blockptr, set_here, set_other}
use Rattle.records.proofs.linking.OpPtrLinkedList.set_tail.Goals as goal

pub returns : goal.returns
returns c =
    let table = shelf c.args.ctx.now.blocks in
    let h = c.args.c.handle in
    let old : BasicBlock = c.record_mut.result.now in
    let new : BasicBlock = record { head = old.head; tail = c.args.x; next = old.next; prev = old.prev; container = old.container } in
    let read = c.record_mut.ensures.value in
    let model : Shelf BasicBlock → Model = λ s. record { operations = (tables c.args.ctx.now).operations; blocks = s; regions = (tables c.args.ctx.now).regions } in
    let after = shelf_with c.args.ctx.now.blocks h new in
    record {
      sets = subst (λ (s : Shelf BasicBlock). SetsTail (op_view c.args.ctx.now) (op_links (model s)) c.args.c c.args.x) (sym after) (record {
        change = record {
          here = set_here table h old new read (λ (o : BasicBlock). o.tail);
          other = λ m ne. set_other table h old new read (λ (o : BasicBlock). o.tail) m.handle (λ e. ne (same_blockptr m c.args.c e));
        };
        live = refl;
        held = refl;
        next = refl;
        prev = refl;
        within = refl;
        head = fun_ext (λ (m : BlockPtr). left table h old new read (λ (o : BasicBlock). o.head) refl m.handle);
      });
      rest = ap (λ (s : Shelf BasicBlock). but_op_links (model s)) after ∙ ap (λ (xs : List BasicBlock). let m : Model = record { operations = all_as loose_op (tables c.args.ctx.now).operations; blocks = record { pool = table.pool; records = xs }; regions = (tables c.args.ctx.now).regions } in m) (changed_as endless_block table h old new read refl);
    }
