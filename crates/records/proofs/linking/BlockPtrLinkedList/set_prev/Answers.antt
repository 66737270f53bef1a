use Rattle.std.proofs.Common.{List, sym, refl, ap, ◌∙◌, subst}
use mathlib.Core.Path.{fun_ext}
use Rattle.arena.specs.Recorded.{shelf}
use Rattle.arena.specs.Shelves.{Shelf}
use Rattle.arena.proofs.Shelving.{changed_as, shelf_with}
use Rattle.linked_list.specs.Links.{SetsPrev}
use Rattle.records.specs.declared.handles.BlockPtr.{BlockPtr}
use Rattle.records.specs.declared.basic_block.BasicBlock.{BasicBlock}
use Rattle.records.specs.Models.{Model, tables}
use Rattle.records.specs.Views.{all_as, endless_region, loose_block, but_block_links, block_links, block_view}
use Rattle.records.specs.Writes.{left, same_blockptr, set_here, set_other}
use Rattle.records.proofs.linking.BlockPtrLinkedList.set_prev.Goals as goal

pub returns : goal.returns
returns c =
    let table = shelf c.args.ctx.now.blocks in
    let h = c.args.n.handle in
    let old : BasicBlock = c.record_mut.result.now in
    let new : BasicBlock = record { head = old.head; tail = old.tail; next = old.next; prev = c.args.x; container = old.container } in
    let read = c.record_mut.ensures.value in
    let model : Shelf BasicBlock → Model = λ s. record { operations = (tables c.args.ctx.now).operations; blocks = s; regions = (tables c.args.ctx.now).regions } in
    let after = shelf_with c.args.ctx.now.blocks h new in
    record {
      sets = subst (λ (s : Shelf BasicBlock). SetsPrev (block_view c.args.ctx.now) (block_links (model s)) c.args.n c.args.x) (sym after) (record {
        change = record {
          here = set_here table h old new read (λ (o : BasicBlock). o.prev);
          other = λ m ne. set_other table h old new read (λ (o : BasicBlock). o.prev) m.handle (λ e. ne (same_blockptr m c.args.n e));
        };
        live = refl;
        held = refl;
        next = fun_ext (λ (m : BlockPtr). left table h old new read (λ (o : BasicBlock). o.next) refl m.handle);
        within = fun_ext (λ (m : BlockPtr). left table h old new read (λ (o : BasicBlock). o.container) refl m.handle);
        head = refl;
        tail = refl;
      });
      rest = ap (λ (s : Shelf BasicBlock). but_block_links (model s)) after ∙ ap (λ (xs : List BasicBlock). let m : Model = record { operations = (tables c.args.ctx.now).operations; blocks = record { pool = table.pool; records = xs }; regions = all_as endless_region (tables c.args.ctx.now).regions } in m) (changed_as loose_block table h old new read refl);
    }
