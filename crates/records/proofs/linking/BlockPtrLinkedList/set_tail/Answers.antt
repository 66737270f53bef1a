use Rattle.std.proofs.Common.{List, sym, refl, ap, ◌∙◌, subst}
use mathlib.Core.Path.{fun_ext}
use Rattle.arena.specs.Recorded.{shelf}
use Rattle.arena.specs.Shelves.{Shelf}
use Rattle.arena.proofs.Shelving.{changed_as, shelf_with}
use Rattle.linked_list.specs.Links.{SetsTail}
use Rattle.records.specs.declared.handles.RegionPtr.{RegionPtr}
use Rattle.records.specs.declared.region.Region.{Region}
use Rattle.records.specs.Models.{Model, tables}
use Rattle.records.specs.Views.{all_as, endless_region, loose_block, but_block_links, block_links, block_view}
use Rattle.records.specs.Writes.{left, same_regionptr, set_here, set_other}
use Rattle.records.proofs.linking.BlockPtrLinkedList.set_tail.Goals as goal

pub returns : goal.returns
returns c =
    let table = shelf c.args.ctx.now.regions in
    let h = c.args.c.handle in
    let old : Region = c.record_mut.result.now in
    let new : Region = record { parent_op = old.parent_op; index = old.index; head = old.head; tail = c.args.x } in
    let read = c.record_mut.ensures.value in
    let model : Shelf Region → Model = λ s. record { operations = (tables c.args.ctx.now).operations; blocks = (tables c.args.ctx.now).blocks; regions = s } in
    let after = shelf_with c.args.ctx.now.regions h new in
    record {
      sets = subst (λ (s : Shelf Region). SetsTail (block_view c.args.ctx.now) (block_links (model s)) c.args.c c.args.x) (sym after) (record {
        change = record {
          here = set_here table h old new read (λ (o : Region). o.tail);
          other = λ m ne. set_other table h old new read (λ (o : Region). o.tail) m.handle (λ e. ne (same_regionptr m c.args.c e));
        };
        live = refl;
        held = refl;
        next = refl;
        prev = refl;
        within = refl;
        head = fun_ext (λ (m : RegionPtr). left table h old new read (λ (o : Region). o.head) refl m.handle);
      });
      rest = ap (λ (s : Shelf Region). but_block_links (model s)) after ∙ ap (λ (xs : List Region). let m : Model = record { operations = (tables c.args.ctx.now).operations; blocks = all_as loose_block (tables c.args.ctx.now).blocks; regions = record { pool = table.pool; records = xs } } in m) (changed_as endless_region table h old new read refl);
    }
