use Rattle.std.proofs.Common.{◌≡◌, None, sym, ap, subst, ◌∙◌}
use Rattle.std.specs.Option.{option_map}
use Rattle.linked_list.specs.Links.{Sound}
use Rattle.records.specs.declared.ir_node.IRNode.TheVariants as node
use Rattle.records.specs.Models.{tables}
use Rattle.records.specs.Views.{op_links, op_view}
use Rattle.records.proofs.Rests.{op_edit_core, op_edit_links}
use Rattle.erasers.proofs.Turns.{lists_of}
use Rattle.forest.proofs.Frames.{op_edit_other, op_edit_owned, unlinked_acyclic}
use Rattle.forest.proofs.Listed.{clash}
use Rattle.forest.proofs.Subtrees.{Unlinked, ended_by, erasable_op, erased_acyclic, erased_blocks, erased_ops, erased_owned, op_before, op_lists, op_moved}
use Rattle.forest.proofs.forest.Forest.erase_op.Goals as goal

-- the operation was unlinked
unlinked : (c : goal.After-erase_op-arg-1) → Unlinked (tables c.args.self.now.records) (tables c.unlink.new.ctx) (node.Operation c.args.op)
unlinked c =
    let m = tables c.args.self.now.records in
    let u = tables c.unlink.new.ctx in
    let rest = c.unlink.ensures.rest in
    let moves = op_moved m u c.args.op (λ e. ap op_view (c.unlink.ensures.unlinked e)) c.unlink.ensures.removes in
    record {
      core = op_edit_core m u rest;
      other = op_edit_other m u rest c.args.op None moves;
      gone = ap (option_map node.BasicBlock) moves.here;
      lists = lists_of u c.unlink.ensures.sound (subst Sound (sym (op_edit_links m u rest)) c.args.self.now.blocklists);
      own = op_edit_owned m u rest c.args.self.now.owned;
      loose = moves.here;
    }

pub erase_op-requires-clause-blocklists : goal.erase_op-requires-clause-blocklists
erase_op-requires-clause-blocklists c = subst Sound (sym (op_edit_links (tables c.args.self.now.records) (tables c.unlink.new.ctx) c.unlink.ensures.rest)) c.args.self.now.blocklists

pub erase_op-requires-clause-ready : goal.erase_op-requires-clause-ready
erase_op-requires-clause-ready c = let w = unlinked c in erasable_op (tables c.unlink.new.ctx) c.args.op w.own w.loose

pub invariant_of-self : goal.invariant_of-self
invariant_of-self c =
    let m = tables c.args.self.now.records in
    let u = tables c.unlink.new.ctx in
    let t = tables c.erase_op.new.records in
    let w = unlinked c.before in
    let e = c.erase_op.ensures.erased in record {
      oplists = erased_ops u t (node.Operation c.args.op) w.lists w.own w.loose (λ z. z) e;
      blocklists = erased_blocks u t (node.Operation c.args.op) w.lists w.own w.loose (λ z. z) e;
      owned = erased_owned u t (node.Operation c.args.op) w.lists w.own w.loose (λ z. z) e;
      acyclic = erased_acyclic u t (node.Operation c.args.op) w.lists w.own w.loose (λ z. z) e (unlinked_acyclic m u (node.Operation c.args.op) w.other w.gone c.args.self.now.acyclic);
    }

pub returns : goal.returns
returns c =
    let m = tables c.args.self.now.records in
    let u = tables c.unlink.new.ctx in
    let w = unlinked c.before.before in
    let e = c.erase_op.ensures.erased in
    let same : (op_links m).within c.args.op ≡ None → op_links u ≡ op_links m = λ x. ap op_view (c.unlink.ensures.unlinked x) in (
      ((λ d. clash (c.if-not-is_live.ensures ∙ d)), ((λ b. clash (sym b ∙ sym c.if-is_bound.ensures)), tt)),
      record {
        ended = ended_by m u (tables c.erase_op.new.records) (node.Operation c.args.op) w (λ z. z) c.args.self.now.acyclic e (op_before m u c.args.op (sym c.if-not-is_live.ensures) c.unlink.ensures.rest same c.unlink.ensures.removes);
        lists = λ l ops less. e.lists (op_lists m u c.args.op (sym c.if-not-is_live.ensures) c.unlink.ensures.rest same c.unlink.ensures.removes l ops less);
      },
    )
