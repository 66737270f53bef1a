use Rattle.std.proofs.Common.{◌≡◌, None, sym, ap, subst, ◌∙◌}
use Rattle.std.specs.Option.{option_map}
use Rattle.linked_list.specs.Links.{Sound}
use Rattle.records.specs.declared.ir_node.IRNode.TheVariants as node
use Rattle.records.specs.Models.{tables}
use Rattle.records.specs.Views.{block_links, block_view}
use Rattle.records.proofs.Rests.{block_edit_core, block_edit_links}
use Rattle.erasers.proofs.Turns.{lists_of}
use Rattle.forest.proofs.Frames.{block_edit_other, block_edit_owned, unlinked_acyclic}
use Rattle.forest.proofs.Listed.{clash}
use Rattle.forest.proofs.Subtrees.{Unlinked, ended_by, erasable_block, erased_acyclic, erased_blocks, erased_ops, erased_owned, block_before, block_lists, block_moved}
use Rattle.forest.proofs.forest.Forest.erase_block.Goals as goal

-- the block was unlinked
unlinked : (c : goal.After-erase_block-arg-1) → Unlinked (tables c.args.self.now.records) (tables c.unlink.new.ctx) (node.BasicBlock c.args.block)
unlinked c =
    let m = tables c.args.self.now.records in
    let u = tables c.unlink.new.ctx in
    let rest = c.unlink.ensures.rest in
    let moves = block_moved m u c.args.block (λ e. ap block_view (c.unlink.ensures.unlinked e)) c.unlink.ensures.removes in
    record {
      core = block_edit_core m u rest;
      other = block_edit_other m u rest c.args.block None moves;
      gone = ap (option_map node.Region) moves.here;
      lists = lists_of u (subst Sound (sym (block_edit_links m u rest)) c.args.self.now.oplists) c.unlink.ensures.sound;
      own = block_edit_owned m u rest c.args.self.now.owned;
      loose = moves.here;
    }

pub erase_block-requires-clause-oplists : goal.erase_block-requires-clause-oplists
erase_block-requires-clause-oplists c = subst Sound (sym (block_edit_links (tables c.args.self.now.records) (tables c.unlink.new.ctx) c.unlink.ensures.rest)) c.args.self.now.oplists

pub erase_block-requires-clause-ready : goal.erase_block-requires-clause-ready
erase_block-requires-clause-ready c = let w = unlinked c in erasable_block (tables c.unlink.new.ctx) c.args.block w.own w.loose

pub invariant_of-self : goal.invariant_of-self
invariant_of-self c =
    let m = tables c.args.self.now.records in
    let u = tables c.unlink.new.ctx in
    let t = tables c.erase_block.new.records in
    let w = unlinked c.before in
    let e = c.erase_block.ensures.erased in record {
      oplists = erased_ops u t (node.BasicBlock c.args.block) w.lists w.own w.loose tt e;
      blocklists = erased_blocks u t (node.BasicBlock c.args.block) w.lists w.own w.loose tt e;
      owned = erased_owned u t (node.BasicBlock c.args.block) w.lists w.own w.loose tt e;
      acyclic = erased_acyclic u t (node.BasicBlock c.args.block) w.lists w.own w.loose tt e (unlinked_acyclic m u (node.BasicBlock c.args.block) w.other w.gone c.args.self.now.acyclic);
    }

pub returns : goal.returns
returns c =
    let m = tables c.args.self.now.records in
    let u = tables c.unlink.new.ctx in
    let w = unlinked c.before.before in
    let e = c.erase_block.ensures.erased in
    let same : (block_links m).within c.args.block ≡ None → block_links u ≡ block_links m = λ x. ap block_view (c.unlink.ensures.unlinked x) in (
      ((λ d. clash (c.if-not-is_live.ensures ∙ d)), ((λ b. clash (sym b ∙ sym c.if-is_body.ensures)), tt)),
      record {
        ended = ended_by m u (tables c.erase_block.new.records) (node.BasicBlock c.args.block) w tt c.args.self.now.acyclic e (block_before m u c.args.block (sym c.if-not-is_live.ensures) c.unlink.ensures.rest same c.unlink.ensures.removes);
        lists = λ l blocks less. e.lists (block_lists m u c.args.block (sym c.if-not-is_live.ensures) c.unlink.ensures.rest same c.unlink.ensures.removes l blocks less);
      },
    )
