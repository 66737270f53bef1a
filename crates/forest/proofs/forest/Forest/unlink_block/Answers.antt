use Rattle.std.proofs.Common.{sym, ap, subst}
use Rattle.std.specs.Option.{option_map}
use Rattle.linked_list.specs.Links.{Sound}
use Rattle.records.specs.declared.ir_node.IRNode.TheVariants as node
use Rattle.records.specs.Models.{tables}
use Rattle.records.proofs.Rests.{block_edit_links}
use Rattle.forest.proofs.Frames.{block_edit_other, block_edit_owned, unlinked_acyclic}
use Rattle.forest.proofs.forest.Forest.unlink_block.Goals as goal

pub invariant_of-self : goal.invariant_of-self
invariant_of-self c =
    let m = tables c.args.self.now.records in
    let n = tables c.unlink.new.ctx in
    let rest = c.unlink.ensures.rest in
    let moves = (c.unlink.ensures.removes _ c.in_ok-region.ensures.1).moves in record {
      oplists = subst Sound (sym (block_edit_links m n rest)) c.args.self.now.oplists;
      blocklists = c.unlink.ensures.sound;
      owned = block_edit_owned m n rest c.args.self.now.owned;
      acyclic = unlinked_acyclic m n (node.BasicBlock c.args.block) (block_edit_other m n rest c.args.block _ moves) (ap (option_map node.Region) moves.here) c.args.self.now.acyclic;
    }
