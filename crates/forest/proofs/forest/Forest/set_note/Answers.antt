use Rattle.std.proofs.Common.{sym, subst}
use Rattle.linked_list.specs.Links.{Sound}
use Rattle.records.specs.Models.{tables}
use Rattle.forest.proofs.Frames.{noted_acyclic, noted_block_links, noted_op_links, noted_owned}
use Rattle.forest.proofs.forest.Forest.set_note.Goals as goal

pub invariant_of-self : goal.invariant_of-self
invariant_of-self c =
    let m = tables c.args.self.now.records in
    let n = tables c.set_note.new.self in
    let e = c.set_note.ensures in record {
      oplists = subst Sound (sym (noted_op_links m n c.args.op c.args.note e)) c.args.self.now.oplists;
      blocklists = subst Sound (sym (noted_block_links m n c.args.op c.args.note e)) c.args.self.now.blocklists;
      owned = noted_owned m n c.args.op c.args.note e c.args.self.now.owned;
      acyclic = noted_acyclic m n c.args.op c.args.note e c.args.self.now.acyclic;
    }
