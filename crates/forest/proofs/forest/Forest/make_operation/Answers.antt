use Rattle.std.proofs.Common.{sym, subst}
use Rattle.linked_list.specs.Links.{Sound}
use Rattle.records.specs.Models.{Model, tables}
use Rattle.records.specs.Nodes.{Owned, parent}
use Rattle.records.specs.Views.{block_links, op_links}
use Rattle.trees.specs.Climbs.{Acyclic}
use Rattle.forest.proofs.Climbs.{made_acyclic}
use Rattle.forest.proofs.Owning.{made_owned}
use Rattle.forest.proofs.Kept.{made_block_lists, made_op_lists}
use Rattle.forest.proofs.Keeping.{operation_kept}
use Rattle.forest.proofs.Tables.{tables_of}
use Rattle.forest.proofs.forest.Forest.make_operation.Goals as goal

pub invariant_of-self : goal.invariant_of-self
invariant_of-self c =
    let m = tables c.args.self.now.records in
    let t = tables_of c.args.self.now.records in
    let roomy = c.if-not-has_room.ensures in
    let after = sym c.make_operation.ensures.after in record {
      oplists = subst (λ (n : Model). Sound (op_links n)) after (made_op_lists m t c.args.shape.kind c.args.name c.args.shape.count roomy c.args.self.now.oplists);
      blocklists = subst (λ (n : Model). Sound (block_links n)) after (made_block_lists m t c.args.shape.kind c.args.name c.args.shape.count c.args.shape.one roomy c.args.self.now.blocklists);
      owned = subst (λ (n : Model). ∥ Owned n ∥₁) after (made_owned m t c.args.shape.kind c.args.name c.args.shape.count roomy c.args.self.now.owned);
      acyclic = subst (λ (n : Model). Acyclic (parent n)) after (made_acyclic m t c.args.shape.kind c.args.name c.args.shape.count c.args.shape.one roomy c.args.self.now.acyclic);
    }

pub returns : goal.returns
returns c =
    let m = tables c.args.self.now.records in
    let roomy = c.if-not-has_room.ensures in (
      ((λ lack. lack roomy), tt),
      record {
        roomy = roomy;
        answer = c.make_operation.ensures.answer;
        after = c.make_operation.ensures.after;
        kept = operation_kept m _ c.args.shape.kind c.args.name c.args.shape.count (tables_of c.args.self.now.records) roomy c.make_operation.ensures.after;
      },
    )
