use Rattle.std.proofs.Common.{◌≡◌, ◌≤◌, sym, subst, arith}
use Rattle.arena.specs.Pools.{room}
use Rattle.linked_list.specs.Links.{Sound}
use Rattle.records.specs.Models.{Model, tables}
use Rattle.records.specs.Nodes.{Owned, parent}
use Rattle.records.specs.Views.{block_links, op_links}
use Rattle.trees.specs.Climbs.{Acyclic}
use Rattle.forest.proofs.Climbs.{block_acyclic}
use Rattle.forest.proofs.Owning.{block_owned}
use Rattle.forest.proofs.Kept.{block_block_lists, block_op_lists}
use Rattle.forest.proofs.Keeping.{block_kept}
use Rattle.forest.proofs.Tables.{tables_of}
use Rattle.forest.proofs.forest.Forest.make_block.Goals as goal

pub invariant_of-self : goal.invariant_of-self
invariant_of-self c =
    let m = tables c.args.self.now.records in
    let t = tables_of c.args.self.now.records in
    let after = sym c.make_block.ensures.after in
    let some : 1 ≤ room m.blocks.pool = let e = c.blocks_left.ensures in let n = c.if-blocks_left-eq0.false in omega arith in record {
      oplists = subst (λ (n : Model). Sound (op_links n)) after (block_op_lists m t some c.args.self.now.oplists);
      blocklists = subst (λ (n : Model). Sound (block_links n)) after (block_block_lists m t some c.args.self.now.blocklists);
      owned = subst (λ (n : Model). ∥ Owned n ∥₁) after (block_owned m c.args.self.now.owned);
      acyclic = subst (λ (n : Model). Acyclic (parent n)) after (block_acyclic m t some c.args.self.now.acyclic);
    }

pub returns : goal.returns
returns c =
    let m = tables c.args.self.now.records in
    let some : 1 ≤ room m.blocks.pool = let e = c.blocks_left.ensures in let n = c.if-blocks_left-eq0.false in omega arith in (
      ((λ (e : room m.blocks.pool ≡ 0). omega arith), tt),
      record { roomy = some; answer = c.make_block.ensures.given; after = c.make_block.ensures.after; kept = block_kept m _ (tables_of c.args.self.now.records) some c.make_block.ensures.after },
    )
