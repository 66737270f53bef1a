use Rattle.std.proofs.Common.{◌≡◌, true, sym, refl, ap, ◌∙◌, subst, inl, inr}
use Rattle.std.specs.Option.{option_map}
use Rattle.linked_list.specs.Edits.{spot_in}
use Rattle.linked_list.specs.Links.{Sound}
use Rattle.trees.specs.Climbs.{Within}
use Rattle.records.specs.declared.ir_node.IRNode.TheVariants as node
use Rattle.records.specs.Models.{tables}
use Rattle.records.specs.Nodes.{block_target, is, of_table, parent}
use Rattle.records.specs.Views.{block_links}
use Rattle.forest.proofs.Above.{spot_outside}
use Rattle.records.proofs.Rests.{block_edit_links}
use Rattle.forest.proofs.Frames.{block_edit_other, block_edit_owned, linked_acyclic}
use Rattle.forest.proofs.Listed.{clash}
use Rattle.forest.proofs.Rowing.{block_spot, passed_rows}
use Rattle.forest.proofs.forest.Forest.link_block.Goals as goal
use Rattle.forest.proofs.forest.Forest.link_block.Goals.{Else-contains, Else-is_of_table}

-- the region is no table's
free : (c : Else-is_of_table) → is (of_table (tables c.args.self.now.records)) (spot_in (block_links (tables c.args.self.now.records)) c.args.spot) ≡ true → ⊥
free c b = clash (sym b ∙ ap (is (of_table (tables c.args.self.now.records))) c.in_ok-region.ensures.into ∙ sym c.if-is_of_table.ensures)

pub returns-then-contains : goal.returns-then-contains
returns-then-contains c =
    let m = tables c.args.self.now.records in
    let r = passed_rows (block_links m) c.args.block c.args.spot _ c.in_ok-region.ensures in
    let in-it = subst (Within (parent m) (node.BasicBlock c.args.block)) (c.target.ensures ∙ block_spot c.args.spot) (c.contains.ensures.yes c.if-contains.true) in
    (inr (r.0, inr (r.1.0, inr (r.1.1.0, inr (free (goal.at.returns-then-contains c).Else-is_of_table, inl (refl, in-it))))), refl)

-- the climb came to its end outside
outside : (c : Else-contains) → Within (parent (tables c.args.self.now.records)) (node.BasicBlock c.args.block) (block_target c.args.spot) → ⊥
outside c w =
    c.contains.ensures.no c.if-contains.false (subst (Within (parent (tables c.args.self.now.records)) (node.BasicBlock c.args.block)) (sym (c.target.ensures ∙ block_spot c.args.spot)) w)

pub invariant_of-self : goal.invariant_of-self
invariant_of-self c =
    let m = tables c.args.self.now.records in
    let n = tables c.insert.new.ctx in
    let rest = c.insert.ensures.rest in
    let moves = c.insert.ensures.inserts.moves in record {
      oplists = subst Sound (sym (block_edit_links m n rest)) c.args.self.now.oplists;
      blocklists = c.insert.ensures.sound;
      owned = block_edit_owned m n rest c.args.self.now.owned;
      acyclic = linked_acyclic m n (node.BasicBlock c.args.block) (block_edit_other m n rest c.args.block _ moves) (node.Region c.in_ok-region.region) (ap (option_map node.Region) moves.here)
          (spot_outside m (node.BasicBlock c.args.block) (block_links m) node.BasicBlock node.Region (λ _ _ e. ap (option_map node.Region) e) c.args.spot _ c.in_ok-region.ensures.into
          (λ w. outside (goal.at.invariant_of-self c).Else-contains (subst (Within (parent m) (node.BasicBlock c.args.block)) (block_spot c.args.spot) w))) c.args.self.now.acyclic;
    }

pub returns : goal.returns
returns c =
    let p = c.in_ok-region.ensures in
    let r = passed_rows (block_links (tables c.args.self.now.records)) c.args.block c.args.spot _ p in (
      (r.0, (r.1.0, (r.1.1.0, (free (goal.at.returns c).Else-is_of_table, (outside (goal.at.returns c).Else-contains, tt))))),
      record { container = c.in_ok-region.region; into = p.into; inserts = c.insert.ensures.inserts; rests = c.insert.ensures.rest },
    )
