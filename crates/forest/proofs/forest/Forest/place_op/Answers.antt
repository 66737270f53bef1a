use Rattle.std.proofs.Common.{sym, refl, ap, ◌∙◌, subst, inl, inr}
use Rattle.std.specs.Option.{option_map}
use Rattle.linked_list.specs.Links.{Sound}
use Rattle.trees.specs.Climbs.{Within}
use Rattle.records.specs.declared.ir_node.IRNode.TheVariants as node
use Rattle.records.specs.Models.{tables}
use Rattle.records.specs.Nodes.{op_target, parent}
use Rattle.records.specs.Views.{op_links}
use Rattle.records.proofs.Rests.{op_edit_links}
use Rattle.forest.proofs.Above.{spot_outside}
use Rattle.forest.proofs.Frames.{op_edit_other, op_edit_owned, linked_acyclic}
use Rattle.forest.proofs.Rowing.{op_spot, passed_rows}
use Rattle.forest.proofs.forest.Forest.place_op.Goals as goal
use Rattle.forest.proofs.forest.Forest.place_op.Goals.{Else-contains}

pub returns-then-contains : goal.returns-then-contains
returns-then-contains c =
    let m = tables c.args.self.now.records in
    let r = passed_rows (op_links m) c.args.op c.args.spot _ c.in_ok-block.ensures in
    let in-it = subst (Within (parent m) (node.Operation c.args.op)) (c.target.ensures ∙ op_spot c.args.spot) (c.contains.ensures.yes c.if-contains.true) in
    (inr (r.0, inr (r.1.0, inr (r.1.1.0, inl (refl, in-it)))), refl)

-- the climb came to its end outside
outside : (c : Else-contains) → Within (parent (tables c.args.self.now.records)) (node.Operation c.args.op) (op_target c.args.spot) → ⊥
outside c w =
    c.contains.ensures.no c.if-contains.false (subst (Within (parent (tables c.args.self.now.records)) (node.Operation c.args.op)) (sym (c.target.ensures ∙ op_spot c.args.spot)) w)

pub invariant_of-self : goal.invariant_of-self
invariant_of-self c =
    let m = tables c.args.self.now.records in
    let n = tables c.insert.new.ctx in
    let rest = c.insert.ensures.rest in
    let moves = c.insert.ensures.inserts.moves in record {
      oplists = c.insert.ensures.sound;
      blocklists = subst Sound (sym (op_edit_links m n rest)) c.args.self.now.blocklists;
      owned = op_edit_owned m n rest c.args.self.now.owned;
      acyclic = linked_acyclic m n (node.Operation c.args.op) (op_edit_other m n rest c.args.op _ moves) (node.BasicBlock c.in_ok-block.block) (ap (option_map node.BasicBlock) moves.here)
          (spot_outside m (node.Operation c.args.op) (op_links m) node.Operation node.BasicBlock (λ _ _ e. ap (option_map node.BasicBlock) e) c.args.spot _ c.in_ok-block.ensures.into
          (λ w. outside (goal.at.invariant_of-self c).Else-contains (subst (Within (parent m) (node.Operation c.args.op)) (op_spot c.args.spot) w))) c.args.self.now.acyclic;
    }

pub returns : goal.returns
returns c =
    let m = tables c.args.self.now.records in
    let p = c.in_ok-block.ensures in
    let r = passed_rows (op_links m) c.args.op c.args.spot _ p in (
      (r.0, (r.1.0, (r.1.1.0, (outside (goal.at.returns c).Else-contains, tt)))),
      record { container = c.in_ok-block.block; into = p.into; inserts = c.insert.ensures.inserts; rests = c.insert.ensures.rest },
    )
