use Rattle.std.proofs.Common.{refl, rules}
use Rattle.script.proofs.Done.{walk_done, walk_is, walk_is_none}
use Rattle.script.proofs.Named.{edit_unnamed}
use Rattle.script.proofs.state.State.run_walk.Goals as goal

pub returns-in_err-root : goal.returns-in_err-root
returns-in_err-root c =
    let w = c.in_ok-walk.ensures in
    edit_unnamed _ _ _ _ c.args.self.now _ _ _ _ w.0 (walk_is_none c.args.self.now c.args.value.now _ _ _ w.1 w.3 w.4 _ c.in_err-root.ensures) refl c.from_residual-in_err-root.ensures.1

pub returns : goal.returns
returns c =
    let w = c.in_ok-walk.ensures in
    walk_done c.args.self.now c.args.value.now _ _ _ _ c.in_ok-said.said _ c.close.ensures w.0 w.2 (walk_is c.args.self.now c.args.value.now _ _ _ w.1 w.3 w.4 _ c.in_ok-root.ensures) refl refl c.clear.ensures c.in_ok-said.ensures.walk _ (search rules)
