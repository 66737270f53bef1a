use Rattle.std.proofs.Common.{refl}
use Rattle.script.proofs.Keeping.{found_block_inserted, same_session}
use Rattle.script.proofs.Named.{edit_done, edit_refused, edit_unnamed, named, unnamed}
use Rattle.script.proofs.state.State.run_link_block.Goals as goal

pub invariant_of-self-2 : goal.invariant_of-self-2
invariant_of-self-2 c = record { found = found_block_inserted c.args.self.now _ _ _ _ c.insert_block.ensures }

pub returns-in_err-insert_block : goal.returns-in_err-insert_block
returns-in_err-insert_block c =
    let is = named _ _ c.args.value.now _ _ _ c.in_ok-link.ensures.1 c.in_ok-link.ensures.2 c.in_ok-block.ensures in
    let h = c.in_err-insert_block.ensures in
    edit_refused _ _ _ _ _ c.args.self.now _ _ _ _ c.in_ok-link.ensures.0 is h.0 (same_session _ _ h.1 refl refl refl) c.from_residual-in_err-insert_block.ensures.1

pub returns : goal.returns
returns c =
    let is = named _ _ c.args.value.now _ _ _ c.in_ok-link.ensures.1 c.in_ok-link.ensures.2 c.in_ok-block.ensures in
    let h = c.in_ok-insert_block.ensures in
    edit_done _ _ _ _ _ c.args.self.now _ _ c.in_ok-link.ensures.0 is h.0 h refl refl refl c.clear.ensures

pub returns-in_err-block : goal.returns-in_err-block
returns-in_err-block c =
    edit_unnamed _ _ _ _ c.args.self.now _ _ _ _ c.in_ok-link.ensures.0 (unnamed _ _ c.args.value.now _ _ _ c.in_ok-link.ensures.1 c.in_ok-link.ensures.2 c.in_err-block.ensures) (same_session _ _ refl refl refl refl) c.from_residual-in_err-block.ensures.1
