use Rattle.std.proofs.Common.{refl}
use Rattle.script.proofs.Keeping.{found_op_inserted, same_session}
use Rattle.script.proofs.Named.{edit_done, edit_refused, edit_unnamed, named, unnamed}
use Rattle.script.proofs.state.State.run_link_operation.Goals as goal

pub invariant_of-self-2 : goal.invariant_of-self-2
invariant_of-self-2 c = record { found = found_op_inserted c.args.self.now _ _ _ _ c.insert_op.ensures }

pub returns-in_err-insert_op : goal.returns-in_err-insert_op
returns-in_err-insert_op c =
    let is = named _ _ c.args.value.now _ _ _ c.in_ok-link.ensures.1 c.in_ok-link.ensures.2 c.in_ok-op.ensures in
    let h = c.in_err-insert_op.ensures in
    edit_refused _ _ _ _ _ c.args.self.now _ _ _ _ c.in_ok-link.ensures.0 is h.0 (same_session _ _ h.1 refl refl refl) c.from_residual-in_err-insert_op.ensures.1

pub returns : goal.returns
returns c =
    let is = named _ _ c.args.value.now _ _ _ c.in_ok-link.ensures.1 c.in_ok-link.ensures.2 c.in_ok-op.ensures in
    let h = c.in_ok-insert_op.ensures in
    edit_done _ _ _ _ _ c.args.self.now _ _ c.in_ok-link.ensures.0 is h.0 h refl refl refl c.clear.ensures

pub returns-in_err-op : goal.returns-in_err-op
returns-in_err-op c =
    edit_unnamed _ _ _ _ c.args.self.now _ _ _ _ c.in_ok-link.ensures.0 (unnamed _ _ c.args.value.now _ _ _ c.in_ok-link.ensures.1 c.in_ok-link.ensures.2 c.in_err-op.ensures) (same_session _ _ refl refl refl refl) c.from_residual-in_err-op.ensures.1
