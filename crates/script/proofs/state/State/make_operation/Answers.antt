use Rattle.std.proofs.Common.{refl}
use Rattle.script.proofs.Keeping.{found_operation, same_session}
use Rattle.script.proofs.Making.{body_left, making_refused, regions_left}
use Rattle.script.proofs.state.State.make_operation.Goals as goal

pub number-requires-2-clause-few : goal.number-requires-2-clause-few
number-requires-2-clause-few c =
    regions_left c.args.self.now _ _ _ c.in_ok-made.made _ _ c.if-numbers_run_out.ensures c.in_ok-made.ensures c.as_slice.ensures.all

pub number-requires-3-clause-few : goal.number-requires-3-clause-few
number-requires-3-clause-few c =
    body_left c.args.self.now _ _ _ c.in_ok-made.made _ _ c.if-numbers_run_out.ensures c.in_ok-made.ensures c.as_slice-2.ensures

pub invariant_of-self-2 : goal.invariant_of-self-2
invariant_of-self-2 c = record {
  found = found_operation c.args.self.now _ _ _ _ _ c.in_ok-made.ensures _ _ _ _ _ _ _ _ _ c.number.ensures c.as_slice.ensures.all c.number-2.ensures c.as_slice-2.ensures c.number-3.ensures;
}

pub returns-in_err-made : goal.returns-in_err-made
returns-in_err-made c =
    let h = c.in_err-made.ensures in
    making_refused c.args.self.now _ _ _ _ _ _ _ c.if-numbers_run_out.ensures h.0 (same_session _ _ h.1 refl refl refl) c.from_residual.ensures.1
