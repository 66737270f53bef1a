-- How the trail of a walk lists nodes.
use Rattle.std.specs.Prelude.{Result}
use Rattle.result.specs.declared.refusal.Refusal.{Refusal}
use Rattle.orders.specs.declared.walk_result.WalkResult.{WalkResult}
use Rattle.records.specs.declared.handles.OpPtr.{OpPtr}
use Rattle.records.specs.declared.ir_node.IRNode.{IRNode}
use Rattle.ir.specs.declared.context.Context.{Context}
use Rattle.walkers.specs.declared.config.WalkConfig.{WalkConfig}
use Rattle.walkers.specs.declared.operations_only.OperationsOnly.{OperationsOnly}
use Rattle.walkers.specs.TableWalks.{TableWalkCall}
use Rattle.walkers.specs.Walks.{WalkCall}
use Rattle.script.specs.declared.trail.Trail.{Trail}
use Rattle.script.specs.Answers.{answer_at}
use Rattle.script.specs.Listed.{more_shown, shown_as}

-- a trail walks the store
abbrev pub TrailWalk : Context → WalkConfig → IRNode → Trail → Result (WalkResult (Unit {0})) Refusal → Trail → Type 0
TrailWalk s k root v r w =
    WalkCall (λ t c n. answer_at t.steering.skip t.steering.end n) (λ t c n. record t { nodes = record t.nodes { now = record { items = more_shown t.nodes.now.items (shown_as t.state.now n) } } }) s k root v r w

-- a trail walks a symbol table of the store
abbrev pub TrailTableWalk : Context → OpPtr → OperationsOnly Trail → Result (Unit {0}) Refusal → OperationsOnly Trail → Type 0
TrailTableWalk s table v r w =
    TableWalkCall (λ t c n. answer_at t.steering.skip t.steering.end n) (λ t c n. record t { nodes = record t.nodes { now = record { items = more_shown t.nodes.now.items (shown_as t.state.now n) } } }) s table v r w
