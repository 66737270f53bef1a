use Rattle.std.proofs.Common.{refl, rules}
use Rattle.identifier.specs.Identifiers.{text, fnv_step}
use Rattle.identifier.proofs.Keys.{mixed, mixed_all}
use Rattle.identifier.proofs.key.IdentifierKey.hash.Goals as goal

pub loop-b-preserved : goal.loop-b-preserved
unfolding fnv_step
loop-b-preserved c =
    (mixed c.as_bytes-b-items.result.now (text c.args.self.now) c.loop-b.b-index 2166136261 c.loop-b.h _ c.as_bytes-b-items.ensures c.loop-b-test.true refl c.loop-b.invariant.0, search rules)

pub returns : goal.returns
returns c = mixed_all c.as_bytes-b-items.result.now (text c.args.self.now) c.loop-b.b-index 2166136261 c.loop-b.h c.as_bytes-b-items.ensures c.loop-b-test.false c.loop-b.invariant.0
