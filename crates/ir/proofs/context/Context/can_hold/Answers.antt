use Rattle.std.proofs.Common.{MatchBool, Option, sym, subst, arith}
use Rattle.identifier.specs.declared.identifier.Identifier.{Identifier}
use Rattle.ir.specs.Steps.{Full}
use Rattle.ir.specs.Stores.{names}
use Rattle.ir.proofs.Numbering.{all_held, can_hold_when}
use Rattle.ir.proofs.context.Context.can_hold.Goals as goal

pub returns-else-count-lt256 : goal.returns-else-count-lt256
returns-else-count-lt256 c =
    subst (λ (o : Option Identifier). MatchBool c.is_some.result (Full (names c.args.self.now) o → ⊥) (Full (names c.args.self.now) o)) (sym c.in-Some.is)
    (can_hold_when c.args.self.now.names c.in-Some.identifier c.find.result c.is_some.result c.find.ensures c.is_some.ensures
    (all_held c.args.self.now.names (let n = c.count.ensures in omega arith)))
