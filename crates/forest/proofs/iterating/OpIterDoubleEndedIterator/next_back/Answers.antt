use Rattle.forest.specs.Iters.{ops_in}
use Rattle.forest.proofs.Lefts.{back_nearer, progress}
use Rattle.forest.proofs.iterating.OpIterDoubleEndedIterator.next_back.Goals as goal

pub returns-clause-goes : goal.returns-clause-goes
returns-clause-goes c =
    let s = c.args.self.now in
    let r = c.step_back-step in
    progress _ _ s r.result.node _ tt tt (λ n e. back_nearer (ops_in s.forest.now) s.left r.result s.spanned _ n r.ensures.steps e)
