use Rattle.forest.specs.Iters.{blocks_in}
use Rattle.forest.proofs.Lefts.{front_nearer, progress}
use Rattle.forest.proofs.iterating.BlockIterIterator.next.Goals as goal

pub returns-clause-goes : goal.returns-clause-goes
returns-clause-goes c =
    let s = c.args.self.now in
    let r = c.step_front-step in
    progress _ _ s r.result.node _ tt tt (λ n e. front_nearer (blocks_in s.forest.now) s.left r.result s.spanned _ n r.ensures.steps e)
