use Rattle.std.proofs.Common.{rules, Some, inl}
use Rattle.std.proofs.lemmas.Bool.Decides.{Decides-eqb}
use Rattle.std.proofs.lemmas.Slice.Eq.{strip_prefix_is}
use Rattle.replay.proofs.compare.past_line.Goals as goal

pub returns-in-Some : goal.returns-in-Some
returns-in-Some c = (search rules, inl (strip_prefix_is Decides-eqb c.args.wanted.now c.args.given.now (Some c.in-Some.rest) c.in-Some.ensures.cases))
