use Rattle.std.proofs.Common.{ℕ, ◌%◌, length, ap, rules}
use Rattle.table.proofs.Searching.{searched_none, searched}
use Rattle.table.proofs.map.find.Goals as goal

pub returns-then-n-eq0 : goal.returns-then-n-eq0
returns-then-n-eq0 g c = searched_none _ _ c.if-n-eq0.true

pub returns : goal.returns
returns g c =
    searched g.K.Key.hashes c.args.entries.now c.args.key _ (λ i no. search rules) _ _ _ (ap (λ (m : ℕ). m % length c.args.entries.now) c.hash.ensures)
    (λ i q yes. search rules) c.walk.ensures
