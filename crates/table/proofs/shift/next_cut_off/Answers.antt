use Rattle.std.proofs.Common.{◌≡◌, option_map, rules}
use Rattle.table.specs.declared.entry.Hit.{Hit}
use Rattle.table.specs.Search.{hit_of}
use Rattle.table.proofs.Closing.{next_cut}
use Rattle.table.proofs.shift.next_cut_off.Goals as goal

pub returns : goal.returns
returns g c =
    let place : c.map.result ≡ option_map (λ (x : Hit g.row.V.Denot). x.place) (hit_of c.walk-seen.result) = search rules in
    rw place (next_cut g.K.Key.hashes c.args.entries.now c.args.hole _ (λ i k no. search rules) _ _ (λ i k yes. search rules) c.walk-seen.ensures)
