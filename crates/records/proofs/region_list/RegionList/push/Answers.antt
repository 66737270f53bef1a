use Rattle.std.proofs.Common.{◌<◌, List, length, ap, ◌∙◌, arith}
use Rattle.std.proofs.lemmas.List.{length-set, length-take-le}
use Rattle.records.specs.declared.handles.RegionPtr.{RegionPtr}
use Rattle.records.proofs.Regions.{padded_push}
use Rattle.records.proofs.region_list.RegionList.push.Goals as goal

pub invariant_of-self : goal.invariant_of-self
invariant_of-self c =
    let r = c.self.inside in
    let held = c.self.invariant in
    let known = ap (λ (xs : List RegionPtr). length xs) c.self.view_is in
    let front = length-take-le r.len r.places (omega arith) in
    let few : r.len < 4 = (let l = c.requires in omega arith) in
    (omega arith, length-set r.places _ _ ∙ held.1, padded_push r.len r.places c.args.region few held.1 held.2)
