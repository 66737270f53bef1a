use Rattle.records.specs.declared.handles.BlockPtr.{BlockPtr}
use Rattle.records.specs.declared.handles.OpPtr.{OpPtr}
use Rattle.records.specs.declared.handles.RegionPtr.{RegionPtr}
use Rattle.forest.proofs.Climbs.{fresh_acyclic}
use Rattle.forest.proofs.Kept.{nothing_listed, unused_dead}
use Rattle.forest.proofs.Owning.{fresh_owned}
use Rattle.forest.proofs.forest.Forest.new.Goals as goal

pub invariant_of-result : goal.invariant_of-result
invariant_of-result c =
    let fresh = c.in_ok-records.ensures in record {
      oplists = nothing_listed _ (λ (n : OpPtr). unused_dead _ 512 n.handle fresh.operations) (λ (b : BlockPtr). unused_dead _ 256 b.handle fresh.blocks);
      blocklists = nothing_listed _ (λ (n : BlockPtr). unused_dead _ 256 n.handle fresh.blocks) (λ (r : RegionPtr). unused_dead _ 256 r.handle fresh.regions);
      owned = fresh_owned _ fresh;
      acyclic = fresh_acyclic _ fresh;
    }
