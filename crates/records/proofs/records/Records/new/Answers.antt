use Rattle.records.proofs.records.Records.new.Goals as goal

pub returns : goal.returns
returns c = record { operations = c.in_ok-operations.ensures.unused; blocks = c.in_ok-blocks.ensures.unused; regions = c.in_ok-regions.ensures.unused }
