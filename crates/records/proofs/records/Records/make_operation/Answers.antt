use Rattle.std.proofs.Common.{ap, ◌∙◌, arith, rules}
use Rattle.arena.specs.Recorded.{shelf}
use Rattle.arena.specs.Shelves.{entered}
use Rattle.records.specs.declared.operation.Operation.{Operation}
use Rattle.arena.proofs.Shelving.{entered_long}
use Rattle.records.specs.Models.{tables}
use Rattle.records.proofs.Made.{Steps, as_long, body_long, regions_long, steps_after, steps_answer}
use Rattle.records.proofs.records.Records.make_operation.Goals as goal

pub invariant_of-self : goal.invariant_of-self
invariant_of-self c =
    let operations = entered_long c.args.self.now.operations c.make.new.table _ c.make.ensures.after in
    let blocks = as_long c.args.self.now.blocks c.make_body-body.new.table _ c.make_body-body.ensures.after (body_long _ _ _) in
    let regions = as_long c.args.self.now.regions c.make_regions-regions.new.table _ c.make_regions-regions.ensures.after (regions_long _ _ _ _) in
    record { ops = operations ∙ c.args.self.now.ops; blks = blocks ∙ c.args.self.now.blks; rgns = regions ∙ c.args.self.now.rgns }

pub returns : goal.returns
returns c =
    let steps : Steps (tables c.args.self.now) c.args.shape.kind c.args.name c.args.shape.count _ (record { operations = shelf c.make.new.table; blocks = shelf c.make_body-body.new.table; regions = shelf c.make_regions-regions.new.table })
    = record {
      one = c.args.shape.one;
      roomy = c.requires.regions;
      operation = (let n = c.next.ensures (omega arith) in search rules);
      region = c.next-region.result;
      is_next = c.next-region.ensures;
      body = c.make_body-body.ensures.given;
      blocks = c.make_body-body.ensures.after;
      ptrs = c.make_regions-regions.ensures.given;
      regions = c.make_regions-regions.ensures.after;
      operations = c.make.ensures.after ∙ ap (λ (o : Operation). entered o (shelf c.args.self.now.operations)) c.new-whole.ensures;
    } in
    record { answer = steps_answer _ _ _ _ _ _ steps; after = steps_after _ _ _ _ _ _ steps }
