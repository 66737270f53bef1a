use Rattle.std.proofs.Common.{◌≡◌, ◌+◌, ◌<◌, List, map, slice_index_or, refl, ap, ◌∙◌, arith}
use Rattle.std.specs.List.{range_with_len}
use Rattle.std.proofs.lemmas.List.FromFn.{get_or-map-range_with_len}
use Rattle.identifier.specs.Names.{class_of}
use Rattle.identifier.specs.declared.class.TheConstants.{CLASSES}
use Rattle.identifier.specs.declared.class.Class.{Class}
use Rattle.identifier.specs.declared.class.Class.TheVariants.{Stop}
use Rattle.identifier.proofs.class.class_of.Goals as goal

-- the table has at each byte the class that the rule gives
rule : CLASSES ≡ map class_of (range_with_len 0 256)
rule = refl

pub returns : goal.returns
returns c =
    let lt : c.args.b < 256 = omega arith in
    let first : 0 + c.args.b ≡ c.args.b = omega arith in
    ap (λ (classes : List Class). slice_index_or classes c.args.b Stop) rule ∙ get_or-map-range_with_len class_of 0 256 c.args.b c.args.b Stop lt first
