use Rattle.std.proofs.lemmas.List.{nil_from_length}
use Rattle.std.proofs.Common.{arith, rules, refl, ◌<◌, [], ◌++◌, length, take, inl, subst}
use Rattle.script.specs.Transcripts.{Lines, none, more}
use Rattle.replay.proofs.Passing.{goes_on, whole}
use Rattle.replay.proofs.compare.compare_lines.Goals as goal

pub fields-init : goal.fields-init
fields-init c = (refl, ([], none c.in_ok-session.ensures, inl refl))

pub fields-preserved : goal.fields-preserved
fields-preserved c =
    let (long, (so_far, lines, front)) = c.fields.invariant in
    let given = take c.in-Printed.length c.read_line.new.out in
    (search rules, (so_far ++ given, more lines c.in-Printed.ensures.ran, goes_on _ so_far _ given _ front c.in_ok-rest-in-Printed.ensures))

pub returns-in-End : goal.returns-in-End
returns-in-End c =
    let (long, (bytes, lines, front)) = c.fields.invariant in
    let (within, end, still) = c.in-End.ensures.ran in (
      bytes,
      record { state = c.fields.session.state; lines = subst (λ place. Lines c.args.script.now c.fields.session.state place bytes) end lines; few = omega (arith, λ (h : 4096 < length c.args.script.now). within (inl h)) },
      whole c.args.wanted.now bytes c.fields.rest.now (nil_from_length c.fields.rest.now (search rules)) front,
    )
