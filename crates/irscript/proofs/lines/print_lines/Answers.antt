use Rattle.std.proofs.Common.{arith, rules, refl, ◌<◌, [], ◌++◌, length, take, inl, subst}
use Rattle.std.proofs.KnownBytes.{Appends-nil, Appends-trans}
use Rattle.script.specs.Transcripts.{Lines, none, more}
use Rattle.irscript.proofs.lines.print_lines.Goals as goal

pub fields-init : goal.fields-init
fields-init g c = (refl, ([], none c.in_ok-session.ensures, Appends-nil _))

pub fields-preserved : goal.fields-preserved
fields-preserved g c =
    let (long, (so_far, lines, appended)) = c.fields.invariant in
    let ran = c.in-Printed.ensures.ran in
    (search rules, (so_far ++ take c.in-Printed.length c.read_line.new.out, more lines ran, Appends-trans _ _ _ _ _ appended c.in_ok-write_all-in-Printed.ensures.bytes))

pub returns-in-End : goal.returns-in-End
returns-in-End g c =
    let (long, (bytes, lines, appended)) = c.fields.invariant in
    let (within, end, still) = c.in-End.ensures.ran in
    (bytes, record { state = c.fields.session.state; lines = subst (λ place. Lines c.args.script.now c.fields.session.state place bytes) end lines; few = omega (arith, λ (h : 4096 < length c.args.script.now). within (inl h)) }, appended)
