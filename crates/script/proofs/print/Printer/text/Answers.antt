use Rattle.std.proofs.Common.{refl, ◌∙◌}
use Rattle.script.proofs.Printing.{printed_part}
use Rattle.script.proofs.print.Printer.text.Goals as goal

pub returns : goal.returns
returns c = record {
  same_reference = refl;
  printed = printed_part _ _ _ _ _ refl c.requires (c.copy_from_slice.ensures.after ∙ c.as_bytes.ensures.value);
}
