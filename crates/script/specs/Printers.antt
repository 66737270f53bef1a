-- What the printer of a line does to the buffer that it was lent.
use Rattle.std.specs.Prelude.{◌≡◌, ℕ, ◌+◌, ◌≤◌, List, length}
use Rattle.script.specs.declared.print.Printer.{Printer}
use Rattle.script.specs.Prints.{Printed}

-- so many bytes more fit
abbrev pub HasRoom : Printer → ℕ → Type 0
HasRoom p n = p.at + n ≤ length p.out.now

-- bs stands behind what was printed, in the same buffer; what lies beyond it stays
pub record Prints (p : Printer) (bs : List ℕ) (q : Printer) : Type 0 where
  pub same_reference : q.out.ghost_name ≡ p.out.ghost_name
  pub printed : Printed p.out.now p.at bs q.out.now q.at
