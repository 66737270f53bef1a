use Rattle.std.proofs.Common.{refl}
use Rattle.forest.specs.Calls.{Noted, handle_rows}
use Rattle.symbol_table.specs.Carried.{Carried}
use Rattle.ir.specs.Calls.{NoteSet}
use Rattle.ir.specs.Stores.{nodes}
use Rattle.ir.proofs.Numbering.{answered, noted_held, numbers_held}
use Rattle.ir.proofs.context.Context.set_note.Goals as goal

pub invariant_of-self : goal.invariant_of-self
invariant_of-self c =
    record { numbers = ∣ noted_held c.args.self.now.tables c.set_note.new.self c.args.op c.args.note c.set_note.result _ c.set_note.ensures (numbers_held _ _ c.args.self.now.numbers) ∣₁ }

pub returns : goal.returns
returns c =
    let s = c.args.self.now in
    answered (handle_rows (nodes s) c.args.op) (Carried (λ _ u. Noted s.tables.forest c.args.op c.args.note u) s.tables) (λ _ u. NoteSet s c.args.op c.args.note u) s _ refl (λ x e. record { noted = e.0; held = refl; mapped = e.1 }) c.set_note.result c.set_note.ensures
