-- A visitor that sets one note. Assumes nothing.
use Rattle.std.proofs.Common.{◌≡◌, ℕ, Bool, true, false, cond, ◌&&◌, is_some, None, Ok, Err, Result, sym, refl, ap, ◌∙◌, subst, ap₂, inl, inr}
use Rattle.std.proofs.lemmas.Bool.{false_from_ne_true}
use Rattle.std.specs.Option.{option_map}
use Rattle.result.specs.declared.refusal.Refusal.{Refusal}
use Rattle.records.specs.declared.handles.OpPtr.{OpPtr}
use Rattle.records.specs.Models.{operation_at}
use Rattle.records.specs.Writes.{op_decides, op_same, same_opptr}
use Rattle.ir.specs.declared.context.Context.{Context}
use Rattle.ir.specs.Calls.{NoteSet, SetNoteCall}
use Rattle.ir.specs.Stores.{nodes}
use Rattle.walkers.specs.Notes.{Noting, note_in, note_of, same_op, unnoted, with_note}
use Rattle.walkers.proofs.Unnoted.{kept_none}

-- the note that is set, and those that stay
chosen : {X : Type 0} (b c : Bool) (x y : X) → b ≡ true → c ≡ true → x ≡ cond (b && c) x y
chosen b c x y p q = ap₂ (λ i j. cond (i && j) x y) (sym p) (sym q)

left : {X : Type 0} (b c : Bool) (x y : X) → b ≡ false → y ≡ cond (b && c) x y
left b c x y p = ap (λ i. cond (i && c) x y) (sym p)

unset : {X : Type 0} (b c : Bool) (x y : X) → c ≡ false → y ≡ cond (b && c) x y
unset true c x y p = ap (λ i. cond i x y) (sym p)
unset false c x y p = refl

module _ (s t : Context) (op : OpPtr) (note : ℕ) where
  module _ (e : NoteSet s op note t) where
    abbrev is_there : Bool
    is_there = is_some (operation_at (nodes s) op)

    notes_are : (q : OpPtr) → note_of (nodes t) q ≡ with_note s op note q
    notes_are q =
        elim (op_same q op) [
          | inl z ↦ ap (note_of (nodes t)) z ∙ ap note_in e.noted.only.here ∙ chosen (same_op q op) is_there note (note_of (nodes s) q) ((op_decides q op).1 z) (ap is_some e.noted.was)
          | inr ne ↦
              ap note_in (e.noted.only.others q.handle (λ h. ne (same_opptr q op h)))
              ∙ left (same_op q op) is_there note (note_of (nodes s) q) (false_from_ne_true _ (λ h. ne ((op_decides q op).0 h)))
        ]

    operations : (q : OpPtr) → option_map unnoted (operation_at (nodes t) q) ≡ option_map unnoted (operation_at (nodes s) q)
    operations q =
        elim (op_same q op) [
          | inl z ↦
              ap (λ (p : OpPtr). option_map unnoted (operation_at (nodes t) p)) z ∙ ap (option_map unnoted) e.noted.only.here ∙ ap (option_map unnoted) (sym e.noted.was)
              ∙ ap (λ (p : OpPtr). option_map unnoted (operation_at (nodes s) p)) (sym z)
          | inr ne ↦ ap (option_map unnoted) (e.noted.only.others q.handle (λ h. ne (same_opptr q op h)))
        ]

    pub set : Noting s (with_note s op note) t
    set = record {
      notes_are = notes_are;
      only = record {
        kept = record { places = e.noted.places; operations = operations; blocks = e.noted.blocks; regions = e.noted.regions };
        held = e.held;
        mapped = e.mapped;
      };
    }

  dead : operation_at (nodes s) op ≡ None → t ≡ s → Noting s (with_note s op note) t
  dead d e =
      subst (Noting s (with_note s op note)) (sym e)
      (record { notes_are = λ q. unset (same_op q op) (is_some (operation_at (nodes s) op)) note (note_of (nodes s) q) (ap is_some d); only = kept_none s })

  -- what setting a note leaves, whether it was refused or not
  pub set_note : (r : Result (Unit {0}) Refusal) → SetNoteCall s op note r t → Noting s (with_note s op note) t
  set_note (Ok x) h = set h.1
  set_note (Err x) (inl u, e) = dead u.1 e
  set_note (Err x) (inr u, e) = absurd u.1

-- a store in which no note was set
pub none_set : (s : Context) → Noting s (note_of (nodes s)) s
none_set s = record { notes_are = λ q. refl; only = kept_none s }
