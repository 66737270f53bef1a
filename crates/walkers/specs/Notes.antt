-- What a store keeps where notes alone are set.
use Rattle.std.specs.Prelude.{◌≡◌, ℕ, Bool, cond, ◌&&◌, ◌==◌, is_some, Some, None, Option}
use Rattle.std.specs.Option.{option_map}
use Rattle.records.specs.declared.handles.OpPtr.{OpPtr}
use Rattle.records.specs.declared.operation.Operation.{Operation}
use Rattle.records.specs.Models.{Model, operation_at}
use Rattle.records.specs.Notes.{noted}
use Rattle.ir.specs.declared.context.Context.{Context}
use Rattle.ir.specs.Stores.{mappings, names, nodes}

-- the note of what may be an operation; 0 where there is none
abbrev pub note_in : Option Operation → ℕ
note_in None = 0
note_in (Some o) = o.note

-- the note of an operation; 0 where it is dead
abbrev pub note_of : Model → OpPtr → ℕ
note_of m op = note_in (operation_at m op)

-- an operation's record, whatever its note
abbrev pub unnoted : Operation → Operation
unnoted o = noted 0 o

-- The tables are the same but for notes.
pub record SameButNotes (m n : Model) : Type 0 where
  pub places : n.operations.pool ≡ m.operations.pool
  pub operations : (op : OpPtr) → option_map unnoted (operation_at n op) ≡ option_map unnoted (operation_at m op)
  pub blocks : n.blocks ≡ m.blocks
  pub regions : n.regions ≡ m.regions

-- The store is the same but for notes.
pub record OnlyNotes (s t : Context) : Type 0 where
  pub kept : SameButNotes (nodes s) (nodes t)
  pub held : names t ≡ names s
  pub mapped : mappings t ≡ mappings s

-- Each operation has the note that is given for it, and all else in the store stays.
pub record Noting (s : Context) (notes : OpPtr → ℕ) (t : Context) : Type 0 where
  pub notes_are : (op : OpPtr) → note_of (nodes t) op ≡ notes op
  pub only : OnlyNotes s t

-- whether two handles of operations are the same
abbrev pub same_op : OpPtr → OpPtr → Bool
same_op p q = (p.handle.place == q.handle.place) && (p.handle.version == q.handle.version)

-- the notes of a store after one operation's was set; a dead operation has none
abbrev pub with_note : Context → OpPtr → ℕ → OpPtr → ℕ
with_note s p note q = cond (same_op q p && is_some (operation_at (nodes s) p)) note (note_of (nodes s) q)
