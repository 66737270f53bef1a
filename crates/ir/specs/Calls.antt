-- What each call on a store does: its refusals in the order in which they are tested, and else its answer and the store after.
use Rattle.std.specs.Prelude.{◌≡◌, ℕ, ◌<◌, Bool, true, false, ◌⊎◌, List, [], ◌∷◌, ◌++◌, length, Some, None, Option, Result, nat_lt}
use Rattle.arena.specs.Pools.{room}
use Rattle.arena.specs.Shelves.{item}
use Rattle.std.specs.Option.{option_map}
use Rattle.records.specs.declared.handles.BlockPtr.{BlockPtr}
use Rattle.records.specs.declared.handles.OpPtr.{OpPtr}
use Rattle.records.specs.declared.handles.RegionPtr.{RegionPtr}
use Rattle.records.specs.declared.kind.Kind.{Kind}
use Rattle.records.specs.declared.making.MadeOperation.{MadeOperation}
use Rattle.records.specs.declared.operation.Operation.{Operation}
use Rattle.records.specs.Models.{operation_at}
use Rattle.forest.specs.Calls.{BlockMade, Noted}
use Rattle.records.specs.Makings.{AllKept, Roomy, operation_made, with_operation}
use Rattle.records.specs.Shapes.{Misshapen, kind_sum}
use Rattle.identifier.specs.declared.identifier.Identifier.{Identifier}
use Rattle.identifier.specs.Identifiers.{text}
use Rattle.identifier.specs.Names.{valid_name}
use Rattle.names.specs.Places.{Absent, Stands}
use Rattle.result.specs.declared.refusal.Refusal.{Refusal}
use Rattle.result.specs.declared.refusal.Refusal.TheVariants.{BadShape, Dangling, MalformedIdentifier, NamesFull, NameTooLong, RecordsFull}
use Rattle.result.specs.Rows.{Answered}
use Rattle.ir.specs.declared.context.Context.{Context}
use Rattle.ir.specs.Stores.{mappings, name_of, names, nodes}

-- a name of no bytes is no name
abbrev pub given : List ℕ → Bool
given name = nat_lt 0 (length name)

-- the bytes given are no valid name
abbrev pub Malformed : List ℕ → Type 0
Malformed name = (given name ≡ true) × (valid_name name ≡ false)

-- a name that is not held where 256 are held
abbrev pub NoNumber : List (List ℕ) → List ℕ → Type 0
NoNumber held name = (given name ≡ true) × Absent held name × (length held ≡ 256)

-- too few records are free for an operation of this kind with its regions and its body
pub record TooFew (s : Context) (kind regions : ℕ) : Type 0 where
  pub is : Kind
  pub sum : kind_sum is ≡ kind
  pub lack : Roomy is regions (nodes s) → ⊥

-- the refusals of a making, uppermost first
abbrev pub make_operation_rows : Context → ℕ → ℕ → List ℕ → List (Refusal × Type 0)
make_operation_rows s kind regions name =
    (BadShape, Misshapen kind regions (given name))
    ∷ (NameTooLong, 32 < length name)
    ∷ (MalformedIdentifier, Malformed name)
    ∷ (NamesFull, NoNumber (names s) name)
    ∷ (RecordsFull, TooFew s kind regions)
    ∷ []

-- a name that was held keeps its number; a new one comes after all others
abbrev pub Holding : List (List ℕ) → List ℕ → ℕ → List (List ℕ) → Type 0
Holding before name number after =
    (Stands before number name × (after ≡ before)) ⊎ (Absent before name × (number ≡ length before) × (after ≡ before ++ name ∷ []))

-- the number of the name given, and the names held after; where none is given there is no number, and they stay
abbrev pub Numbered : List (List ℕ) → List ℕ → Option ℕ → List (List ℕ) → Type 0
Numbered before name None after = (given name ≡ false) × (after ≡ before)
Numbered before name (Some number) after = (given name ≡ true) × Holding before name number after

-- the operation, its regions and, for a table, its body are made; the name is held; every live node and all mappings stay as they were
pub record OperationMade (s : Context) (kind regions : ℕ) (name : List ℕ) (r : MadeOperation) (t : Context) : Type 0 where
  pub is : Kind
  pub sum : kind_sum is ≡ kind
  pub number : Option ℕ
  pub named : Numbered (names s) name number (names t)
  pub answer : r ≡ operation_made is regions (nodes s)
  pub after : nodes t ≡ with_operation is number regions (nodes s)
  pub kept : AllKept (nodes s) (nodes t)
  pub mapped : mappings t ≡ mappings s

-- making an operation of a kind, with so many regions and a name
abbrev pub MakeOperationCall : Context → ℕ → ℕ → List ℕ → Result MadeOperation Refusal → Context → Type 0
MakeOperationCall s kind regions name r t = Answered (make_operation_rows s kind regions name) (OperationMade s kind regions name) s r t

-- the refusals of making a block
abbrev pub make_block_rows : Context → List (Refusal × Type 0)
make_block_rows s = (RecordsFull, room (nodes s).blocks.pool ≡ 0) ∷ []

-- a block in no region is made; names, mappings and every live node stay
pub record NewBlock (s : Context) (r : BlockPtr) (t : Context) : Type 0 where
  pub made : BlockMade s.tables.forest r t.tables.forest
  pub held : names t ≡ names s
  pub mapped : mappings t ≡ mappings s

-- making a block
abbrev pub MakeBlockCall : Context → Result BlockPtr Refusal → Context → Type 0
MakeBlockCall s r t = Answered (make_block_rows s) (NewBlock s) s r t

-- the handle names no live operation
abbrev pub operation_rows : Context → OpPtr → List (Refusal × Type 0)
operation_rows s op = (Dangling, operation_at (nodes s) op ≡ None) ∷ []

-- a part of a live operation's record; the store stays
abbrev pub Reads : {X : Type 0} → Context → OpPtr → (Operation → X) → Result X Refusal → Type 0
Reads s op part r = Answered (operation_rows s op) (λ x t. option_map part (operation_at (nodes s) op) ≡ Some x) s r s

-- reading an operation's kind, and its note
abbrev pub KindRead : Context → OpPtr → Result Kind Refusal → Type 0
KindRead s op r = Reads s op (λ o. o.kind) r

abbrev pub NoteRead : Context → OpPtr → Result ℕ Refusal → Type 0
NoteRead s op r = Reads s op (λ o. o.note) r

-- how many regions the operation has
abbrev pub NumRegions : Context → OpPtr → Result ℕ Refusal → Type 0
NumRegions s op r = Reads s op (λ o. length o.regions) r

-- the region at an index, counted from 0, or none past the last
abbrev pub region_nth : ℕ → Operation → Option RegionPtr
region_nth index o = item o.regions index

-- reading an operation's region
abbrev pub RegionRead : Context → OpPtr → ℕ → Result (Option RegionPtr) Refusal → Type 0
RegionRead s op index r = Reads s op (region_nth index) r

-- the name of the operation as it is held, or none
abbrev pub NameRead : Context → OpPtr → Result (Option Identifier) Refusal → Type 0
NameRead s op r = Answered (operation_rows s op) (λ x t. option_map (name_of (names s)) (operation_at (nodes s) op) ≡ Some (option_map text x)) s r s

-- the operation has the note; all else in the store stays
pub record NoteSet (s : Context) (op : OpPtr) (note : ℕ) (t : Context) : Type 0 where
  pub noted : Noted s.tables.forest op note t.tables.forest
  pub held : names t ≡ names s
  pub mapped : mappings t ≡ mappings s

-- setting an operation's note
abbrev pub SetNoteCall : Context → OpPtr → ℕ → Result (Unit {0}) Refusal → Context → Type 0
SetNoteCall s op note r t = Answered (operation_rows s op) (λ _ t. NoteSet s op note t) s r t
