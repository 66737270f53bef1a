-- What the line call does.
use Rattle.std.specs.Prelude.{◌≡◌, ℕ, ◌<◌, ◌≤◌, ◌⊎◌, List, length, Some, None, Ok, Err, Option, Result}
use Rattle.result.specs.declared.refusal.Refusal.{Refusal}
use Rattle.result.specs.declared.refusal.Refusal.TheVariants as refusal
use Rattle.result.specs.Rows.{Uppermost, NoRow}
use Rattle.script.specs.declared.node.Node.{Node}
use Rattle.script.specs.declared.node.Close.{Close}
use Rattle.script.specs.declared.state.State.{State}
use Rattle.script.specs.declared.tag.Tag.{Tag}
use Rattle.script.specs.declared.tag.Tag.TheVariants.{MakeOperation, MakeBlock, LinkOperation, LinkBlock, UnlinkOperation, UnlinkBlock, InsertSymbol, RemoveSymbol, EraseSymbol, EraseOperation, EraseBlock, Lookup, NearestLookup, Walk, TableWalk}
use Rattle.script.specs.declared.line.Line.{Line}
use Rattle.script.specs.declared.line.Line.TheVariants as line
use Rattle.script.specs.Prints.{Answer, refused, done, Lined}
use Rattle.script.specs.Fields.{tag_at, value_at, next_at, Cut}
use Rattle.script.specs.Sessions.{operations, blocks, regions}
use Rattle.script.specs.Tags.{code, Unlisted}
use Rattle.script.specs.Makes.{kind_in, regions_in, name_in, operation_making, operation_field_rows, block_field_rows, OperationFieldMade, BlockFieldMade}
use Rattle.script.specs.Erasings.{operation_erase_rows, block_erase_rows, OperationFieldErased, BlockFieldErased}
use Rattle.script.specs.Symbols.{symbol_insert_rows, symbol_remove_rows, SymbolFieldErased, SymbolFieldInserted, SymbolFieldRemoved}
use Rattle.script.specs.Lookups.{table_lookup_rows, nearest_table_lookup_rows, LookedUpInTable, LookedUpInNearest}
use Rattle.script.specs.Walks.{walk_rows, FieldWalked}
use Rattle.script.specs.TableWalks.{table_walk_rows, FieldTableWalked}
use Rattle.script.specs.Linkings.{operation_link_rows, block_link_rows, operation_unlink_rows, block_unlink_rows, OperationFieldLinked, BlockFieldLinked, OperationFieldUnlinked, BlockFieldUnlinked}

-- the uppermost row whose condition holds is given, and the session stays; where no condition holds, the field is done
abbrev pub Answers : List (Refusal × Type 0) → (List Node → Close → State → Type 0) → State → Answer → State → Type 0
Answers rows does s (done nodes close) t = NoRow rows × does nodes close t
Answers rows does s (refused e) t = Uppermost rows e × (t ≡ s)

-- what the code answers, with the nodes that it put into the list
abbrev pub answer_of : List Node → Result Close Refusal → Answer
answer_of nodes (Ok close) = done nodes close
answer_of nodes (Err e) = refused e

-- an operation of a kind, with so many regions and a name, is made
abbrev pub OperationRun : State → ℕ → ℕ → List ℕ → Answer → State → Type 0
OperationRun s kind regs name a t = Answers (operation_making s kind regs name) (OperationFieldMade s kind regs name) s a t

-- each tag with its rows and what it does where none fits
abbrev pub TagRun : State → Tag → List ℕ → Answer → State → Type 0
TagRun s MakeOperation v a t = Answers (operation_field_rows s v) (OperationFieldMade s (kind_in v) (regions_in v) (name_in v)) s a t
TagRun s MakeBlock v a t = Answers (block_field_rows s v) (BlockFieldMade s) s a t
TagRun s LinkOperation v a t = Answers (operation_link_rows s v) (OperationFieldLinked s v) s a t
TagRun s LinkBlock v a t = Answers (block_link_rows s v) (BlockFieldLinked s v) s a t
TagRun s UnlinkOperation v a t = Answers (operation_unlink_rows s v) (OperationFieldUnlinked s v) s a t
TagRun s UnlinkBlock v a t = Answers (block_unlink_rows s v) (BlockFieldUnlinked s v) s a t
TagRun s InsertSymbol v a t = Answers (symbol_insert_rows s v) (SymbolFieldInserted s v) s a t
TagRun s RemoveSymbol v a t = Answers (symbol_remove_rows s v) (SymbolFieldRemoved s v) s a t
TagRun s EraseSymbol v a t = Answers (symbol_remove_rows s v) (SymbolFieldErased s v) s a t
TagRun s EraseOperation v a t = Answers (operation_erase_rows s v) (OperationFieldErased s v) s a t
TagRun s EraseBlock v a t = Answers (block_erase_rows s v) (BlockFieldErased s v) s a t
TagRun s Lookup v a t = Answers (table_lookup_rows s v) (LookedUpInTable s v) s a t
TagRun s NearestLookup v a t = Answers (nearest_table_lookup_rows s v) (LookedUpInNearest s v) s a t
TagRun s Walk v a t = Answers (walk_rows s v) (FieldWalked s v) s a t
TagRun s TableWalk v a t = Answers (table_walk_rows s v) (FieldTableWalked s v) s a t

-- the byte is no tag's, and nothing is done
pub record Unknown (s : State) (b : ℕ) (a : Answer) (t : State) : Type 0 where
  pub unlisted : Unlisted b
  pub answer : a ≡ refused refusal.UnknownTag
  pub kept : t ≡ s

-- the byte is a tag's, and its field is run
pub record Known (s : State) (b : ℕ) (v : List ℕ) (a : Answer) (t : State) : Type 0 where
  pub tag : Tag
  pub coded : code tag ≡ b
  pub ran : TagRun s tag v a t

-- a field whose tag has this byte is run
unfoldable pub ByteRun : State → ℕ → List ℕ → Answer → State → Type 0
ByteRun s b v a t = Unknown s b a t ⊎ Known s b v a t

-- the field runs past the script's end: nothing is done, and the next place is the script's end
pub record CutRun (s : State) (script : List ℕ) (place : ℕ) (a : Answer) (next : ℕ) (t : State) : Type 0 where
  pub cut : Cut script place
  pub answer : a ≡ refused refusal.ScriptCut
  pub goes : next ≡ length script
  pub kept : t ≡ s

-- the field is whole, and the next place is past it
pub record WholeRun (s : State) (script : List ℕ) (place : ℕ) (a : Answer) (next : ℕ) (t : State) : Type 0 where
  pub whole : Cut script place → ⊥
  pub ran : ByteRun s (tag_at script place) (value_at script place) a t
  pub goes : next ≡ next_at script place

-- the field at a place is run
abbrev pub FieldRun : State → List ℕ → ℕ → Answer → ℕ → State → Type 0
FieldRun s script place a next t = CutRun s script place a next t ⊎ WholeRun s script place a next t

-- the condition of the first row
abbrev pub OutOfBounds : List ℕ → ℕ → List ℕ → Type 0
OutOfBounds script place out = (4096 < length script) ⊎ ((length script < place) ⊎ (length out < 8192))

-- the refusal that an answer of the line call is, if it is one: a refused field is not, since its line tells the refusal
abbrev pub refusal_of : Line → Option Refusal
refusal_of line.Bounds = Some refusal.Bounds
refusal_of line.End = None
refusal_of (line.Printed size next) = None

-- how many bytes are printed
abbrev pub length_of : Line → ℕ
length_of line.Bounds = 0
length_of line.End = 0
length_of (line.Printed size next) = size

-- where to go on, after an answer at a place
abbrev pub next_of : ℕ → Line → ℕ
next_of place line.Bounds = place
next_of place line.End = place
next_of place (line.Printed size next) = next

-- nothing is printed or done, and the place stays
pub record Still (s : State) (place : ℕ) (out : List ℕ) (r : Line) (t : State) (out' : List ℕ) : Type 0 where
  pub session : t ≡ s
  pub buffer : out' ≡ out
  pub empty : length_of r ≡ 0
  pub stays : next_of place r ≡ place

-- one field is run, and its answer stands in the buffer as a line
pub record PrintedLine (s : State) (script : List ℕ) (place : ℕ) (out : List ℕ) (r : Line) (t : State) (out' : List ℕ) : Type 0 where
  pub answer : Answer
  pub ran : FieldRun s script place answer (next_of place r) t
  pub line : Lined out place answer (length_of r) out'

-- the line call's answer, and the session and the buffer after it
abbrev pub Ran : State → List ℕ → ℕ → List ℕ → Line → State → List ℕ → Type 0
Ran s script place out line.Bounds t out' =
    OutOfBounds script place out × Still s place out line.Bounds t out'
Ran s script place out line.End t out' =
    (OutOfBounds script place out → ⊥) × (place ≡ length script) × Still s place out line.End t out'
Ran s script place out (line.Printed size next) t out' =
    (OutOfBounds script place out → ⊥) × (place < length script) × PrintedLine s script place out (line.Printed size next) t out'

-- a printed line goes on, and lies within the script and the buffer
abbrev pub Onward : List ℕ → ℕ → List ℕ → Line → Type 0
Onward script place out line.Bounds = Unit {0}
Onward script place out line.End = Unit {0}
Onward script place out (line.Printed size next) = (place < next) × (next ≤ length script) × (size ≤ 8192)

-- two runs of the line call that print the same line: one answer, one buffer, and the same handles under the same numbers
pub record Alike (r : Line) (t : State) (out : List ℕ) (q : Line) (u : State) (out' : List ℕ) : Type 0 where
  pub answer : r ≡ q
  pub buffer : out ≡ out'
  pub same_operations : operations t ≡ operations u
  pub same_blocks : blocks t ≡ blocks u
  pub same_regions : regions t ≡ regions u

-- the session, the script, the place and the buffer decide what the line call does
abbrev pub OneLine : Type 0
OneLine = (s : State) (script : List ℕ) (place : ℕ) (out : List ℕ) (r : Line) (t : State) (o : List ℕ) (q : Line) (u : State) (p : List ℕ)
    → Ran s script place out r t o → Ran s script place out q u p → Alike r t o q u p
