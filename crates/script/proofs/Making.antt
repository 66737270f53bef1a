-- What a making leaves of a session, and what it answers.
use Rattle.std.proofs.Common.{◌≡◌, ℕ, ◌+◌, ◌-◌, ◌%◌, take, drop, length-drop, ◌<◌, ◌≤◌, Bool, true, false, List, [], ◌∷◌, length, Some, None, Option, MatchOption, Ok, Err, Result, sym, refl, ap, ◌∙◌, subst, inl, inr, arith}
use Rattle.std.proofs.lemmas.List.{take_all}
use Rattle.result.specs.declared.refusal.Refusal.{Refusal}
use Rattle.std.specs.Result.{IsErrAnd}
use Rattle.result.specs.Rows.{Uppermost}
use Rattle.std.specs.Option.{option_to_list}
use Rattle.records.specs.declared.handles.BlockPtr.{BlockPtr}
use Rattle.records.specs.declared.handles.RegionPtr.{RegionPtr}
use Rattle.records.specs.declared.making.MadeOperation.{MadeOperation}
use Rattle.records.specs.Makings.{body_of}
use Rattle.records.specs.Models.{Model}
use Rattle.records.specs.Shapes.{worth}
use Rattle.records.proofs.Regions.{ptrs_long}
use Rattle.ir.specs.declared.context.Context.{Context}
use Rattle.ir.specs.Calls.{MakeOperationCall, make_operation_rows}
use Rattle.ir.specs.Stores.{nodes}
use Rattle.script.specs.declared.node.Node.{Node}
use Rattle.script.specs.declared.node.Close.{Close}
use Rattle.script.specs.declared.state.State.{State}
use Rattle.script.specs.Prints.{Answer, refused, done}
use Rattle.script.specs.declared.tag.Tag.TheVariants.{MakeOperation}
use Rattle.script.specs.Makes.{kind_in, regions_in, name_in, operation_making, NumbersOut, OperationFieldMade}
use Rattle.script.specs.Sessions.{next_block, next_region}
use Rattle.script.specs.Runs.{Answers, OperationRun, TagRun, answer_of}

-- a row on top whose condition does not hold changes nothing
pub below : (row : Refusal × Type 0) (rows : List (Refusal × Type 0)) (does : List Node → Close → State → Type 0) (s : State) (a : Answer) (t : State)
    → (row.1 → ⊥) → Answers rows does s a t → Answers (row ∷ rows) does s a t
below row rows does s (refused e) t n h = (inr (n, h.0), h.1)
below row rows does s (done nodes close) t n h = ((n, h.0), h.1)

-- a value that is long enough is run by its parts: its kind, the number of its regions, and the rest of its bytes
pub long_enough : (s : State) (value : List ℕ) (a : Answer) (t : State) → 2 ≤ length value
    → OperationRun s (kind_in value) (regions_in value) (take (length value - 2) (drop 2 value)) a t → TagRun s MakeOperation value a t
long_enough s value a t long h =
    below _ (operation_making s (kind_in value) (regions_in value) (name_in value)) (OperationFieldMade s (kind_in value) (regions_in value) (name_in value)) s a t (λ short. omega arith)
    (subst (λ (n : List ℕ). OperationRun s (kind_in value) (regions_in value) n a t) (take_all (length value - 2) (drop 2 value) (simp length-drop (omega arith))) h)

-- an odd kind is a table's
odd : (t s x : Bool) → (worth 1 t + worth 2 s + worth 4 x) % 2 ≡ worth 1 t
odd true true true = refl
odd true true false = refl
odd true false true = refl
odd true false false = refl
odd false true true = refl
odd false true false = refl
odd false false true = refl
odd false false false = refl

-- a table has a body
bodies : (table : Bool) (m : Model) → length (option_to_list (body_of table m)) ≡ worth 1 table
bodies true m = refl
bodies false m = refl

-- a handle that may be there, as a slice of it
as_many : {T : Type 0} (o : Option T) (xs : List T) → MatchOption o (xs ≡ []) (λ x. xs ≡ x ∷ []) → length xs ≡ length (option_to_list o)
as_many None xs is = ap length is
as_many (Some x) xs is = ap length is

-- there is a number for the body that was made with an operation
pub body_left : (s : State) (kind regs : ℕ) (name : List ℕ) (made : MadeOperation) (t : Context) (body : List BlockPtr)
    → (NumbersOut s kind regs name → ⊥) → MakeOperationCall s.context kind regs name (Ok made) t
    → MatchOption made.body (body ≡ []) (λ b. body ≡ b ∷ [])
    → next_block s + length body ≤ 512
body_left s kind regs name made t body room answered is =
    let o = answered.1 in
    let many : length (option_to_list made.body) ≡ kind % 2 =
    ap (λ (m : MadeOperation). length (option_to_list m.body)) o.answer
    ∙ bodies o.is.table (nodes s.context)
    ∙ sym (odd o.is.table o.is.symbol o.is.terminator)
    ∙ ap (λ n. n % 2) o.sum in
    let blocks : 512 < next_block s + kind % 2 → ⊥ = λ h. room (answered.0.0, inr (inl h)) in
    omega (arith, as_many made.body body is)

-- there are numbers for the regions that were made with an operation
pub regions_left : (s : State) (kind regs : ℕ) (name : List ℕ) (made : MadeOperation) (t : Context) (own : List RegionPtr)
    → (NumbersOut s kind regs name → ⊥) → MakeOperationCall s.context kind regs name (Ok made) t → own ≡ made.regions
    → next_region s + length own ≤ 512
regions_left s kind regs name made t own room answered is =
    let o = answered.1 in
    let many : length made.regions ≡ regs = ap (λ (m : MadeOperation). length m.regions) o.answer ∙ ptrs_long _ _ _ regs in
    let left : 512 < next_region s + regs → ⊥ = λ h. room (answered.0.0, inr (inr h)) in
    let same : length own ≡ length made.regions = ap length is in
    omega arith

-- an operation is refused as the store refuses it where there are numbers for it
pub making_refused : (s u : State) (kind regs : ℕ) (name : List ℕ) (e : Refusal) (shown : List Node) (r : Result Close Refusal) → (NumbersOut s kind regs name → ⊥)
    → Uppermost (make_operation_rows s.context kind regs name) e → u ≡ s → IsErrAnd r (λ f. f ≡ e) → OperationRun s kind regs name (answer_of shown r) u
making_refused s u kind regs name e shown (Ok x) room h same err = absurd err
making_refused s u kind regs name e shown (Err f) room h same err = (subst (λ g. Uppermost (operation_making s kind regs name) g) (sym err) (inr (room, h)), same)
