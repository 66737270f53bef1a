-- What the fields that link nodes answer, once their values are read.
use Rattle.std.proofs.Common.{◌≡◌, ℕ, List, [], Some, None, Option, Ok, Err, Result, sym, refl, ap, ◌∙◌, subst, inl, inr, slice_index}
use Rattle.std.specs.List.{slice_get}
use Rattle.std.specs.Result.{IsErrAnd}
use Rattle.std.specs.Option.{ok_or, option_flatten, option_map, option_zip}
use Rattle.result.specs.declared.refusal.Refusal.{Refusal}
use Rattle.result.specs.declared.refusal.Refusal.TheVariants.{BadOrdinal}
use Rattle.result.specs.Rows.{NoRow, Uppermost}
use Rattle.linked_list.specs.declared.spot.Spot.{Spot}
use Rattle.records.specs.declared.handles.OpPtr.{OpPtr}
use Rattle.symbol_table.specs.declared.op_insertion_point.OpInsertionPoint.{OpInsertionPoint}
use Rattle.ir.specs.declared.context.Context.{Context}
use Rattle.script.specs.declared.node.Node.{Node}
use Rattle.script.specs.declared.node.Close.{Close}
use Rattle.script.specs.declared.node.Close.TheVariants.{Nothing}
use Rattle.script.specs.declared.state.State.{State}
use Rattle.script.specs.Prints.{done}
use Rattle.script.specs.Fields.{number_at}
use Rattle.script.specs.Sessions.{operations, blocks, regions}
use Rattle.script.specs.Linkings.{Edited, edit_rows, rows_of, link_named, spot_asked, spot_given}
use Rattle.script.specs.Symbols.{insert_given, insert_named, pair_given, pair_named}
use Rattle.script.specs.Runs.{Answers, answer_of}

pub there : {A : Type 0} (o : Option A) (a : A) → Ok a ≡ ok_or o BadOrdinal → o ≡ Some a
there None a h = cc
there (Some b) a h = cc

-- what was found for the numbers of a value is what the value names
pub named : {N C : Type 0} (inner : List N) (outer : List C) (value : List ℕ) (node : ℕ) (spot : Spot ℕ ℕ) (found : N × Spot N C) → node ≡ number_at value 1 → spot_asked value ≡ Some spot
    → Ok found ≡ ok_or (option_zip (slice_get inner node) (spot_given inner outer spot)) BadOrdinal → link_named inner outer value ≡ Some found
named inner outer value node spot found n p h =
    ap (λ o. option_zip (slice_get inner (number_at value 1)) (option_flatten (option_map (spot_given inner outer) o))) p
    ∙ ap (λ k. option_zip (slice_get inner k) (spot_given inner outer spot)) (sym n)
    ∙ there _ found h

pub missing : {A : Type 0} (o : Option A) (e : Refusal) → Err e ≡ ok_or o BadOrdinal → (o ≡ None) × (e ≡ BadOrdinal)
missing None e h = (refl, cc)
missing (Some b) e h = absurd (cc)

-- where a number of a value was not given, the value names nothing
pub unnamed : {N C : Type 0} (inner : List N) (outer : List C) (value : List ℕ) (node : ℕ) (spot : Spot ℕ ℕ) (e : Refusal) → node ≡ number_at value 1 → spot_asked value ≡ Some spot
    → Err e ≡ ok_or (option_zip (slice_get inner node) (spot_given inner outer spot)) BadOrdinal → (link_named inner outer value ≡ None) × (e ≡ BadOrdinal)
unnamed inner outer value node spot e n p h =
    let w = missing _ e h in (
      ap (λ o. option_zip (slice_get inner (number_at value 1)) (option_flatten (option_map (spot_given inner outer) o))) p
          ∙ ap (λ k. option_zip (slice_get inner k) (spot_given inner outer spot)) (sym n)
          ∙ w.0,
      w.1,
    )

-- the first of two was found, and the second was not
pub second_missing : {A B : Type 0} (o : Option A) (p : Option B) (a : A) (e : Refusal) (r : Result (A × B) Refusal) → Ok a ≡ ok_or o BadOrdinal → Err e ≡ ok_or p BadOrdinal → IsErrAnd r (λ f. f ≡ e) → r ≡ ok_or (option_zip o p) BadOrdinal
second_missing None p a e r h k err = absurd (cc)
second_missing (Some b) (Some c) a e r h k err = absurd (cc)
second_missing (Some b) None a e (Ok x) h k err = absurd err
second_missing {A} {B} (Some b) None a e (Err f) h k err = let p : Option B = None in ap Err (err ∙ (missing p e k).1)

-- what was found for the numbers of a table and an operation is what the value names
pub pair_is : (s : State) (value : List ℕ) (table op : ℕ) (found : OpPtr × OpPtr) → table ≡ number_at value 0 → op ≡ number_at value 2 → Ok found ≡ ok_or (pair_given s table op) BadOrdinal → pair_named s value ≡ Some found
pair_is s value table op found t o h =
    ap (λ k. pair_given s k (number_at value 2)) (sym t) ∙ ap (λ k. pair_given s table k) (sym o) ∙ there _ found h

-- the same with a point
module _ (s : State) (value : List ℕ) (table op how node : ℕ) (t : table ≡ number_at value 0) (o : op ≡ number_at value 2) (w : how ≡ slice_index value 4) (n : node ≡ number_at value 5) where
  insert_read : insert_named s value ≡ insert_given s table op how node
  insert_read =
      ap (λ k. insert_given s k (number_at value 2) (slice_index value 4) (number_at value 5)) (sym t)
      ∙ ap (λ k. insert_given s table k (slice_index value 4) (number_at value 5)) (sym o)
      ∙ ap (λ k. insert_given s table op k (number_at value 5)) (sym w)
      ∙ ap (λ k. insert_given s table op how k) (sym n)

  pub insert_is : (found : (OpPtr × OpPtr) × Option OpInsertionPoint) → Ok found ≡ ok_or (insert_given s table op how node) BadOrdinal → insert_named s value ≡ Some found
  insert_is found h = insert_read ∙ there _ found h

  pub insert_is_none : (e : Refusal) → Err e ≡ ok_or (insert_given s table op how node) BadOrdinal → (insert_named s value ≡ None) × (e ≡ BadOrdinal)
  insert_is_none e h = let w = missing _ e h in (insert_read ∙ w.0, w.1)

something : {A : Type 0} (o : Option A) (a : A) → o ≡ Some a → o ≡ None → ⊥
something o a is none = cc

-- a field whose value names something is refused as the store's call is
pub edit_refused : {A : Type 0} (bad : Type 0) (o : Option A) (a : A) (rows : A → List (Refusal × Type 0)) (does : List Node → Close → State → Type 0) (s u : State) (e : Refusal) (shown : List Node) (r : Result Close Refusal)
    → (bad → ⊥) → o ≡ Some a → Uppermost (rows a) e → u ≡ s → IsErrAnd r (λ f. f ≡ e) → Answers (edit_rows bad o rows) does s (answer_of shown r) u
edit_refused bad o a rows does s u e shown (Ok x) good is h same err = absurd err
edit_refused bad o a rows does s u e shown (Err f) good is h same err =
    let row : Uppermost (edit_rows bad o rows) e = inr (good, inr (something o a is, subst (λ p. Uppermost (rows_of p rows) e) (sym is) h)) in
    (subst (λ g. Uppermost (edit_rows bad o rows) g) (sym err) row, same)

-- and else is done
pub edit_done : {A : Type 0} (bad : Type 0) (o : Option A) (a : A) (rows : A → List (Refusal × Type 0)) (call : A → Result (Unit {0}) Refusal → Context → Type 0) (s u : State) (shown : List Node)
    → (bad → ⊥) → o ≡ Some a → NoRow (rows a) → call a (Ok tt) u.context → operations u ≡ operations s → blocks u ≡ blocks s → regions u ≡ regions s → shown ≡ [] → Answers (edit_rows bad o rows) (Edited o call s) s (done shown Nothing) u
edit_done bad o a rows call s u shown good is none stored ops bls regs blank = (
  (good, (something o a is, subst (λ p. NoRow (rows_of p rows)) (sym is) none)),
  record {
    what = a;
    names = is;
    stored = stored;
    operations_stay = ops;
    blocks_stay = bls;
    regions_stay = regs;
    none_shown = blank;
    closed = refl;
  },
)

-- a field whose value names nothing is refused
pub edit_unnamed : {A : Type 0} (bad : Type 0) (o : Option A) (rows : A → List (Refusal × Type 0)) (does : List Node → Close → State → Type 0) (s u : State) (e : Refusal) (shown : List Node) (r : Result Close Refusal)
    → (bad → ⊥) → (o ≡ None) × (e ≡ BadOrdinal) → u ≡ s → IsErrAnd r (λ f. f ≡ e) → Answers (edit_rows bad o rows) does s (answer_of shown r) u
edit_unnamed bad o rows does s u e shown (Ok x) good none same err = absurd err
edit_unnamed bad o rows does s u e shown (Err f) good none same err = (inr (good, inl (err ∙ none.1, none.0)), same)
