-- Which bytes pass as a name, and which are refused. Assumes nothing.
use Rattle.std.proofs.Common.{◌≡◌, ℕ, suc, ◌<◌, ◌≤◌, ◌==◌, ◌||◌, Bool, true, false, ◌⊎◌, List, [], ◌∷◌, length, Ok, Err, Result, sym, refl, ap, ◌∙◌, inl, inr, slice_index_or, arith}
use Rattle.std.specs.List.{All}
use Rattle.std.specs.Cmp.Derive.{both_true}
use Rattle.std.proofs.lemmas.Bool.{le-leb, lt-ltb, or_left, or_right}
use Rattle.std.proofs.lemmas.List.Sums.{list_all-from_AllPass}
use Rattle.result.specs.declared.refusal.Refusal.{Refusal}
use Rattle.result.specs.declared.refusal.Refusal.TheVariants.{MalformedIdentifier, NamesFull, NameTooLong, RecordsFull}
use Rattle.result.specs.Rows.{NoRow, Uppermost}
use Rattle.result.proofs.Rows.{no_row, one_row}
use Rattle.identifier.specs.declared.identifier.Identifier.{Identifier}
use Rattle.identifier.specs.Identifiers.{Named, name_rows, text}
use Rattle.identifier.specs.Names.{between, continues, digit, starts, valid_name}
use Rattle.records.specs.declared.handles.OpPtr.{OpPtr}
use Rattle.records.specs.declared.kind.Kind.{Kind}
use Rattle.records.specs.declared.operation.Operation.{Operation}
use Rattle.records.specs.Models.{Model}
use Rattle.records.specs.Nodes.{is_table}
use Rattle.records.specs.Shapes.{Misshapen}
use Rattle.records.specs.Views.{op_links}
use Rattle.records.proofs.Sums.{one_kind}
use Rattle.forest.proofs.Listed.{clash}
use Rattle.symbol_table.proofs.Growing.{is_live_op}
use Rattle.ir.specs.declared.context.Context.{Context}
use Rattle.ir.specs.Calls.{OperationMade, given, make_operation_rows}
use Rattle.ir.specs.Stores.{nodes}
use Rattle.ir.specs.Tables.{Found, FoundNearest, lookup_rows, nearest_lookup_rows}
use Rattle.edges.specs.Names.{Letter, PassingName, RefusedName}
use Rattle.edges.proofs.Rows.{passed, refused}

-- a handle at which a table stands is live
table_live : (m : Model) (t : OpPtr) → is_table m t ≡ true → (op_links m).live t ≡ true
table_live m t i = is_live_op m (λ (o : Operation). o.kind.table) t i

-- bytes that are a valid name, or any at all, are given
some_given : (bytes : List ℕ) → 0 < length bytes → given bytes ≡ true
some_given bytes l = lt-ltb 0 (length bytes) l

valid_given : (bytes : List ℕ) → (valid_name bytes ≡ false → ⊥) → given bytes ≡ true
valid_given [] h = absurd (h refl)
valid_given (b ∷ bs) h = some_given (b ∷ bs) (omega arith)

-- a symbol with up to four regions and with a name has a good shape
shaped : (regions : ℕ) (named : Bool) → named ≡ true → regions ≤ 4 → Misshapen 2 regions named → ⊥
shaped regions named g few (inl over) = omega arith
shaped regions named g few (inr (inl many)) = omega arith
shaped regions named g few (inr (inr h)) = elim h.2 [
  | inl bad ↦ clash (sym (bad.0) ∙ ap (λ (k : Kind). k.table) (one_kind h.0 (record { table = false; symbol = true; terminator = false }) h.1))
  | inr bad ↦ bad (ap (λ (k : Kind). k.symbol) (one_kind h.0 (record { table = false; symbol = true; terminator = false }) h.1) ∙ sym g)
]

-- what refuses a name refuses a symbol of that name, and else only want of room does
module _ (s : Context) (regions : ℕ) (bytes : List ℕ) (few : regions ≤ 4) (g : given bytes ≡ true) where
  also_made : (e : Refusal) → Uppermost (name_rows bytes) e → Uppermost (make_operation_rows s 2 regions bytes) e
  also_made e (inl h) = inr (shaped regions (given bytes) g few, inl h)
  also_made e (inr (n, inl h)) = inr (shaped regions (given bytes) g few, inr (n, inl (h.0, (g, h.1))))
  also_made e (inr (n, inr (m, none))) = absurd none

  only_room : NoRow (name_rows bytes) → (e : Refusal) → Uppermost (make_operation_rows s 2 regions bytes) e → (e ≡ NamesFull) ⊎ (e ≡ RecordsFull)
  only_room w e (inl h) = absurd (shaped regions (given bytes) g few h.1)
  only_room w e (inr (_, inl h)) = absurd (w.0 h.1)
  only_room w e (inr (_, inr (_, inl h))) = absurd (w.1.0 h.1.1)
  only_room w e (inr (_, inr (_, inr (_, inl h)))) = inl h.0
  only_room w e (inr (_, inr (_, inr (_, inr (_, inl h))))) = inr h.0
  only_room w e (inr (_, inr (_, inr (_, inr (_, inr (_, none)))))) = absurd none

module _ (bytes : List ℕ) where
  identifier_refused : (e : Refusal) → Uppermost (name_rows bytes) e → (r : Result Identifier Refusal) → Named bytes r → r ≡ Err e
  identifier_refused e u (Ok n) h = absurd (no_row (name_rows bytes) e h.0 u)
  identifier_refused e u (Err f) h = ap Err (one_row (name_rows bytes) f e h u)

  identifier_passed : NoRow (name_rows bytes) → (r : Result Identifier Refusal) → Named bytes r → (n : Identifier) × (r ≡ Ok n) × (text n ≡ bytes)
  identifier_passed w (Ok n) h = (n, refl, h.1)
  identifier_passed w (Err e) h = absurd (no_row (name_rows bytes) e w h)

  -- a refusal of the name is one of each lookup
  pub refused_name : (e : Refusal) → Uppermost (name_rows bytes) e → RefusedName bytes e
  refused_name e u = record {
    as_identifier = identifier_refused e u;
    in_a_table = λ s t r i a.
        (refused (lookup_rows (nodes s) t bytes) (λ x v. Found s t bytes x) s r s e
        (inr ((λ d. clash (sym (table_live (nodes s) t i) ∙ d)), inr ((λ d. clash (sym i ∙ d)), u))) a).0;
    in_the_nearest_table = λ s op r l a.
        (refused (nearest_lookup_rows (nodes s) op bytes) (λ x v. FoundNearest s op bytes x) s r s e (inr ((λ d. clash (sym l ∙ d)), u)) a).0;
    in_a_making = λ s t regions r some few a.
        refused (make_operation_rows s 2 regions bytes) (λ x v. OperationMade s 2 regions bytes x v) s r t e (also_made s regions bytes few (some_given bytes some) e u) a;
  }

  -- and a name that passes is looked up
  pub passing_name : NoRow (name_rows bytes) → PassingName bytes
  passing_name w = record {
    as_identifier = identifier_passed w;
    in_a_table = λ s t r i a.
        passed (lookup_rows (nodes s) t bytes) (λ x v. Found s t bytes x) s r s ((λ d. clash (sym (table_live (nodes s) t i) ∙ d)), ((λ d. clash (sym i ∙ d)), w)) a;
    in_the_nearest_table = λ s op r l a.
        passed (nearest_lookup_rows (nodes s) op bytes) (λ x v. FoundNearest s op bytes x) s r s ((λ d. clash (sym l ∙ d)), w) a;
    in_a_making = λ s t regions e few a. only_room s regions bytes few (valid_given bytes w.1.0) w e a.0;
  }

  -- few bytes that are no valid name
  pub malformed : (32 < length bytes → ⊥) → valid_name bytes ≡ false → RefusedName bytes MalformedIdentifier
  malformed short e = refused_name MalformedIdentifier (inr (short, inl (refl, e)))

  pub too_long : length bytes ≡ 33 → RefusedName bytes NameTooLong
  too_long e = refused_name NameTooLong (inl (refl, omega arith))

-- a letter may begin a name, and go on with one
letter_starts : (b : ℕ) → Letter b → starts b ≡ true
letter_starts b (inl h) = or_left (between 65 b 90) (between 97 b 122 || b == 95) (both_true (le-leb 65 b h.0) (le-leb b 90 h.1))
letter_starts b (inr h) = or_right (between 65 b 90) (between 97 b 122 || b == 95) (or_left (between 97 b 122) (b == 95) (both_true (le-leb 97 b h.0) (le-leb b 122 h.1)))

letter_continues : (b : ℕ) → Letter b → continues b ≡ true
letter_continues b h = or_left (starts b) (digit b) (letter_starts b h)

letters_valid : (bytes : List ℕ) → 0 < length bytes → All Letter bytes → valid_name bytes ≡ true
letters_valid [] lt h = absurd (omega arith)
letters_valid (b ∷ bs) lt h =
    both_true (letter_starts b (h 0 0 lt))
    (list_all-from_AllPass continues bs (λ k d l. letter_continues (slice_index_or bs k d) (h (suc k) d (omega arith))))

pub letters_pass : (bytes : List ℕ) → length bytes ≡ 32 → All Letter bytes → PassingName bytes
letters_pass bytes e h = passing_name bytes ((λ l. omega arith), ((λ f. clash (sym (letters_valid bytes (omega arith) h) ∙ f)), tt))
