-- The names that are held before and after a making. Assumes nothing.
use Rattle.std.proofs.Common.{◌≡◌, ℕ, ◌<◌, Bool, cond, List, [], ◌∷◌, length, get_or, Some, None, Option, sym, refl, ap, ◌∙◌, inl, inr}
use Rattle.std.proofs.lemmas.List.{get_or_append_left, get_or_push}
use Rattle.std.specs.Option.{option_map}
use Rattle.records.specs.declared.handles.OpPtr.{OpPtr}
use Rattle.records.specs.declared.operation.Operation.{Operation}
use Rattle.records.specs.Models.{operation_at}
use Rattle.ir.specs.declared.context.Context.{Context}
use Rattle.ir.specs.Calls.{Holding, Numbered}
use Rattle.ir.specs.Stores.{name_at, names, nodes}
use Rattle.ir.proofs.Numbering.{numbers_held}
use Rattle.histories.specs.Feeding.{named}
use Rattle.histories.specs.Represents.{entry}

held_name : (before : List (List ℕ)) (name : List ℕ) (i : ℕ) (after : List (List ℕ)) → Holding before name i after → get_or after i [] ≡ name
held_name before name i after (inl h) = ap (λ (xs : List (List ℕ)). get_or xs i []) h.1 ∙ h.0.is []
held_name before name i after (inr h) = ap (λ (xs : List (List ℕ)). get_or xs i []) h.2 ∙ get_or_push before name [] i (sym h.1)

-- the number that was given stands for the name that was given
pub new_name : (before : List (List ℕ)) (name : List ℕ) (number : Option ℕ) (after : List (List ℕ)) → Numbered before name number after → name_at after number ≡ named name
new_name before name None after h = sym (ap (λ (b : Bool). cond b (Some name) None) h.0)
new_name before name (Some i) after h = ap Some (held_name before name i after h.1) ∙ sym (ap (λ (b : Bool). cond b (Some name) None) h.0)

kept_in : (before : List (List ℕ)) (name : List ℕ) (i : ℕ) (after : List (List ℕ)) (j : ℕ) → j < length before → Holding before name i after → get_or after j [] ≡ get_or before j []
kept_in before name i after j h (inl e) = ap (λ (xs : List (List ℕ)). get_or xs j []) e.1
kept_in before name i after j h (inr e) = ap (λ (xs : List (List ℕ)). get_or xs j []) e.2 ∙ get_or_append_left before (name ∷ []) [] j h

-- a number that was given before stands for the same name
kept_name : (before : List (List ℕ)) (name : List ℕ) (number : Option ℕ) (after : List (List ℕ)) → Numbered before name number after → (j : ℕ) → j < length before → get_or after j [] ≡ get_or before j []
kept_name before name None after h j lt = ap (λ (xs : List (List ℕ)). get_or xs j []) h.1
kept_name before name (Some i) after h j lt = kept_in before name i after j lt h.1

-- a name as it was, if there is one
kept_at : (before : List (List ℕ)) (name : List ℕ) (number : Option ℕ) (after : List (List ℕ)) → Numbered before name number after → (o : Option ℕ) → ((j : ℕ) → o ≡ Some j → j < length before) → name_at after o ≡ name_at before o
kept_at before name number after h None lt = refl
kept_at before name number after h (Some j) lt = ap Some (kept_name before name number after h j (lt j refl))

entry_kept : (before after : List (List ℕ)) (o : Option Operation) → ((x : Operation) → o ≡ Some x → name_at after x.name ≡ name_at before x.name) → option_map (entry after) o ≡ option_map (entry before) o
entry_kept before after None same = refl
entry_kept before after (Some x) same = ap (λ (n : Option (List ℕ)). Some (record { kind = x.kind; name = n; regions = x.regions })) (same x refl)

-- what is written down of an operation stays right
pub entries_kept : (s : Context) (name : List ℕ) (number : Option ℕ) (after : List (List ℕ)) → Numbered (names s) name number after
    → (op : OpPtr) → option_map (entry after) (operation_at (nodes s) op) ≡ option_map (entry (names s)) (operation_at (nodes s) op)
entries_kept s name number after h op =
    entry_kept (names s) after (operation_at (nodes s) op)
    (λ x e. kept_at (names s) name number after h x.name (λ j q. (numbers_held (nodes s) (length (names s)) s.numbers).number op x j e q))
