-- From what the tests of a making answer to its rows. Assumes nothing.
use Rattle.std.proofs.Common.{◌≡◌, ℕ, ◌<◌, Bool, true, false, List, length, is_some, Some, None, Ok, Option, sym, refl, ap, ◌∙◌, subst, inl, inr, arith}
use Rattle.std.proofs.lemmas.Bool.{ltb-false}
use Rattle.records.specs.declared.kind.Kind.{Kind}
use Rattle.records.specs.declared.making.MadeOperation.{MadeOperation}
use Rattle.records.specs.declared.shape.Shape.{Shape}
use Rattle.records.specs.Makings.{Roomy, operation_made, with_operation}
use Rattle.records.specs.Shapes.{Shaped, kind_sum}
use Rattle.records.proofs.Sums.{one_kind}
use Rattle.identifier.specs.declared.identifier.Identifier.{Identifier}
use Rattle.names.specs.Places.{Absent}
use Rattle.result.specs.declared.refusal.Refusal.{Refusal}
use Rattle.result.specs.declared.refusal.Refusal.TheVariants.{NamesFull, RecordsFull}
use Rattle.result.specs.Rows.{NoRow, Uppermost}
use Rattle.ir.specs.declared.context.Context.{Context}
use Rattle.ir.specs.declared.making.Admitted.{Admitted}
use Rattle.ir.specs.Calls.{Holding, Malformed, NoNumber, Numbered, OperationMade, TooFew, given, make_operation_rows}
use Rattle.ir.specs.Steps.{AdmittedFor, AdmittedMade, Full, NumberGiven, Optional}
use Rattle.ir.specs.Stores.{names, nodes}

clash : true ≡ false → ⊥
clash e = let z : ◌≡◌ {A = ℕ} 0 1 = cc in omega arith

-- truth values that cannot differ are equal
unless_not : (a b : Bool) → ((a ≡ b → ⊥) → ⊥) → a ≡ b
unless_not true true h = refl
unless_not true false h = absurd (h clash)
unless_not false true h = absurd (h (λ e. clash (sym e)))
unless_not false false h = refl

-- there is an identifier exactly where a name is given
given_some : (name : List ℕ) (id : Option Identifier) → Optional name (Ok id) → given name ≡ is_some id
given_some name None h = h
given_some name (Some n) h = h.0

not_long : (name : List ℕ) (id : Option Identifier) → Optional name (Ok id) → 32 < length name → ⊥
not_long name None h l = let z = ltb-false 0 (length name) h in omega arith
not_long name (Some n) h l = h.1.0 l

not_malformed : (name : List ℕ) (id : Option Identifier) → Optional name (Ok id) → Malformed name → ⊥
not_malformed name None h l = clash (sym l.0 ∙ h)
not_malformed name (Some n) h l = h.1.1.0 l.1

no_number : (held : List (List ℕ)) (name : List ℕ) (id : Option Identifier) → Optional name (Ok id) → Full held id → NoNumber held name
no_number held name None h f = absurd f
no_number held name (Some n) h f = (h.0, subst (Absent held) h.2 f.0, f.1)

has_number : (held : List (List ℕ)) (name : List ℕ) (id : Option Identifier) → Optional name (Ok id) → (Full held id → ⊥) → NoNumber held name → ⊥
has_number held name None h f l = clash (sym l.0 ∙ h)
has_number held name (Some n) h f l = f (subst (Absent held) (sym h.2) l.1, l.2)

too_few : (s : Context) (kind regions : ℕ) (shape : Shape) → kind_sum shape.kind ≡ kind → shape.count ≡ regions → (Roomy shape.kind shape.count (nodes s) → ⊥) → TooFew s kind regions
too_few s kind regions shape k c lack = record { is = shape.kind; sum = k; lack = λ r. lack (subst (λ (n : ℕ). Roomy shape.kind n (nodes s)) (sym c) r) }

enough : (s : Context) (kind regions : ℕ) (shape : Shape) → kind_sum shape.kind ≡ kind → shape.count ≡ regions → Roomy shape.kind shape.count (nodes s) → TooFew s kind regions → ⊥
enough s kind regions shape k c r few =
    let same : shape.kind ≡ few.is = one_kind shape.kind few.is (k ∙ sym few.sum) in
    few.lack (subst (λ (j : Kind). Roomy j regions (nodes s)) same (subst (λ (n : ℕ). Roomy shape.kind n (nodes s)) c r))

numbered_by : (before : List (List ℕ)) (name : List ℕ) (after : List (List ℕ)) (id : Option Identifier) (number : Option ℕ) → Optional name (Ok id) → NumberGiven before id number after → Numbered before name number after
numbered_by before name after None None h g = (h, g.1)
numbered_by before name after None (Some i) h g = let e = g.0 in let z : ◌≡◌ {A = ℕ} 0 1 = cc in absurd (omega arith)
numbered_by before name after (Some n) None h g = absurd g
numbered_by before name after (Some n) (Some i) h g = (h.0, subst (λ (x : List ℕ). Holding before x i after) h.2 g)

-- what is known once the shape and the name have passed
pub record Passed (s : Context) (kind regions : ℕ) (name : List ℕ) (shape : Shape) (id : Option Identifier) : Type 0 where
  pub shaped : Shaped kind regions (given name) (Some shape)
  pub optional : Optional name (Ok id)

module _ (s : Context) (kind regions : ℕ) (name : List ℕ) (shape : Shape) (id : Option Identifier) (p : Passed s kind regions name shape id) where
  long : 32 < length name → ⊥
  long = not_long name id p.optional

  malformed : Malformed name → ⊥
  malformed = not_malformed name id p.optional

  pub names_full : (e : Refusal) → e ≡ NamesFull → Full (names s) id → Uppermost (make_operation_rows s kind regions name) e
  names_full e z f = inr (p.shaped.0, inr (long, inr (malformed, inl (z, no_number (names s) name id p.optional f))))

  pub records_full : (e : Refusal) → e ≡ RecordsFull → (Full (names s) id → ⊥) → (Roomy shape.kind shape.count (nodes s) → ⊥) → Uppermost (make_operation_rows s kind regions name) e
  records_full e z f r =
      inr (p.shaped.0, inr (long, inr (malformed, inr (has_number (names s) name id p.optional f, inl (z, too_few s kind regions shape p.shaped.1 p.shaped.2 r)))))

module _ (s : Context) (kind regions : ℕ) (name : List ℕ) (a : Admitted) (p : AdmittedFor s kind regions name a) where
  pub none_fits : NoRow (make_operation_rows s kind regions name)
  none_fits = (
    p.shaped.0,
    (
      not_long name a.name p.optional,
      (
        not_malformed name a.name p.optional,
        (
          has_number (names s) name a.name p.optional p.holds,
          (enough s kind regions a.shape p.shaped.1 p.shaped.2 p.roomy, tt),
        ),
      ),
    ),
  )

  pub made_all : (r : MadeOperation) (t : Context) → AdmittedMade s a r t → OperationMade s kind regions name r t
  made_all r t m = record {
    is = a.shape.kind;
    sum = p.shaped.1;
    number = m.number;
    named = numbered_by (names s) name (names t) a.name m.number p.optional m.named;
    answer = m.answer ∙ ap (λ (n : ℕ). operation_made a.shape.kind n (nodes s)) p.shaped.2;
    after = m.after ∙ ap (λ (n : ℕ). with_operation a.shape.kind m.number n (nodes s)) p.shaped.2;
    kept = m.kept;
    mapped = m.mapped;
  }

  -- a symbol is made exactly where a name was given
  pub symbol_named : a.shape.kind.symbol ≡ is_some a.name
  symbol_named = unless_not _ _ (λ bad. p.shaped.0 (inr (inr (a.shape.kind, p.shaped.1, inr bad)))) ∙ given_some name a.name p.optional
