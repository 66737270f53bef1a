-- What the inner steps of a making answer.
use Rattle.std.specs.Prelude.{◌≡◌, ℕ, true, false, List, length, Some, None, Ok, Err, Option, Result}
use Rattle.records.specs.declared.making.MadeOperation.{MadeOperation}
use Rattle.records.specs.Shapes.{Shaped}
use Rattle.records.specs.Makings.{AllKept, Roomy, operation_made, with_operation}
use Rattle.identifier.specs.declared.identifier.Identifier.{Identifier}
use Rattle.identifier.specs.Identifiers.{name_rows, text}
use Rattle.names.specs.Places.{Absent}
use Rattle.result.specs.declared.refusal.Refusal.{Refusal}
use Rattle.result.specs.Rows.{NoRow, Uppermost}
use Rattle.ir.specs.declared.context.Context.{Context}
use Rattle.ir.specs.declared.making.Admitted.{Admitted}
use Rattle.ir.specs.Calls.{Holding, given, make_operation_rows}
use Rattle.ir.specs.Stores.{mappings, names, nodes}

-- the identifier of a name, if one is given
abbrev pub Optional : List ℕ → Result (Option Identifier) Refusal → Type 0
Optional name (Ok None) = given name ≡ false
Optional name (Ok (Some n)) = (given name ≡ true) × NoRow (name_rows name) × (text n ≡ name)
Optional name (Err e) = (given name ≡ true) × Uppermost (name_rows name) e

-- there is a name, it is not held, and 256 are held
abbrev pub Full : List (List ℕ) → Option Identifier → Type 0
Full held None = ⊥
Full held (Some n) = Absent held (text n) × (length held ≡ 256)

-- the number of the name, if there is one, and the names held after
abbrev pub NumberGiven : List (List ℕ) → Option Identifier → Option ℕ → List (List ℕ) → Type 0
NumberGiven before None number after = (number ≡ None) × (after ≡ before)
NumberGiven before (Some n) None after = ⊥
NumberGiven before (Some n) (Some i) after = Holding before (text n) i after

-- the name and the operation that were admitted are held and made
pub record AdmittedMade (s : Context) (a : Admitted) (r : MadeOperation) (t : Context) : Type 0 where
  pub number : Option ℕ
  pub named : NumberGiven (names s) a.name number (names t)
  pub answer : r ≡ operation_made a.shape.kind a.shape.count (nodes s)
  pub after : nodes t ≡ with_operation a.shape.kind number a.shape.count (nodes s)
  pub kept : AllKept (nodes s) (nodes t)
  pub mapped : mappings t ≡ mappings s

-- a making that no row refuses, and what it makes
pub record AdmittedFor (s : Context) (kind regions : ℕ) (name : List ℕ) (a : Admitted) : Type 0 where
  pub shaped : Shaped kind regions (given name) (Some a.shape)
  pub optional : Optional name (Ok a.name)
  pub holds : Full (names s) a.name → ⊥
  pub roomy : Roomy a.shape.kind a.shape.count (nodes s)

-- the tests of a making
abbrev pub Admits : Context → ℕ → ℕ → List ℕ → Result Admitted Refusal → Type 0
Admits s kind regions name (Ok a) = AdmittedFor s kind regions name a
Admits s kind regions name (Err e) = Uppermost (make_operation_rows s kind regions name) e
