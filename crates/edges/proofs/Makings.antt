-- What a making that is not refused puts into the store. Assumes nothing.
use Rattle.std.proofs.Common.{◌≡◌, ℕ, ◌≤◌, true, List, Some, ap, ◌∙◌, inl, inr, arith}
use Rattle.std.proofs.lemmas.Bool.{cases_lt}
use Rattle.arena.specs.Pools.{room}
use Rattle.arena.proofs.Shelving.{enter_only}
use Rattle.result.specs.Rows.{NoRow}
use Rattle.records.specs.declared.making.MadeOperation.{MadeOperation}
use Rattle.records.specs.declared.operation.Operation.{Operation}
use Rattle.records.specs.Makings.{Roomy, blocks_needed, new_operation, regions_made}
use Rattle.records.specs.Models.{Model, next_op, operation_at}
use Rattle.records.specs.Views.{op_links}
use Rattle.forest.proofs.Owning.{named_live}
use Rattle.forest.proofs.Tables.{Tables, tables_of}
use Rattle.ir.specs.declared.context.Context.{Context}
use Rattle.ir.specs.Calls.{OperationMade, make_operation_rows}
use Rattle.ir.specs.Stores.{nodes}

-- a number that cannot fail to be small enough is so
unless_above : (a b : ℕ) → ((a ≤ b → ⊥) → ⊥) → a ≤ b
unless_above a b h = elim (cases_lt b a) [ inl lt ↦ absurd (h (λ le. omega arith)) | inr ge ↦ ge ]

pub places_of : (s : Context) → Tables (nodes s)
places_of s = tables_of s.tables.forest.records

module _ (s t : Context) (kind count : ℕ) (name : List ℕ) (made : MadeOperation) (free : NoRow (make_operation_rows s kind count name)) (o : OperationMade s kind count name made t) where
  lack : (Roomy o.is count (nodes s) → ⊥) → ⊥
  lack h = free.1.1.1.1.0 (record { is = o.is; sum = o.sum; lack = h })

  pub roomy : Roomy o.is count (nodes s)
  roomy = record {
    operations = unless_above 1 (room (nodes s).operations.pool) (λ h. lack (λ r. h r.operations));
    blocks = unless_above (blocks_needed o.is.table) (room (nodes s).blocks.pool) (λ h. lack (λ r. h r.blocks));
    regions = unless_above count (room (nodes s).regions.pool) (λ h. lack (λ r. h r.regions));
  }

  abbrev pub entry : Operation
  entry = new_operation o.is o.number (regions_made o.is count (nodes s))

  pub is_there : operation_at (nodes t) (next_op (nodes s)) ≡ Some entry
  is_there =
      ap (λ (x : Model). operation_at x (next_op (nodes s))) o.after
      ∙ (enter_only (nodes s).operations entry (places_of s).op_places roomy.operations (places_of s).ops_even).here

  pub alive : (op_links (nodes t)).live (next_op (nodes s)) ≡ true
  alive = named_live (nodes t).operations (next_op (nodes s)).handle entry is_there
