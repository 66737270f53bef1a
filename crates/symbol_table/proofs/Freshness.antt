-- Where nothing was made there are no tables and no symbols, and nothing is mapped. Assumes nothing.
use Rattle.std.proofs.Common.{◌≡◌, ℕ, true, List, [], is_some, None, Option, sym, ap, ◌∙◌}
use Rattle.std.specs.Map.{lookup}
use Rattle.arena.proofs.Shelving.{at_dead}
use Rattle.records.specs.declared.handles.OpPtr.{OpPtr}
use Rattle.records.specs.declared.operation.Operation.{Operation}
use Rattle.records.specs.Models.{operation_at}
use Rattle.records.specs.Nodes.{is, is_table}
use Rattle.records.specs.Views.{part}
use Rattle.forest.specs.declared.forest.Forest.{Forest}
use Rattle.forest.specs.Calls.{Fresh}
use Rattle.forest.specs.Forests.{model}
use Rattle.forest.proofs.Kept.{unused_dead}
use Rattle.forest.proofs.Listed.{clash}
use Rattle.mappings.specs.declared.mappings.Mappings.{Mappings}
use Rattle.mappings.specs.declared.name_in.NameIn.{NameIn}
use Rattle.mappings.specs.Deciding.{equal, name_in}
use Rattle.mappings.specs.Held.{held, mapped}
use Rattle.symbol_table.proofs.Carrying.{Whole}
use Rattle.symbol_table.proofs.Following.{none_some}

module _ (f : Forest) (m : Mappings) (fresh : Fresh f) (empty : held m ≡ []) where
  none_there : (o : OpPtr) → operation_at (model f) o ≡ None
  none_there o = at_dead (model f).operations o.handle (unused_dead _ 512 o.handle fresh.operations)

  no_table : {X : Type 0} (t : OpPtr) → is_table (model f) t ≡ true → X
  no_table t e = absurd (clash (sym e ∙ ap (is (λ (x : Operation). x.kind.table)) (none_there t)))

  none_mapped : (t : OpPtr) (n : ℕ) → mapped m t n ≡ None
  none_mapped t n = ap (λ (ps : List (NameIn × OpPtr)). lookup (equal (name_in t n)) ps) empty

  pub fresh_whole : Whole (model f) (mapped m)
  fresh_whole = record {
    bodied = ∣ record { body = λ t e. no_table t e } ∣₁;
    named =
        ∣ record {
          symbols = λ o. ap (is (λ (x : Operation). x.kind.symbol)) (none_there o) ∙ sym (ap (λ (x : Option Operation). is_some (part (λ (y : Operation). y.name) x)) (none_there o));
        } ∣₁;
    follows = ∣ record { found = λ t n o e. absurd (none_some (sym (none_mapped t n) ∙ e)); kept = λ t n o s. no_table t s.table } ∣₁;
  }
