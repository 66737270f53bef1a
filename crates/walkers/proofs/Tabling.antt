-- The region of a table. Assumes nothing.
use Rattle.std.proofs.Common.{◌≡◌, false, true, List, [], ◌∷◌, MatchOption, Some, Option, sym, ap, ◌∙◌, subst}
use Rattle.std.specs.Option.{option_map}
use Rattle.arena.specs.Shelves.{item}
use Rattle.linked_list.proofs.Lists.{some_same}
use Rattle.records.specs.declared.handles.OpPtr.{OpPtr}
use Rattle.records.specs.declared.handles.RegionPtr.{RegionPtr}
use Rattle.records.specs.declared.operation.Operation.{Operation}
use Rattle.records.specs.Models.{operation_at}
use Rattle.records.specs.Nodes.{is, is_table, regions_of}
use Rattle.symbol_table.specs.Laws.{OneBody}
use Rattle.symbol_table.proofs.Owned.{has_one_body}
use Rattle.ir.specs.declared.context.Context.{Context}
use Rattle.ir.specs.Stores.{nodes}

-- the first region of a table is its only one
pub only_region : (s : Context) (t : OpPtr) (o : Operation) → Some o ≡ operation_at (nodes s) t → o.kind.table ≡ true → (r : Option RegionPtr) → r ≡ item (regions_of o) 0
    → MatchOption r (is_table (nodes s) t ≡ false) (λ region. (is_table (nodes s) t ≡ true) × (option_map regions_of (operation_at (nodes s) t) ≡ Some (region ∷ [])))
only_region s t o e k r first =
    let table : is_table (nodes s) t ≡ true = ap (λ (x : Option Operation). is (λ (y : Operation). y.kind.table) x) (sym e) ∙ k in
    let b : OneBody (nodes s) t = has_one_body s.tables t table in
    let regions : regions_of o ≡ b.region ∷ [] = some_same (ap (option_map regions_of) e ∙ b.regions) in
    let r_is : r ≡ Some b.region = first ∙ ap (λ (rs : List RegionPtr). item rs 0) regions in
    subst (λ (x : Option RegionPtr). MatchOption x (is_table (nodes s) t ≡ false) (λ region. (is_table (nodes s) t ≡ true) × (option_map regions_of (operation_at (nodes s) t) ≡ Some (region ∷ []))))
    (sym r_is) (table, b.regions)
