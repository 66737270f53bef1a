-- A store that changed in no part is the same store, and what is done to the nodes alone is done to the store. Assumes nothing.
use Rattle.std.proofs.Common.{◌≡◌, List, ◌∷◌, Ok, Err, Result, sym, ap, ◌∙◌, subst, inr}
use mathlib.Core.Logic.{∥∥₁_prop}
use Rattle.result.specs.declared.refusal.Refusal.{Refusal}
use Rattle.result.specs.Rows.{Answered}
use Rattle.forest.specs.declared.forest.Forest.{Forest}
use Rattle.forest.specs.Forests.{model}
use Rattle.mappings.specs.declared.mappings.Mappings.{Mappings}
use Rattle.mappings.specs.Held.{mapped}
use Rattle.symbol_table.specs.declared.symbol_tables.SymbolTables.{SymbolTables}
use Rattle.symbol_table.specs.Bodies.{Bodied, Follows, Named}
use Rattle.symbol_table.specs.Carried.{Carried, nodes}
use Rattle.symbol_table.proofs.Carrying.{Whole}

-- a store is its nodes and its mappings
pub same_tables : (s t : SymbolTables) → t.forest ≡ s.forest → t.mappings ≡ s.mappings → t ≡ s
same_tables s t e f =
    let P : Forest → Mappings → Type 0 = λ g m. (b : ∥ Bodied (model g) ∥₁) (n : ∥ Named (model g) ∥₁) (w : ∥ Follows (model g) (mapped m) ∥₁)
    → ◌≡◌ {A = SymbolTables} (record { forest = g; mappings = m; bodied = b; named = n; follows = w }) s in
    let base : P s.forest s.mappings = λ b n w.
    ap (λ (x : ∥ Bodied (model s.forest) ∥₁). record { forest = s.forest; mappings = s.mappings; bodied = x; named = n; follows = w }) (∥∥₁_prop b s.bodied)
    ∙ ap (λ (x : ∥ Named (model s.forest) ∥₁). record { forest = s.forest; mappings = s.mappings; bodied = s.bodied; named = x; follows = w }) (∥∥₁_prop n s.named)
    ∙ ap (λ (x : ∥ Follows (model s.forest) (mapped s.mappings) ∥₁). record { forest = s.forest; mappings = s.mappings; bodied = s.bodied; named = s.named; follows = x }) (∥∥₁_prop w s.follows) in
    subst (λ (g : Forest). P g t.mappings) (sym e) (subst (λ (m : Mappings). P s.forest m) (sym f) base) t.bodied t.named t.follows

-- what a call on the nodes answers, the call on the store does, where the mappings stay
pub carried : {X : Type 0} (rows : List (Refusal × Type 0)) (done : X → Forest → Type 0) (s t : SymbolTables) → t.mappings ≡ s.mappings
    → (r : Result X Refusal) → Answered rows done s.forest r t.forest → Answered rows (Carried done s) s r t
carried rows done s t same (Ok x) a = (a.0, (a.1, same))
carried rows done s t same (Err e) a = (a.0, same_tables s t a.1 same)

-- what always holds of a store
pub whole : (s : SymbolTables) → Whole (nodes s) (mapped s.mappings)
whole s = record { bodied = s.bodied; named = s.named; follows = s.follows }

-- the same where one more row is tested above, and does not fit
pub carried_below : {X : Type 0} (row : Refusal × Type 0) (rows : List (Refusal × Type 0)) (done : X → Forest → Type 0) (s t : SymbolTables) → t.mappings ≡ s.mappings
    → (row.1 → ⊥) → (r : Result X Refusal) → Answered rows done s.forest r t.forest → Answered (row ∷ rows) (Carried done s) s r t
carried_below row rows done s t same free (Ok x) a = ((free, a.0), (a.1, same))
carried_below row rows done s t same free (Err e) a = (inr (free, a.0), same_tables s t a.1 same)
