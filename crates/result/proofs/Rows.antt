-- Rows have one answer: either none of them fits, or one is the uppermost.
use Rattle.std.proofs.Common.{◌≡◌, List, [], ◌∷◌, sym, ◌∙◌, inl, inr}
use Rattle.result.specs.Rows.{Uppermost, NoRow}

-- where no row fits, none is the uppermost
pub no_row : {E : Type 0} (rows : List (E × Type 0)) (e : E) → NoRow rows → Uppermost rows e → ⊥
no_row [] e n u = u
no_row (d ∷ ds) e n (inl h) = n.0 h.1
no_row (d ∷ ds) e n (inr h) = no_row ds e n.1 h.1

-- the uppermost row is one
pub one_row : {E : Type 0} (rows : List (E × Type 0)) (e f : E) → Uppermost rows e → Uppermost rows f → e ≡ f
one_row [] e f u v = absurd u
one_row (d ∷ ds) e f (inl h) (inl k) = h.0 ∙ sym k.0
one_row (d ∷ ds) e f (inl h) (inr k) = absurd (k.0 h.1)
one_row (d ∷ ds) e f (inr h) (inl k) = absurd (h.0 k.1)
one_row (d ∷ ds) e f (inr h) (inr k) = one_row ds e f h.1 k.1
