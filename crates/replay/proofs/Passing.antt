-- What is wanted after each line that was given.
use Rattle.std.proofs.Common.{◌≡◌, ◌⊎◌, ℕ, List, [], ◌∷◌, ◌++◌, inl, inr, sym, ap, ◌∙◌, append_assoc, append-nil}
use Rattle.replay.specs.Wanting.{Passed}

-- the bytes given so far are the front of what is wanted, of which the rest is left; or they are all of it and the byte that ends a line
abbrev pub Front : List ℕ → List ℕ → List ℕ → Type 0
Front wanted given rest = (wanted ≡ given ++ rest) ⊎ ((rest ≡ []) × (given ≡ wanted ++ 10 ∷ []))

pub goes_on : (wanted so_far rest given left : List ℕ) → Front wanted so_far rest → Passed rest given left → Front wanted (so_far ++ given) left
goes_on wanted so_far rest given left front (some, now) =
    elim front [
      | inl e ↦
          elim now [
            | inl f ↦ inl (e ∙ ap (λ l. so_far ++ l) f ∙ sym (append_assoc so_far given left))
            | inr f ↦ inr (f.0, ap (λ l. so_far ++ l) f.1 ∙ sym (append_assoc so_far rest (10 ∷ [])) ∙ ap (λ l. l ++ 10 ∷ []) (sym e))
          ]
      | inr e ↦ elim (some e.0) [ ]
    ]

pub whole : (wanted given rest : List ℕ) → rest ≡ [] → Front wanted given rest → (given ≡ wanted) ⊎ (given ≡ wanted ++ 10 ∷ [])
whole wanted given rest none front =
    elim front [
      | inl e ↦ inl (sym (e ∙ ap (λ l. given ++ l) none ∙ append-nil given))
      | inr e ↦ inr e.1
    ]
