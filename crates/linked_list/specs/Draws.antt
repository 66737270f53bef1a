-- The nodes of a list taken one by one, from either end in any mixture: each comes once, then none.
use Rattle.std.specs.Prelude.{◌≡◌, List, [], ◌∷◌, Some, None}
use Rattle.linked_list.specs.declared.span.Span.{Span}
use Rattle.linked_list.specs.declared.span.Step.{Step}
use Rattle.linked_list.specs.Links.{View, In, Apart}
use Rattle.linked_list.specs.Spans.{Spans, FromFront, FromBack}

-- Steps into the span s, one after another, gave the nodes gs, the newest first, and left the span t.
pub data Draws {N C : Type 0} (v : View N C) (s : Span N) : List N → Span N → Type 0 where
  begun : Draws v s [] s
  front : {gs : List N} {t : Span N} (r : Step N) (n : N) → Draws v s gs t → FromFront v t r → r.node ≡ Some n → Draws v s (n ∷ gs) r.left
  back : {gs : List N} {t : Span N} (r : Step N) (n : N) → Draws v s gs t → FromBack v t r → r.node ≡ Some n → Draws v s (n ∷ gs) r.left

-- No node came twice, only nodes of the list ns came, and where nothing is left all of them came, and a further step
-- from either end gives none.
pub record Once {N C : Type 0} (v : View N C) (ns gs : List N) (t : Span N) : Type 0 where
  pub apart : Apart gs
  pub listed : (m : N) → In m gs → In m ns
  pub all : t.front ≡ None → (m : N) → In m ns → In m gs
  pub front_ends : t.front ≡ None → (r : Step N) → FromFront v t r → r.node ≡ None
  pub back_ends : t.front ≡ None → (r : Step N) → FromBack v t r → r.node ≡ None

-- However the steps are mixed, they give each node of the list once, then none.
abbrev pub EachOnce : Type 0 → Type 0 → Type 0
EachOnce N C =
    (v : View N C) (c : C) (ns gs : List N) (s t : Span N) → Spans v c ns s → Draws v s gs t → Once v ns gs t
