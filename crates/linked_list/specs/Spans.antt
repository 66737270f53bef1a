-- What is left of a list while it is gone through from both ends.
use Rattle.std.specs.Prelude.{◌≡◌, List, [], ◌∷◌, ◌++◌, None}
use Rattle.linked_list.specs.declared.span.Span.{Span}
use Rattle.linked_list.specs.declared.span.Step.{Step}
use Rattle.linked_list.specs.Links.{View, Chain, first_or, last_or}

-- The span s is the nodes ns, which stand one after another in the list that the links of the container c describe:
-- its front is the first of them, and its back the last.
pub record Spans {N C : Type 0} (v : View N C) (c : C) (ns : List N) (s : Span N) : Type 0 where
  pub earlier : List N
  pub later : List N
  pub chain : Chain v c (earlier ++ (ns ++ later))
  pub front : s.front ≡ first_or ns None
  pub back : s.back ≡ last_or ns None

-- The span is some nodes of some container.
abbrev pub Spanned : {N C : Type 0} → View N C → Span N → Type 0
Spanned {N} {C} v s = ∥ ((c : C) × ((ns : List N) × Spans v c ns s)) ∥₁

-- The list but for its first; the empty list where there is none.
abbrev pub without_first : {N : Type 0} → List N → List N
without_first [] = []
without_first (n ∷ ns) = ns

-- The list but for its last; the empty list where there is none.
abbrev pub without_last : {N : Type 0} → List N → List N
without_last [] = []
without_last (n ∷ []) = []
without_last (n ∷ (k ∷ ks)) = n ∷ without_last (k ∷ ks)

-- The step r into the span s gave the first node of the span, or none where it was empty, and left the others.
pub record FromFront {N C : Type 0} (v : View N C) (s : Span N) (r : Step N) : Type 0 where
  pub node : (c : C) (ns : List N) → Spans v c ns s → r.node ≡ first_or ns None
  pub left : (c : C) (ns : List N) → Spans v c ns s → Spans v c (without_first ns) r.left

-- The step r into the span s gave the last node of the span, or none where it was empty, and left the others.
pub record FromBack {N C : Type 0} (v : View N C) (s : Span N) (r : Step N) : Type 0 where
  pub node : (c : C) (ns : List N) → Spans v c ns s → r.node ≡ last_or ns None
  pub left : (c : C) (ns : List N) → Spans v c ns s → Spans v c (without_last ns) r.left
