-- Going through the children of a container gives the list that links describe. Assumes nothing.
use Rattle.std.proofs.Common.{◌≡◌, List, [], ◌∷◌, ◌++◌, append_assoc, append-nil, option_to_list, Option, sym, refl, ap, ◌∙◌, subst}
use Rattle.linked_list.specs.declared.span.Span.{Span}
use Rattle.linked_list.specs.Links.{Holds, View, first_or, last_or}
use Rattle.linked_list.specs.Spans.{Spans, without_first, without_last}
use Rattle.std.specs.Prelude.{None}
use Rattle.forest.specs.declared.forest.Forest.{Forest}
use Rattle.forest.specs.Iters.{Back, Front}
use Rattle.histories.specs.Telling.{GoneThrough, begun, from_back, from_front, StillToCome}

module _ {N : Type 0} where
  first_off : (xs : List N) → option_to_list (first_or xs None) ++ without_first xs ≡ xs
  first_off [] = refl
  first_off (x ∷ xs) = refl

  last_off : (xs : List N) → without_last xs ++ option_to_list (last_or xs None) ≡ xs
  last_off [] = refl
  last_off (x ∷ []) = refl
  last_off (x ∷ (y ∷ ys)) = ap (λ zs. x ∷ zs) (last_off (y ∷ ys))

module _ {N C : Type 0} (links : Forest → View N C) (f : Forest) (c : C) (L : C → List N) (holds : Holds (links f) L) where
  -- what is left of the list
  record Left (g : Forest) (left : Span N) (front back : List N) : Type 0 where
    pub rest : List N
    pub together : front ++ (rest ++ back) ≡ L c
    pub store : g ≡ f
    pub spans : Spans (links f) c rest left

  left_first : (g h : Forest) (left after : Span N) (front back : List N) (r : Option N) → Left g left front back → Front links g left r h after → Left h after (front ++ option_to_list r) back
  left_first g h left after front back r w s =
      let spans : Spans (links g) c w.rest left = subst (λ x. Spans (links x) c w.rest left) (sym w.store) w.spans in
      record {
        rest = without_first w.rest;
        together =
            append_assoc front (option_to_list r) (without_first w.rest ++ back)
            ∙ ap (λ zs. front ++ zs) (sym (append_assoc (option_to_list r) (without_first w.rest) back)
            ∙ ap (λ zs. zs ++ back) (ap (λ o. option_to_list o ++ without_first w.rest) (s.steps.node c w.rest spans) ∙ first_off w.rest))
            ∙ w.together;
        store = s.store ∙ w.store;
        spans = subst (λ x. Spans (links x) c (without_first w.rest) after) w.store (s.steps.left c w.rest spans);
      }

  left_last : (g h : Forest) (left after : Span N) (front back : List N) (r : Option N) → Left g left front back → Back links g left r h after → Left h after front (option_to_list r ++ back)
  left_last g h left after front back r w s =
      let spans : Spans (links g) c w.rest left = subst (λ x. Spans (links x) c w.rest left) (sym w.store) w.spans in
      record {
        rest = without_last w.rest;
        together =
            ap (λ zs. front ++ zs) (sym (append_assoc (without_last w.rest) (option_to_list r) back)
            ∙ ap (λ zs. zs ++ back) (ap (λ o. without_last w.rest ++ option_to_list o) (s.steps.node c w.rest spans) ∙ last_off w.rest))
            ∙ w.together;
        store = s.store ∙ w.store;
        spans = subst (λ x. Spans (links x) c (without_last w.rest) after) w.store (s.steps.left c w.rest spans);
      }

  left_of : {g : Forest} {left : Span N} {front back : List N} → GoneThrough links f c g left front back → Left g left front back
  left_of (begun s) = record { rest = L c; together = append-nil (L c); store = s.store; spans = s.all L holds }
  left_of (from_front {g} {h} {left} {after} {front} {back} r w s) = left_first g h left after front back r (left_of w) s
  left_of (from_back {g} {h} {left} {after} {front} {back} r w s) = left_last g h left after front back r (left_of w) s

  pub still_to_come : (g : Forest) (left : Span N) (front back : List N) → GoneThrough links f c g left front back → StillToCome links (L c) g left front back
  still_to_come g left front back w =
      let i = left_of w in
      let spans : Spans (links g) c i.rest left = subst (λ x. Spans (links x) c i.rest left) (sym i.store) i.spans in
      record { rest = i.rest; together = i.together; first = λ r h after s. s.steps.node c i.rest spans; last = λ r h after s. s.steps.node c i.rest spans }
