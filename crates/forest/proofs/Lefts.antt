-- Each step into a span that gives a node leaves fewer. Assumes nothing.
use Rattle.std.proofs.Common.{◌≡◌, suc, ◌<◌, List, [], ◌∷◌, length, Some, None, Option, sym, refl, ap, ◌∙◌, arith}
use mathlib.Core.Logic.{∥∥₁_elim}
use native.Mathlib.Bridge.{le_prop}
use Rattle.std.specs.Iterator.{Count, IsFinite, MakesProgress, size}
use Rattle.linked_list.specs.declared.span.Span.{Span}
use Rattle.linked_list.specs.declared.span.Step.{Step}
use Rattle.linked_list.specs.Links.{View, first_or, last_or}
use Rattle.linked_list.specs.Spans.{FromBack, FromFront, Spanned, without_first, without_last}
use Rattle.linked_list.proofs.Lists.{none_some}
use Rattle.forest.specs.Lefts.{nodes_left, nodes_left_is}

module _ {N : Type 0} where
  shorter_front : (ns : List N) (n : N) → first_or ns None ≡ Some n → length (without_first ns) < length ns
  shorter_front [] n e = absurd (none_some e)
  shorter_front (k ∷ ks) n e = omega arith

  without_last_long : (k : N) (ks : List N) → suc (length (without_last (k ∷ ks))) ≡ length (k ∷ ks)
  without_last_long k [] = refl
  without_last_long k (j ∷ js) = ap suc (without_last_long j js)

  shorter_back : (ns : List N) (n : N) → last_or ns None ≡ Some n → length (without_last ns) < length ns
  shorter_back [] n e = absurd (none_some e)
  shorter_back (k ∷ ks) n e = let h = without_last_long k ks in omega arith

module _ {N C : Type 0} (v : View N C) where
  -- a step that gives a node leaves fewer
  pub front_nearer : (s : Span N) (r : Step N) (h : Spanned v s) (k : Spanned v r.left) (n : N) → FromFront v s r → r.node ≡ Some n → nodes_left v r.left k < nodes_left v s h
  front_nearer s r h k n f e =
      ∥∥₁_elim h le_prop (λ t.
      let a = nodes_left_is v s h t.0 t.1.0 t.1.1 in
      let b = nodes_left_is v r.left k t.0 (without_first t.1.0) (f.left t.0 t.1.0 t.1.1) in
      let l = shorter_front t.1.0 n (sym (f.node t.0 t.1.0 t.1.1) ∙ e) in omega arith)

  pub back_nearer : (s : Span N) (r : Step N) (h : Spanned v s) (k : Spanned v r.left) (n : N) → FromBack v s r → r.node ≡ Some n → nodes_left v r.left k < nodes_left v s h
  back_nearer s r h k n f e =
      ∥∥₁_elim h le_prop (λ t.
      let a = nodes_left_is v s h t.0 t.1.0 t.1.1 in
      let b = nodes_left_is v r.left k t.0 (without_last t.1.0) (f.left t.0 t.1.0 t.1.1) in
      let l = shorter_back t.1.0 n (sym (f.node t.0 t.1.0 t.1.1) ∙ e) in omega arith)

-- what lowers the number left with each item makes progress
pub progress : {S A : Type 0} (can : S → Type 0) (left : S → Count) (s : S) (r : Option A) (t : S) → can t → IsFinite (left t) → ((x : A) → r ≡ Some x → size (left t) < size (left s)) → MakesProgress can left s r t
progress can left s None t c f lt = record { on = λ _. tt; keeps = tt; rests = λ _. f }
progress can left s (Some x) t c f lt = record { on = λ _. (c, f, lt x refl); keeps = c; rests = λ _. tt }
