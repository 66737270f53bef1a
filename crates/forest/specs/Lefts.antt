-- How many nodes are left of a list that is gone through from both ends: all lists of a span are equally long.
use Rattle.std.specs.Prelude.{◌≡◌, ℕ, suc, List, [], ◌∷◌, ◌++◌, length, Some, None, Option, refl}
use Rattle.std.proofs.Common.{sym, ap, ◌∙◌, subst}
use mathlib.Core.Logic.{∥∥₁_elim, ∥∥₁_prop}
use native.Mathlib.Nat.{ℕ_set}
use Rattle.linked_list.specs.declared.span.Span.{Span}
use Rattle.linked_list.specs.Links.{Apart, Run, View, last_or}
use Rattle.linked_list.specs.Spans.{Spanned, Spans}
use Rattle.linked_list.proofs.Lists.{apart_right, in_left, last_in, none_some, run_right, some_same}

module _ {N C : Type 0} (v : View N C) where
  -- two runs from one node to one node, in each of which no node stands twice, are equally long
  same_long : (c d : C) (p q : Option N) (n : N) (ns ms ls ks : List N) → Run v c p (n ∷ (ns ++ ls)) None → Run v d q (n ∷ (ms ++ ks)) None
      → Apart (n ∷ (ns ++ ls)) → Apart (n ∷ (ms ++ ks)) → last_or ns (Some n) ≡ last_or ms (Some n) → length ns ≡ length ms
  same_long c d p q n [] [] ls ks r t a b e = refl
  same_long c d p q n [] (m ∷ ms) ls ks r t a b e = absurd (b.0 (in_left n (m ∷ ms) ks (last_in (Some n) m ms n (sym e))))
  same_long c d p q n (m ∷ ns) [] ls ks r t a b e = absurd (a.0 (in_left n (m ∷ ns) ls (last_in (Some n) m ns n e)))
  same_long c d p q n (x ∷ ns) (y ∷ ms) ls ks r t a b e =
      let yx : y ≡ x = some_same (sym t.0.next ∙ r.0.next) in
      ap suc
      (same_long c d (Some n) (Some n) x ns ms ls ks r.1
      (subst (λ (z : N). Run v d (Some n) (z ∷ (ms ++ ks)) None) yx t.1) a.1
      (subst (λ (z : N). Apart (z ∷ (ms ++ ks))) yx b.1)
      (e ∙ ap (λ (z : N). last_or ms (Some z)) yx))

  -- all lists of a span are equally long
  one_length : (s : Span N) (c d : C) (ns ms : List N) → Spans v c ns s → Spans v d ms s → length ns ≡ length ms
  one_length s c d [] [] x y = refl
  one_length s c d [] (m ∷ ms) x y = absurd (none_some (sym x.front ∙ y.front))
  one_length s c d (n ∷ ns) [] x y = absurd (none_some (sym y.front ∙ x.front))
  one_length s c d (n ∷ ns) (m ∷ ms) x y =
      let mn : m ≡ n = some_same (sym y.front ∙ x.front) in
      ap suc
      (same_long c d (last_or x.earlier None) (last_or y.earlier None) n ns ms x.later y.later
      (run_right v c None x.earlier (n ∷ (ns ++ x.later)) None x.chain.run)
      (subst (λ (z : N). Run v d (last_or y.earlier None) (z ∷ (ms ++ y.later)) None) mn (run_right v d None y.earlier (m ∷ (ms ++ y.later)) None y.chain.run))
      (apart_right x.earlier (n ∷ (ns ++ x.later)) x.chain.apart)
      (subst (λ (z : N). Apart (z ∷ (ms ++ y.later))) mn (apart_right y.earlier (m ∷ (ms ++ y.later)) y.chain.apart))
      (sym x.back ∙ y.back ∙ ap (λ (z : N). last_or ms (Some z)) mn))

  -- the span has a list of this length
  record Long (s : Span N) (i : ℕ) : Type 0 where
    pub container : C
    pub nodes : List N
    pub spans : Spans v container nodes s
    pub long : length nodes ≡ i

  abbrev Length : Span N → Type 0
  Length s = (i : ℕ) × ∥ Long s i ∥₁

  two_lengths : (s : Span N) (i j : ℕ) → Long s i → Long s j → i ≡ j
  two_lengths s i j x y = sym x.long ∙ one_length s x.container y.container x.nodes y.nodes x.spans y.spans ∙ y.long

  same_length : (s : Span N) (i j : ℕ) (h : ∥ Long s i ∥₁) (k : ∥ Long s j ∥₁) → i ≡ j → ◌≡◌ {A = Length s} (i, h) (j, k)
  same_length s i j h k e =
      subst (λ (z : ℕ). (k : ∥ Long s z ∥₁) → ◌≡◌ {A = Length s} (i, h) (z, k)) e (λ k. ap (λ (z : ∥ Long s i ∥₁). (i, z)) (∥∥₁_prop h k)) k

  length_prop : (s : Span N) → IsProp (Length s)
  length_prop s x y =
      same_length s x.0 y.0 x.1 y.1 (∥∥₁_elim x.1 (ℕ_set x.0 y.0) (λ (h : Long s x.0). ∥∥₁_elim y.1 (ℕ_set x.0 y.0) (λ (k : Long s y.0). two_lengths s x.0 y.0 h k)))

  length_of : (s : Span N) → Spanned v s → Length s
  length_of s h = ∥∥₁_elim h (length_prop s) (λ t. (length t.1.0, ∣ record { container = t.0; nodes = t.1.0; spans = t.1.1; long = refl } ∣₁))

  -- how many nodes are left
  pub nodes_left : (s : Span N) → Spanned v s → ℕ
  nodes_left s h = (length_of s h).0

  pub nodes_left_is : (s : Span N) (h : Spanned v s) (c : C) (ns : List N) → Spans v c ns s → nodes_left s h ≡ length ns
  unfolding nodes_left
  nodes_left_is s h c ns sp =
      ∥∥₁_elim (length_of s h).1 (ℕ_set (length_of s h).0 (length ns))
      (λ (k : Long s (length_of s h).0). two_lengths s (length_of s h).0 (length ns) k (record { container = c; nodes = ns; spans = sp; long = refl }))
