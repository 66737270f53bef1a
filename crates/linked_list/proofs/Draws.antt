-- Steps into a span, in any mixture, give each of its nodes once.
use Rattle.std.proofs.Common.{◌≡◌, ◌⊎◌, List, [], ◌∷◌, ◌++◌, Some, None, sym, refl, ap, ◌∙◌, subst, inl, inr, ⊎_elim}
use Rattle.linked_list.specs.declared.span.Span.{Span}
use Rattle.linked_list.specs.Links.{View, In, Apart, first_or, last_or}
use Rattle.linked_list.specs.Spans.{Spans, without_first, without_last}
use Rattle.linked_list.specs.Draws.{Draws, Once}
use Rattle.linked_list.specs.Draws.Draws.{begun, front, back}
use Rattle.linked_list.proofs.Lists.{in_left, in_right, in_parts, apart_left, apart_right, apart_both}
use Rattle.linked_list.proofs.Steps.{front_cut, front_of}

module _ {N : Type 0} where
  -- of the nodes ns, gs came, each once, and ms are left
  record Parted (ns gs ms : List N) : Type 0 where
    pub apart : Apart gs
    pub came : (m : N) → In m gs → In m ns
    pub left : (m : N) → In m ms → In m ns
    pub all : (m : N) → In m ns → In m gs ⊎ In m ms
    pub either : (m : N) → In m gs → In m ms → ⊥

  -- one more comes
  came_more : (ns gs ms ks : List N) (n : N) → Parted ns gs ms → In n ms → (In n ks → ⊥)
      → ((m : N) → In m ks → In m ms) → ((m : N) → In m ms → (m ≡ n) ⊎ In m ks) → Parted ns (n ∷ gs) ks
  came_more ns gs ms ks n p i out sub cover = record {
    apart = (λ j. p.either n j i, p.apart);
    came = λ m. ⊎_elim (λ e. subst (λ (z : N). In z ns) (sym e) (p.left n i)) (p.came m);
    left = λ m j. p.left m (sub m j);
    all = λ m j. ⊎_elim (λ k. inl (inr k)) (λ k. ⊎_elim (λ e. inl (inl e)) inr (cover m k)) (p.all m j);
    either = λ m. ⊎_elim (λ e k. out (subst (λ (z : N). In z ks) e k)) (λ k j. p.either m k (sub m j));
  }

  first_came : (ns gs ms : List N) (n : N) → Apart ms → Some n ≡ first_or ms None → Parted ns gs ms → Parted ns (n ∷ gs) (without_first ms)
  first_came ns gs [] n a e p = absurd (cc)
  first_came ns gs (m ∷ ms) n a e p =
      let mn : n ≡ m = cc in
      came_more ns gs (m ∷ ms) ms n p (inl mn) (λ i. a.0 (subst (λ (z : N). In z ms) mn i)) (λ k i. inr i)
      (λ k. ⊎_elim (λ f. inl (f ∙ sym mn)) inr)

  end_came : (ns gs zs : List N) (n : N) → Apart (zs ++ (n ∷ [])) → Parted ns gs (zs ++ (n ∷ [])) → Parted ns (n ∷ gs) zs
  end_came ns gs zs n a p =
      came_more ns gs (zs ++ (n ∷ [])) zs n p (in_right n zs (n ∷ []) (inl refl))
      (λ i. apart_both zs (n ∷ []) a n i (inl refl))
      (λ k i. in_left k zs (n ∷ []) i)
      (λ k i. ⊎_elim inr (⊎_elim inl (λ j. absurd j)) (in_parts k zs (n ∷ []) i))

  last_came : (ns gs ms : List N) (n : N) → Apart ms → Some n ≡ last_or ms None → Parted ns gs ms → Parted ns (n ∷ gs) (without_last ms)
  last_came ns gs ms n a e p =
      let r = front_cut ms n (sym e) in
      subst (λ (z : List N). Parted ns (n ∷ gs) z) (sym (ap without_last r.1 ∙ front_of r.0 n))
      (end_came ns gs r.0 n (subst (λ (z : List N). Apart z) r.1 a) (subst (λ (z : List N). Parted ns gs z) r.1 p))

  none_left : (ns gs ms : List N) → None ≡ first_or ms None → Parted ns gs ms → (m : N) → In m ns → In m gs
  none_left ns gs [] e p m i = ⊎_elim (λ j. j) (λ j. absurd j) (p.all m i)
  none_left ns gs (k ∷ ks) e p m i = absurd (cc)

  none_last : (ms : List N) → None ≡ first_or ms None → last_or ms None ≡ None
  none_last [] e = refl
  none_last (k ∷ ks) e = cc

module _ {N C : Type 0} where
  span_apart : (v : View N C) (c : C) (ns : List N) (s : Span N) → Spans v c ns s → Apart ns
  span_apart v c ns s sp = apart_left ns sp.later (apart_right sp.earlier (ns ++ sp.later) sp.chain.apart)

  -- what the steps so far leave
  record Leaves (v : View N C) (c : C) (ns gs : List N) (t : Span N) : Type 0 where
    pub ms : List N
    pub spans : Spans v c ms t
    pub parted : Parted ns gs ms

  leaves : (v : View N C) (c : C) (ns : List N) (s : Span N) → Spans v c ns s → (gs : List N) (t : Span N) → Draws v s gs t → Leaves v c ns gs t
  leaves v c ns s sp _ _ begun = record {
    ms = ns;
    spans = sp;
    parted = record { apart = tt; came = λ m i. absurd i; left = λ m i. i; all = λ m i. inr i; either = λ m i j. absurd i };
  }
  leaves v c ns s sp _ _ (front {gs} {t} r n d f e) =
      let l = leaves v c ns s sp gs t d in
      record {
        ms = without_first l.ms;
        spans = f.left c l.ms l.spans;
        parted = first_came ns gs l.ms n (span_apart v c l.ms t l.spans) (sym e ∙ f.node c l.ms l.spans) l.parted;
      }
  leaves v c ns s sp _ _ (back {gs} {t} r n d f e) =
      let l = leaves v c ns s sp gs t d in
      record {
        ms = without_last l.ms;
        spans = f.left c l.ms l.spans;
        parted = last_came ns gs l.ms n (span_apart v c l.ms t l.spans) (sym e ∙ f.node c l.ms l.spans) l.parted;
      }

  pub each_comes_once : (v : View N C) (c : C) (ns gs : List N) (s t : Span N) → Spans v c ns s → Draws v s gs t → Once v ns gs t
  each_comes_once v c ns gs s t sp d =
      let l = leaves v c ns s sp gs t d in
      record {
        apart = l.parted.apart;
        listed = l.parted.came;
        all = λ e. none_left ns gs l.ms (sym e ∙ l.spans.front) l.parted;
        front_ends = λ e r f. f.node c l.ms l.spans ∙ sym l.spans.front ∙ e;
        back_ends = λ e r f. f.node c l.ms l.spans ∙ none_last l.ms (sym e ∙ l.spans.front);
      }
