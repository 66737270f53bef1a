-- A span of a list, and what is left of it after a step from either end.
use Rattle.std.proofs.Common.{◌≡◌, true, List, [], ◌∷◌, ◌++◌, Some, None, sym, refl, ap, ◌∙◌, subst, inl, append_assoc, append-nil}
use mathlib.Core.Bool.{Bool-set}
use mathlib.Core.Logic.{∥∥₁_elim, ∥∥₁_map}
use Rattle.linked_list.specs.declared.span.Span.{Span}
use Rattle.linked_list.specs.Links.{View, Sound, In, Apart, last_or, Run, Chain, Holds}
use Rattle.linked_list.specs.Spans.{Spans, Spanned, FromFront, FromBack, without_first, without_last}
use Rattle.linked_list.proofs.Lists.{last_in, last_some, first_of_in, last_of_in, in_left, in_right, apart_right, apart_both, run_right, run_live}

module _ {N : Type 0} where
  -- a list that has a last is a front and that last
  pub last_cut : (x : N) (xs : List N) (p : N) → last_or xs (Some x) ≡ Some p → (zs : List N) × (x ∷ xs ≡ zs ++ (p ∷ []))
  last_cut x [] p e = ([], cc)
  last_cut x (y ∷ ys) p e = let r = last_cut y ys p e in (x ∷ r.0, cc)

  pub front_cut : (xs : List N) (p : N) → last_or xs None ≡ Some p → (zs : List N) × (xs ≡ zs ++ (p ∷ []))
  front_cut [] p e = absurd (cc)
  front_cut (x ∷ xs) p e = last_cut x xs p e

  pub front_of : (zs : List N) (p : N) → without_last (zs ++ (p ∷ [])) ≡ zs
  front_of [] p = refl
  front_of (x ∷ []) p = refl
  front_of (x ∷ (y ∷ ys)) p = cc (front_of (y ∷ ys) p)

module _ {N C : Type 0} where
  -- the list of a container is spanned by its head and its tail
  pub whole_spans : (v : View N C) (L : C → List N) (c : C) (s : Span N)
      → Holds v L → v.held c ≡ true → s.front ≡ v.head c → s.back ≡ v.tail c → Spans v c (L c) s
  whole_spans v L c s h k f b = record {
    earlier = [];
    later = [];
    chain = subst (λ (z : List N). Chain v c z) (sym (append-nil (L c))) (h.chains c k);
    front = f ∙ (h.chains c k).head;
    back = b ∙ (h.chains c k).tail;
  }

  pub whole_spanned : (v : View N C) (c : C) (s : Span N) → Sound v → v.held c ≡ true → s.front ≡ v.head c → s.back ≡ v.tail c → Spanned v s
  whole_spanned v c s h k f b = ∥∥₁_map h (λ l. (c, (l.0 c, whole_spans v l.0 c s l.1 k f b)))

  span_live : (v : View N C) (c : C) (ns : List N) (s : Span N) → Spans v c ns s → (m : N) → In m ns → v.live m ≡ true
  span_live v c ns s sp m i =
      run_live v c None (sp.earlier ++ (ns ++ sp.later)) None sp.chain.run m
      (in_right m sp.earlier (ns ++ sp.later) (in_left m ns sp.later i))

  pub front_live : (v : View N C) (s : Span N) (n : N) → Spanned v s → s.front ≡ Some n → v.live n ≡ true
  front_live v s n h e =
      ∥∥₁_elim h (Bool-set (v.live n) true) (λ t. span_live v t.0 t.1.0 s t.1.1 n (first_of_in t.1.0 n (sym t.1.1.front ∙ e)))

  pub back_live : (v : View N C) (s : Span N) (n : N) → Spanned v s → s.back ≡ Some n → v.live n ≡ true
  back_live v s n h e =
      ∥∥₁_elim h (Bool-set (v.live n) true) (λ t. span_live v t.0 t.1.0 s t.1.1 n (last_of_in t.1.0 n (sym t.1.1.back ∙ e)))

  -- where nothing is left, nothing is left after a step
  none_front : (v : View N C) (c : C) (ns : List N) (s : Span N) → s.front ≡ None → Spans v c ns s → Spans v c (without_first ns) s
  none_front v c [] s e sp = sp
  none_front v c (n ∷ ns) s e sp = absurd (cc)

  none_back : (v : View N C) (c : C) (ns : List N) (s : Span N) → s.back ≡ None → Spans v c ns s → Spans v c (without_last ns) s
  none_back v c [] s e sp = sp
  none_back v c (n ∷ ns) s e sp = absurd (last_some n ns None (sym sp.back ∙ e))

  pub none_front_steps : (v : View N C) (s : Span N) → s.front ≡ None → FromFront v s (record { node = None; left = s })
  none_front_steps v s e = record { node = λ c ns sp. sym e ∙ sp.front; left = λ c ns sp. none_front v c ns s e sp }

  pub none_back_steps : (v : View N C) (s : Span N) → s.back ≡ None → FromBack v s (record { node = None; left = s })
  none_back_steps v s e = record { node = λ c ns sp. sym e ∙ sp.back; left = λ c ns sp. none_back v c ns s e sp }

  -- what is left after the first node
  module _ (v : View N C) (s t : Span N) (n : N) (is : s.front ≡ Some n)
      (end : s.back ≡ Some n → (t.front ≡ None) × (t.back ≡ None))
      (on : (s.back ≡ Some n → ⊥) → (t.front ≡ v.next n) × (t.back ≡ s.back)) where
    after_first : (c : C) (ns : List N) → Spans v c ns s → Spans v c (without_first ns) t
    after_first c [] sp = absurd (cc)
    after_first c (m ∷ []) sp =
        let e = end (sp.back ∙ sym sp.front ∙ is) in
        record {
          earlier = sp.earlier ++ (m ∷ []);
          later = sp.later;
          chain = subst (λ (z : List N). Chain v c z) (sym (append_assoc sp.earlier (m ∷ []) sp.later)) sp.chain;
          front = e.0;
          back = e.1;
        }
    after_first c (m ∷ (k ∷ ks)) sp =
        let xs : List N = (k ∷ ks) ++ sp.later in
        let r : Run v c (last_or sp.earlier None) (m ∷ xs) None = run_right v c None sp.earlier (m ∷ xs) None sp.chain.run in
        let a : Apart (m ∷ xs) = apart_right sp.earlier (m ∷ xs) sp.chain.apart in
        let mn : m ≡ n = cc in
        let o = on (λ b. a.0 (in_left m (k ∷ ks) sp.later (last_in (Some m) k ks m (sym sp.back ∙ b ∙ ap Some (sym mn))))) in
        record {
          earlier = sp.earlier ++ (m ∷ []);
          later = sp.later;
          chain = subst (λ (z : List N). Chain v c z) (sym (append_assoc sp.earlier (m ∷ []) xs)) sp.chain;
          front = o.0 ∙ ap v.next (sym mn) ∙ r.0.next;
          back = o.1 ∙ sp.back;
        }

    pub after_first_steps : FromFront v s (record { node = Some n; left = t })
    after_first_steps = record { node = λ c ns sp. sym is ∙ sp.front; left = after_first }

    pub after_first_spanned : Spanned v s → Spanned v t
    after_first_spanned h = ∥∥₁_map h (λ u. (u.0, (without_first u.1.0, after_first u.0 u.1.0 u.1.1)))

  -- what is left before the last node
  module _ (v : View N C) (s t : Span N) (n : N) (is : s.back ≡ Some n)
      (end : s.front ≡ Some n → (t.front ≡ None) × (t.back ≡ None))
      (on : (s.front ≡ Some n → ⊥) → (t.front ≡ s.front) × (t.back ≡ v.prev n)) where
    cut_last : (c : C) (zs : List N) → Spans v c (zs ++ (n ∷ [])) s → Spans v c zs t
    cut_last c [] sp =
        let e = end sp.front in
        record { earlier = sp.earlier; later = n ∷ sp.later; chain = sp.chain; front = e.0; back = e.1 }
    cut_last c (z ∷ zs) sp =
        let ys : List N = n ∷ sp.later in
        let ch : Chain v c (sp.earlier ++ ((z ∷ zs) ++ ys)) =
        subst (λ (u : List N). Chain v c (sp.earlier ++ u)) (append_assoc (z ∷ zs) (n ∷ []) sp.later) sp.chain in
        let r : Run v c (last_or sp.earlier None) ((z ∷ zs) ++ ys) None =
        run_right v c None sp.earlier ((z ∷ zs) ++ ys) None ch.run in
        let q : Run v c (last_or zs (Some z)) ys None = run_right v c (last_or sp.earlier None) (z ∷ zs) ys None r in
        let a : Apart ((z ∷ zs) ++ ys) = apart_right sp.earlier ((z ∷ zs) ++ ys) ch.apart in
        let o = on (λ f. apart_both (z ∷ zs) ys a z (inl refl) (inl (cc))) in
        record { earlier = sp.earlier; later = ys; chain = ch; front = o.0 ∙ sp.front; back = o.1 ∙ q.0.prev }

    before_last : (c : C) (ns : List N) → Spans v c ns s → Spans v c (without_last ns) t
    before_last c ns sp =
        let r = front_cut ns n (sym sp.back ∙ is) in
        subst (λ (z : List N). Spans v c z t) (sym (ap without_last r.1 ∙ front_of r.0 n))
        (cut_last c r.0 (subst (λ (z : List N). Spans v c z s) r.1 sp))

    pub before_last_steps : FromBack v s (record { node = Some n; left = t })
    before_last_steps = record { node = λ c ns sp. sym is ∙ sp.back; left = before_last }

    pub before_last_spanned : Spanned v s → Spanned v t
    before_last_spanned h = ∥∥₁_map h (λ u. (u.0, (without_last u.1.0, before_last u.0 u.1.0 u.1.1)))
