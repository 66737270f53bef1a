-- Moving keys into the hole that cuts them off.
use Rattle.std.proofs.Common.{◌≡◌, ℕ, ◌%◌, ◌<◌, ◌⊎◌, List, length, set, Some, None, Option, sym, ap, ◌∙◌, subst, inl, inr, ⊎_elim, arith}
use Rattle.std.specs.List.{swap}
use Rattle.std.proofs.lemmas.List.{get_or-set_same, get_or-set_other, length-set}
use Rattle.std.proofs.lemmas.List.Edits.{swap_is}
use Rattle.std.proofs.lemmas.Bool.{cases_eq}
use Rattle.table.specs.Maps.{MapEntry, Before, entry_at, weigh, used, Maps}
use Rattle.table.specs.Shift.{Cuts, Holed, Closed, CutOff, Shifted, moved}
use Rattle.table.proofs.Around.{along}
use Rattle.table.proofs.Entries.{not_free, user, user_not_free, used_set}

module _ {K V : Type 0} where
  -- One move.

  moved_long : (es : List (MapEntry K V)) (p j : ℕ) → length (moved es p j) ≡ length es
  moved_long es p j = length-set (set es p (entry_at es j)) j None ∙ length-set es p (entry_at es j)

  module _ (hash : K → ℕ) (es : List (MapEntry K V)) (p j : ℕ) (within : p < length es) (free : entry_at es p ≡ None) (off : CutOff hash es p j) where
    pub apart_places : j ≡ p → ⊥
    apart_places eq = user_not_free (Cuts hash (length es) p j) (entry_at es j) off.off (ap (entry_at es) eq ∙ free)

    pub j_within : j < length (set es p (entry_at es j))
    j_within = let l = length-set es p (entry_at es j) in let h = off.within in omega arith

    pub at_j : entry_at (moved es p j) j ≡ None
    at_j = get_or-set_same (set es p (entry_at es j)) j None None j_within

    past_j : (i : ℕ) → (i ≡ j → ⊥) → entry_at (moved es p j) i ≡ entry_at (set es p (entry_at es j)) i
    past_j i n = get_or-set_other (set es p (entry_at es j)) j i None None n

    at_p : entry_at (moved es p j) p ≡ entry_at es j
    at_p = past_j p (λ eq. apart_places (sym eq)) ∙ get_or-set_same es p (entry_at es j) None within

    elsewhere : (i : ℕ) → (i ≡ j → ⊥) → (i ≡ p → ⊥) → entry_at (moved es p j) i ≡ entry_at es i
    elsewhere i n m = past_j i n ∙ get_or-set_other es p i (entry_at es j) None m

    -- where a key stood that stands at i now
    origin : (i : ℕ) (k : K) (v : V) → entry_at (moved es p j) i ≡ Some (k, v) → ((i ≡ p) × (entry_at es j ≡ Some (k, v))) ⊎ ((i ≡ j → ⊥) × (entry_at es i ≡ Some (k, v)))
    origin i k v is =
        ⊎_elim
        (λ (eq : i ≡ j). absurd (not_free k v (entry_at (moved es p j) i) (ap (entry_at (moved es p j)) eq ∙ at_j) is))
        (λ (ne : i ≡ j → ⊥).
        ⊎_elim
        (λ (eq : i ≡ p). inl (eq, sym at_p ∙ ap (entry_at (moved es p j)) (sym eq) ∙ is))
        (λ (np : i ≡ p → ⊥). inr (ne, sym (elsewhere i ne np) ∙ is))
        (cases_eq i p))
        (cases_eq i j)

    pub moved_keeps : (k : K) (o : Option V) → Maps es k o → Maps (moved es p j) k o
    moved_keeps k None m = λ i v is.
        ⊎_elim (λ x. m j v x.1) (λ x. m i v x.1) (origin i k v is)
    moved_keeps k (Some v) m =
        ⊎_elim
        (λ (eq : m.0 ≡ j). (p, at_p ∙ ap (entry_at es) (sym eq) ∙ m.1))
        (λ (ne : m.0 ≡ j → ⊥).
        ⊎_elim
        (λ (eq : m.0 ≡ p). absurd (not_free k v (entry_at es p) free (ap (entry_at es) (sym eq) ∙ m.1)))
        (λ (np : m.0 ≡ p → ⊥). (m.0, elsewhere m.0 ne np ∙ m.1))
        (cases_eq m.0 p))
        (cases_eq m.0 j)

    moved_apart : ((a b : ℕ) (k : K) (v w : V) → entry_at es a ≡ Some (k, v) → entry_at es b ≡ Some (k, w) → a ≡ b) → (a b : ℕ) (k : K) (v w : V) → entry_at (moved es p j) a ≡ Some (k, v) → entry_at (moved es p j) b ≡ Some (k, w) → a ≡ b
    moved_apart old a b k v w x y =
        ⊎_elim
        (λ s.
        ⊎_elim
        (λ t. s.0 ∙ sym t.0)
        (λ t. absurd (t.0 (sym (old j b k v w s.1 t.1))))
        (origin b k w y))
        (λ s.
        ⊎_elim
        (λ t. absurd (s.0 (old a j k v w s.1 t.1)))
        (λ t. old a b k v w s.1 t.1)
        (origin b k w y))
        (origin a k v x)

    -- a free entry that is not the new hole was free, and not the old hole
    was_free : (m : ℕ) → (m ≡ j → ⊥) → entry_at (moved es p j) m ≡ None → (m ≡ p → ⊥) × (entry_at es m ≡ None)
    was_free m ne is =
        let np : m ≡ p → ⊥ = λ (eq : m ≡ p). user_not_free (Cuts hash (length es) p j) (entry_at es j) off.off (sym at_p ∙ ap (entry_at (moved es p j)) (sym eq) ∙ is) in
        (np, sym (elsewhere m ne np) ∙ is)

    pub moved_holed : Holed hash (length es) es p → Holed hash (length es) (moved es p j) j
    moved_holed h = record {
      apart = moved_apart h.apart;
      reach = λ i m k v is before gap.
          ⊎_elim
          (λ (eq : m ≡ j). eq)
          (λ (ne : m ≡ j → ⊥).
          let old = was_free m ne gap in
          ⊎_elim
          (λ x.
          let to-p : Before (length es) (hash k % length es) m p = subst (λ (q : ℕ). Before (length es) (hash k % length es) m q) x.0 before in
          let to_j : Before (length es) (hash k % length es) p j = user (Cuts hash (length es) p j) (entry_at es j) k v off.off x.1 in
          absurd (old.0 (h.reach j m k v x.1 (along (length es) (hash k % length es) m p j to-p to_j) old.1)))
          (λ x. absurd (old.0 (h.reach i m k v x.1 before old.1)))
          (origin i k v is))
          (cases_eq m j);
    }

    pub moved_counts : used (moved es p j) ≡ used es
    moved_counts =
        let a = used_set es p (entry_at es j) within in
        let b = used_set (set es p (entry_at es j)) j None j_within in
        let x : weigh (entry_at es p) ≡ 0 = ap weigh free in
        let y : entry_at (set es p (entry_at es j)) j ≡ entry_at es j = get_or-set_other es p j (entry_at es j) None apart_places in
        let z : weigh (entry_at (set es p (entry_at es j)) j) ≡ weigh (entry_at es j) = ap weigh y in
        omega arith

  -- Many moves.

  -- from es with the hole p to fs with the hole q
  pub record Moves (hash : K → ℕ) (es : List (MapEntry K V)) (p : ℕ) (fs : List (MapEntry K V)) (q : ℕ) : Type 0 where
    pub within : q < length fs
    pub free : entry_at fs q ≡ None
    pub long : length fs ≡ length es
    pub counts : used fs ≡ used es
    pub keeps : (k : K) (o : Option V) → Maps es k o → Maps fs k o
    pub holed : Holed hash (length es) es p → Holed hash (length es) fs q

  moves_one : (hash : K → ℕ) (es : List (MapEntry K V)) (p : ℕ) (fs : List (MapEntry K V)) (q j : ℕ) → Moves hash es p fs q → CutOff hash fs q j → Moves hash es p (moved fs q j) j
  moves_one hash es p fs q j m off = record {
    within = let l = moved_long fs q j in let h = off.within in omega arith;
    free = at_j hash fs q j m.within m.free off;
    long = moved_long fs q j ∙ m.long;
    counts = moved_counts hash fs q j m.within m.free off ∙ m.counts;
    keeps = λ k o x. moved_keeps hash fs q j m.within m.free off k o (m.keeps k o x);
    holed = λ h.
        subst (λ (n : ℕ). Holed hash n (moved fs q j) j) m.long
        (moved_holed hash fs q j m.within m.free off (subst (λ (n : ℕ). Holed hash n fs q) (sym m.long) (m.holed h)));
  }

  -- the hole is free, so that swapping it with the entry at j moves that entry
  pub swapped : (es : List (MapEntry K V)) (p j : ℕ) (gs : List (MapEntry K V)) → p < length es → entry_at es p ≡ None → j < length es → gs ≡ swap es p j → gs ≡ moved es p j
  swapped es p j gs within free there is =
      is ∙ sym (swap_is es p j None within there) ∙ ap (λ (x : MapEntry K V). set (set es p (entry_at es j)) j x) free

  pub moves_more : (hash : K → ℕ) (es : List (MapEntry K V)) (p : ℕ) (fs : List (MapEntry K V)) (q j : ℕ) (gs : List (MapEntry K V)) → Moves hash es p fs q → CutOff hash fs q j → gs ≡ swap fs q j → Moves hash es p gs j
  moves_more hash es p fs q j gs m off is = subst (λ (hs : List (MapEntry K V)). Moves hash es p hs j) (sym (swapped fs q j gs m.within m.free off.within is)) (moves_one hash es p fs q j m off)

  pub moves_end : (hash : K → ℕ) (es : List (MapEntry K V)) (p : ℕ) (fs : List (MapEntry K V)) (q : ℕ) → Moves hash es p fs q → Closed hash fs q → Shifted hash es p fs
  moves_end hash es p fs q m c = record {
    long = m.long;
    counts = m.counts;
    keeps = m.keeps;
    probed = λ h. c.closed (subst (λ (n : ℕ). Holed hash n fs q) (sym m.long) (m.holed h));
  }
