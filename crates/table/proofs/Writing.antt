-- What one write to a list of entries does to the map.
use Rattle.std.proofs.Common.{◌≡◌, ℕ, ◌%◌, ◌<◌, List, length, set, Some, None, Option, sym, refl, ap, ◌∙◌, subst, ⊎_elim, arith}
use Rattle.std.proofs.lemmas.List.{get_or-set_same, get_or-set_other, length-set}
use Rattle.std.proofs.lemmas.Bool.{cases_eq}
use Rattle.table.specs.Maps.{MapEntry, entry_at, weigh, Maps, Clear, Reached, Probed, Others, Updated, Put}
use Rattle.table.specs.Search.{At, Vacant}
use Rattle.table.proofs.Entries.{not_free, same_key, used_set}

module _ {K V : Type 0} where
  -- a place where k may be written or taken away: no other key stands there, and k stands nowhere else
  pub record Site (es : List (MapEntry K V)) (k : K) (i : ℕ) : Type 0 where
    pub within : i < length es
    pub owner : (q : K) (w : V) → entry_at es i ≡ Some (q, w) → q ≡ k
    pub lone : (j : ℕ) (w : V) → (j ≡ i → ⊥) → entry_at es j ≡ Some (k, w) → ⊥

  pub site_at : (hash : K → ℕ) (es : List (MapEntry K V)) (k : K) (i : ℕ) (v : V) → Probed hash es → At es k i v → Site es k i
  site_at hash es k i v p at = record {
    within = at.within;
    owner = λ q w e. same_key k q v w (entry_at es i) at.is e;
    lone = λ j w n e. n (p.apart j i k w v e at.is);
  }

  site_free : (es : List (MapEntry K V)) (k : K) (i : ℕ) → i < length es → Maps es k None → entry_at es i ≡ None → Site es k i
  site_free es k i within none free = record {
    within = within;
    owner = λ q w e. absurd (not_free q w (entry_at es i) free e);
    lone = λ j w n e. none j w e;
  }

  module _ (es : List (MapEntry K V)) (k : K) (i : ℕ) (x : MapEntry K V) (s : Site es k i) (mine : (q : K) (w : V) → x ≡ Some (q, w) → q ≡ k) where
    here : (j : ℕ) → j ≡ i → entry_at (set es i x) j ≡ x
    here j e = ap (entry_at (set es i x)) e ∙ get_or-set_same es i x None s.within

    pub write_there : (j : ℕ) → (j ≡ i → ⊥) → entry_at (set es i x) j ≡ entry_at es j
    write_there j n = get_or-set_other es i j x None n

    pub write_here : entry_at (set es i x) i ≡ x
    write_here = here i refl

    kept : (q : K) (o : Option V) → (q ≡ k → ⊥) → Maps es q o → Maps (set es i x) q o
    kept q None n m = λ j v e.
        ⊎_elim
        (λ (h : j ≡ i). n (mine q v (sym (here j h) ∙ e)))
        (λ (h : j ≡ i → ⊥). m j v (sym (write_there j h) ∙ e))
        (cases_eq j i)
    kept q (Some v) n m =
        (m.0, write_there m.0 (λ (h : m.0 ≡ i). n (s.owner q v (ap (entry_at es) (sym h) ∙ m.1))) ∙ m.1)

    pub write_others : Others es (set es i x) k
    write_others = record { others = kept }

    pub write_apart : (hash : K → ℕ) → Probed hash es → (a b : ℕ) (q : K) (v w : V) → entry_at (set es i x) a ≡ Some (q, v) → entry_at (set es i x) b ≡ Some (q, w) → a ≡ b
    write_apart hash old a b q v w p r =
        ⊎_elim
        (λ (ha : a ≡ i).
        ⊎_elim
        (λ (hb : b ≡ i). ha ∙ sym hb)
        (λ (hb : b ≡ i → ⊥).
        let e : q ≡ k = mine q v (sym (here a ha) ∙ p) in
        absurd (s.lone b w hb (sym (write_there b hb) ∙ r ∙ ap (λ (y : K). Some (y, w)) e)))
        (cases_eq b i))
        (λ (ha : a ≡ i → ⊥).
        ⊎_elim
        (λ (hb : b ≡ i).
        let e : q ≡ k = mine q w (sym (here b hb) ∙ r) in
        absurd (s.lone a v ha (sym (write_there a ha) ∙ p ∙ ap (λ (y : K). Some (y, v)) e)))
        (λ (hb : b ≡ i → ⊥). old.apart a b q v w (sym (write_there a ha) ∙ p) (sym (write_there b hb) ∙ r))
        (cases_eq b i))
        (cases_eq a i)

    -- where x is not free, no way gets a free entry
    still_clear : (n h j : ℕ) → (x ≡ None → ⊥) → Clear n h es j → Clear n h (set es i x) j
    still_clear n h j never c = record {
      clear = λ m before free.
          ⊎_elim
          (λ (e : m ≡ i). never (sym (here m e) ∙ free))
          (λ (e : m ≡ i → ⊥). c.clear m before (sym (write_there m e) ∙ free))
          (cases_eq m i);
    }

    write_reached : (hash : K → ℕ) (n : ℕ) → (x ≡ None → ⊥) → Clear n (hash k % n) es i → Reached hash n es → Reached hash n (set es i x)
    write_reached hash n never mine-clear old = record {
      reach = λ j q v e.
          ⊎_elim
          (λ (h : j ≡ i).
          let own : k ≡ q = sym (mine q v (sym (here j h) ∙ e)) in
          let c : Clear n (hash q % n) es j = subst (λ (m : ℕ). Clear n (hash q % n) es m) (sym h) (subst (λ (y : K). Clear n (hash y % n) es i) own mine-clear) in
          still_clear n (hash q % n) j never c)
          (λ (h : j ≡ i → ⊥). still_clear n (hash q % n) j never (old.reach j q v (sym (write_there j h) ∙ e)))
          (cases_eq j i);
    }

    write_probed : (hash : K → ℕ) → (x ≡ None → ⊥) → Clear (length es) (hash k % length es) es i → Probed hash es → Probed hash (set es i x)
    write_probed hash never mine-clear old = record {
      apart = write_apart hash old;
      reached = subst (λ (m : ℕ). Reached hash m (set es i x)) (sym (length-set es i x)) (write_reached hash (length es) never mine-clear old.reached);
    }

  mine_used : (k : K) (v : V) (q : K) (w : V) → ◌≡◌ {A = MapEntry K V} (Some (k, v)) (Some (q, w)) → q ≡ k
  mine_used k v q w e = same_key k q v w (Some (k, v)) refl e

  never_free : (k : K) (v : V) → ◌≡◌ {A = MapEntry K V} (Some (k, v)) None → ⊥
  never_free k v e = not_free k v None refl (sym e)

  -- k is written at its site, with no free entry before it on its way
  put : (hash : K → ℕ) (es : List (MapEntry K V)) (k : K) (v : V) (i : ℕ) (old : Option V) → Maps es k old → Site es k i → Clear (length es) (hash k % length es) es i → Probed hash es → Updated hash es k old (Some v) (set es i (Some (k, v)))
  put hash es k v i old was s clear p = record {
    was = was;
    is = (i, write_here es k i (Some (k, v)) s (mine_used k v));
    others = write_others es k i (Some (k, v)) s (mine_used k v);
    probed = write_probed es k i (Some (k, v)) s (mine_used k v) hash (never_free k v) clear p;
  }

  pub put_at : (hash : K → ℕ) (es : List (MapEntry K V)) (k : K) (v : V) (i : ℕ) (old : V) → At es k i old → Put hash es k v (Some old) (set es i (Some (k, v)))
  put_at hash es k v i old at = record {
    long = length-set es i (Some (k, v));
    counts = let h = used_set es i (Some (k, v)) at.within in let w : weigh (entry_at es i) ≡ 1 = ap weigh at.is in omega arith;
    map = λ p. put hash es k v i (Some old) (i, at.is) (site_at hash es k i old p at) (p.reached.reach i k old at.is) p;
  }

  pub put_free : (hash : K → ℕ) (es : List (MapEntry K V)) (k : K) (v : V) (i : ℕ) → Vacant hash es k i → Put hash es k v None (set es i (Some (k, v)))
  put_free hash es k v i at = record {
    long = length-set es i (Some (k, v));
    counts = let h = used_set es i (Some (k, v)) at.within in let w : weigh (entry_at es i) ≡ 0 = ap weigh at.is in omega arith;
    map = λ p. put hash es k v i None (at.missing p) (site_free es k i at.within (at.missing p) at.is) at.clear p;
  }
