-- Taking a key away: its entry is freed, and the hole closed.
use Rattle.std.proofs.Common.{◌≡◌, ℕ, List, length, set, Some, None, Option, sym, refl, ap, ◌∙◌, subst, ⊎_elim, arith}
use Rattle.std.proofs.lemmas.List.{length-set}
use Rattle.std.proofs.lemmas.Bool.{cases_eq}
use Rattle.table.specs.Maps.{MapEntry, entry_at, weigh, Maps, Probed, Taken}
use Rattle.table.specs.Search.{At}
use Rattle.table.specs.Shift.{Holed, Shifted}
use Rattle.table.proofs.Entries.{not_free, used_set}
use Rattle.table.proofs.Writing.{Site, site_at, write_here, write_there, write_others, write_apart}

module _ {K V : Type 0} where
  mine_free : (k q : K) (w : V) → ◌≡◌ {A = MapEntry K V} None (Some (q, w)) → q ≡ k
  mine_free k q w e = absurd (not_free q w None refl e)

  -- where the key stood there is a hole, and no free entry besides on a key's way
  freed_holed : (hash : K → ℕ) (es : List (MapEntry K V)) (k : K) (i : ℕ) → Site es k i → Probed hash es → Holed hash (length es) (set es i None) i
  freed_holed hash es k i s p = record {
    apart = write_apart es k i None s (mine_free k) hash p;
    reach = λ a m q v e before free.
        ⊎_elim
        (λ (eq : m ≡ i). eq)
        (λ (ne : m ≡ i → ⊥).
        ⊎_elim
        (λ (eq : a ≡ i). absurd (not_free q v (entry_at (set es i None) a) (ap (entry_at (set es i None)) eq ∙ write_here es k i None s (mine_free k)) e))
        (λ (na : a ≡ i → ⊥). absurd ((p.reached.reach a q v (sym (write_there es k i None s (mine_free k) a na) ∙ e)).clear m before (sym (write_there es k i None s (mine_free k) m ne) ∙ free)))
        (cases_eq a i))
        (cases_eq m i);
  }

  freed_gone : (es : List (MapEntry K V)) (k : K) (i : ℕ) → Site es k i → Maps (set es i None) k None
  freed_gone es k i s = λ j v e.
      ⊎_elim
      (λ (eq : j ≡ i). not_free k v (entry_at (set es i None) j) (ap (entry_at (set es i None)) eq ∙ write_here es k i None s (mine_free k)) e)
      (λ (ne : j ≡ i → ⊥). s.lone j v ne (sym (write_there es k i None s (mine_free k) j ne) ∙ e))
      (cases_eq j i)

  pub take_at : (hash : K → ℕ) (es : List (MapEntry K V)) (k : K) (i : ℕ) (old : V) (fs : List (MapEntry K V)) → At es k i old → Shifted hash (set es i None) i fs → Taken hash es k (Some old) fs
  take_at hash es k i old fs at shifted = record {
    long = shifted.long ∙ length-set es i None;
    counts =
        let h = used_set es i None at.within in
        let w : weigh (entry_at es i) ≡ 1 = ap weigh at.is in
        let c = shifted.counts in
        omega arith;
    map = λ p.
        let s = site_at hash es k i old p at in
        record {
          was = (i, at.is);
          is = shifted.keeps k None (freed_gone es k i s);
          others = record { others = λ q o n m. shifted.keeps q o ((write_others es k i None s (mine_free k)).others q o n m) };
          probed = shifted.probed (subst (λ (n : ℕ). Holed hash n (set es i None) i) (sym (length-set es i None)) (freed_holed hash es k i s p));
        };
    same = λ e. let z : ◌≡◌ {A = ℕ} 0 1 = cc in absurd (omega arith);
  }

  -- a key that is not there needs no taking
  pub take_none : (hash : K → ℕ) (es : List (MapEntry K V)) (k : K) (o : Option V) → o ≡ None → (Probed hash es → Maps es k o) → Taken hash es k o es
  take_none hash es k None e was = record {
    long = refl;
    counts = omega arith;
    map = λ p. record { was = was p; is = was p; others = record { others = λ q o n m. m }; probed = p };
    same = λ e. refl;
  }
  take_none hash es k (Some v) e was = absurd (let z : ◌≡◌ {A = ℕ} 0 1 = cc in omega arith)
