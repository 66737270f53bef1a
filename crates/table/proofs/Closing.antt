-- When the hole cuts no key off.
use Rattle.std.proofs.Common.{◌≡◌, ℕ, ◌+◌, ◌%◌, ◌<◌, ◌≤◌, List, length, MatchOption, option_map, ap, ◌∙◌, subst, ⊎_elim, arith, Some}
use Rattle.std.proofs.lemmas.Bool.{cases_order}
use Rattle.table.specs.declared.entry.Hit.{Hit}
use Rattle.table.specs.declared.entry.Scan.{Scan}
use Rattle.table.specs.declared.entry.Scan.TheVariants.{Found, Stopped, Through}
use Rattle.table.specs.Maps.{MapEntry, Before, straight, to_end, from_front, entry_at}
use Rattle.table.specs.Search.{Passed, Round, Walked, hit_of}
use Rattle.table.specs.Shift.{Cuts, Spares, Holed, Closed, CutOff}
use Rattle.table.proofs.Around.{itself, order, beyond}
use Rattle.table.proofs.Entries.{not_free, used_by, used_within, user}

-- what lies past p is not p
past : (n p f i : ℕ) → Before n (p + 1) f i → f ≡ p → ⊥
past n p f i (straight a b) e = omega arith
past n p f i (to_end a b c) e = omega arith
past n p f i (from_front a b) e = omega arith

module _ {K V : Type 0} (hash : K → ℕ) (es : List (MapEntry K V)) (hole : ℕ) where
  -- entries with a hole, and no key that it cuts off
  whole_ways : ((i : ℕ) (k : K) (v : V) → Holed hash (length es) es hole → entry_at es i ≡ Some (k, v) → Spares hash (length es) hole i k) → Closed hash es hole
  whole_ways spared = record {
    closed = λ h. record {
      apart = h.apart;
      reached = record {
        reach = λ i k v e. record {
          clear = λ j before free.
              spared i k v h e (subst (λ (m : ℕ). Before (length es) (hash k % length es) m i) (h.reach i j k v e before free) before);
        };
      };
    };
  }

  -- P is what a search from the hole all the way round tells of the keys that it passes: the hole spares them
  module _ (P : ℕ → K → Type 0) (spares : (i : ℕ) (k : K) → P i k → Spares hash (length es) hole i k) where
    closed_at : (f : ℕ) → Passed P es (hole + 1) f → Closed hash es hole
    closed_at f s = whole_ways (λ i k v h e cut.
        ⊎_elim
        (λ before. spares i k (user (P i) (entry_at es i) k v (s.before i before) e) cut)
        (λ before.
        past (length es) hole f i before
        (h.reach i f k v e (beyond (length es) (hash k % length es) hole f i cut before) s.is))
        (order (length es) (hole + 1) i f (used_within es i k v e) s.within
        (λ (eq : i ≡ f). not_free k v (entry_at es i) (ap (entry_at es) eq ∙ s.is) e)))

    closed_round : Round P es (hole + 1) hole → Closed hash es hole
    closed_round s = whole_ways (λ i k v h e cut.
        ⊎_elim
        (λ (eq : i ≡ hole). itself (length es) (hash k % length es) hole (subst (λ (m : ℕ). Before (length es) (hash k % length es) hole m) eq cut))
        (⊎_elim
        (λ (lt : i < hole). let lo : 0 ≤ i = omega arith in spares i k (user (P i) (entry_at es i) k v (s.lower.each i lo lt) e) cut)
        (λ (gt : hole < i). let lo : hole + 1 ≤ i = omega arith in spares i k (user (P i) (entry_at es i) k v (s.upper.each i lo (used_within es i k v e)) e) cut))
        (cases_order i hole))

    pub next_cut : (W : ℕ → K → Type 0) (r : Scan V) → ((i : ℕ) (k : K) → W i k → Cuts hash (length es) hole i k) → Walked W P es (hole + 1) hole r → MatchOption (option_map (λ (x : Hit V). x.place) (hit_of r)) (Closed hash es hole) (CutOff hash es hole)
    next_cut W (Found x) cuts s = record { within = s.within; off = used_by (Cuts hash (length es) hole x.place) (entry_at es x.place) s.key x.value s.is (cuts x.place s.key s.wanted) }
    next_cut W (Stopped f) cuts s = closed_at f s
    next_cut W Through cuts s = closed_round s
