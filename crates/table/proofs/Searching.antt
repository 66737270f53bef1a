-- What the search for a key tells of the entries.
use Rattle.std.proofs.Common.{◌≡◌, ℕ, ◌%◌, ◌<◌, ◌≤◌, List, length, Option, option_map, ap, ◌∙◌, subst, ⊎_elim, arith, Some}
use Rattle.std.proofs.lemmas.Bool.{cases_lt}
use Rattle.table.specs.declared.entry.Hit.{Hit}
use Rattle.table.specs.declared.entry.Scan.{Scan}
use Rattle.table.specs.declared.entry.Scan.TheVariants.{Found, Stopped, Through}
use Rattle.table.specs.Maps.{MapEntry, entry_at, Before, straight, to_end, from_front, Maps, Probed}
use Rattle.table.specs.Search.{UsedBy, Each, Stop, Scanned, Wanted, Passed, Round, Walked, Vacant, Filled, Searched, hit_of}
use Rattle.table.proofs.Around.{order}
use Rattle.table.proofs.Entries.{not_free, used_within, user, user_not_free, user_weighs, used_all}

module _ {K V : Type 0} where
  -- The second part of a way round, where the first is passed.

  lower : (P : ℕ → K → Type 0) (es : List (MapEntry K V)) (n a b f i : ℕ) → b ≤ a → Each P es a n → Stop P es 0 b f → Before n a i f → UsedBy (P i) (entry_at es i)
  lower P es n a b f i h all s (straight lo lt) = let high = s.high in absurd (omega arith)
  lower P es n a b f i h all s (to_end lt lo hi) = all.each i lo hi
  lower P es n a b f i h all s (from_front lt hi) = s.before.each i (omega arith) hi

  -- the second part, where the first is passed
  pub walked_lower : (W P : ℕ → K → Type 0) (es : List (MapEntry K V)) (a b : ℕ) (r : Scan V) → b ≤ a → Each P es a (length es) → Scanned (Wanted W es) P es 0 b r → Walked W P es a b r
  walked_lower W P es a b (Found x) h all s = s
  walked_lower W P es a b (Stopped f) h all s = record { within = s.within; is = s.is; before = λ i. lower P es (length es) a b f i h all s }
  walked_lower W P es a b Through h all s = record { upper = all; lower = s }

  -- The search for a key, from its hash all the way round. P is what the search tells of the keys that it passes, which k has nowhere.

  module _ (hash : K → ℕ) (es : List (MapEntry K V)) (k : K) (P : ℕ → K → Type 0) (never : (i : ℕ) → P i k → ⊥) where
    pub vacant : (f : ℕ) → Passed P es (hash k % length es) f → Vacant hash es k f
    vacant f s = record {
      within = s.within;
      is = s.is;
      clear = record { clear = λ i before free. user_not_free (P i) (entry_at es i) (s.before i before) free };
      missing = λ p i v e.
          ⊎_elim
          (λ before. never i (user (P i) (entry_at es i) k v (s.before i before) e))
          (λ before. (p.reached.reach i k v e).clear f before s.is)
          (order (length es) (hash k % length es) i f (used_within es i k v e) s.within
          (λ (eq : i ≡ f). not_free k v (entry_at es i) (ap (entry_at es) eq ∙ s.is) e));
    }

    pub filled : ((i : ℕ) → i < length es → UsedBy (P i) (entry_at es i)) → Filled es k
    filled all = record {
      full = used_all es (λ i hi. user_weighs (P i) (entry_at es i) (all i hi));
      missing = λ i v e. never i (user (P i) (entry_at es i) k v (all i (used_within es i k v e)) e);
    }

    all_round : (a : ℕ) → Round P es a a → (i : ℕ) → i < length es → UsedBy (P i) (entry_at es i)
    all_round a s i hi = ⊎_elim (λ (lt : i < a). s.lower.each i (omega arith) lt) (λ (ge : a ≤ i). s.upper.each i ge hi) (cases_lt i a)

    pub searched : (W : ℕ → K → Type 0) (a : ℕ) (r : Scan V) → a ≡ hash k % length es → ((i : ℕ) (q : K) → W i q → q ≡ k) → Walked W P es a a r → Searched hash es k r
    searched W a (Found x) home found s = record { within = s.within; is = s.is ∙ ap (λ (q : K). Some (q, x.value)) (found x.place s.key s.wanted) }
    searched W a (Stopped f) home found s = vacant f (subst (λ (m : ℕ). Passed P es m f) home s)
    searched W a Through home found s = filled (all_round a s)

  pub searched_none : (es : List (MapEntry K V)) (k : K) → length es ≡ 0 → Filled es k
  searched_none es k z = record {
    full = used_all es (λ i hi. absurd (omega arith));
    missing = λ i v e. let h = used_within es i k v e in omega arith;
  }

  -- what the search for k tells of the map
  pub got : (hash : K → ℕ) (es : List (MapEntry K V)) (k : K) (r : Scan V) (o : Option V) → Searched hash es k r → o ≡ option_map (λ (x : Hit V). x.value) (hit_of r) → Probed hash es → Maps es k o
  got hash es k (Found x) o at e p = rw e (x.place, at.is)
  got hash es k (Stopped f) o s e p = rw e (s.missing p)
  got hash es k Through o s e p = rw e s.missing
