-- Each move brings a key nearer to its hash, so that the moves end.
use Rattle.std.proofs.Common.{◌≡◌, ℕ, zero, suc, ◌+◌, ◌%◌, ◌<◌, List, [], ◌∷◌, length, set, sym, ap, subst, add-zero, zero-add, arith, Some, None}
use Rattle.std.specs.List.{swap}
use Rattle.std.proofs.lemmas.List.{get_or-set_other}
use Rattle.table.specs.Maps.{MapEntry, entry_at}
use Rattle.table.specs.Search.{UsedBy}
use Rattle.table.specs.Shift.{Cuts, CutOff, moved}
use Rattle.table.proofs.Around.{far, farther}
use Rattle.table.proofs.Moving.{Moves, apart_places, j_within, swapped}

module _ {K V : Type 0} where
  -- how far the entry at i is along the way from its key's hash
  abbrev away : (K → ℕ) → ℕ → ℕ → MapEntry K V → ℕ
  away hash n i None = 0
  away hash n i (Some (k, v)) = far n (hash k % n) i

  -- the sum of that, over a list that starts at the place i
  unfoldable pub distance : (K → ℕ) → ℕ → ℕ → List (MapEntry K V) → ℕ
  distance hash n i [] = 0
  distance hash n i (e ∷ es) = away hash n i e + distance hash n (suc i) es

  distance_set : (hash : K → ℕ) (n a : ℕ) (es : List (MapEntry K V)) (i : ℕ) (x : MapEntry K V) → i < length es → distance hash n a (set es i x) + away hash n (a + i) (entry_at es i) ≡ distance hash n a es + away hash n (a + i) x
  unfolding distance
  distance_set hash n a [] i x h = absurd (omega arith)
  distance_set hash n a (e ∷ es) zero x h =
      rw add-zero (omega arith)
  distance_set hash n a (e ∷ es) (suc i) x h =
      let inner : i < length es = omega arith in
      let rest = distance_set hash n (suc a) es i x inner in
      let same : suc a + i ≡ a + suc i = omega arith in
      let there : distance hash n (suc a) (set es i x) + away hash n (a + suc i) (entry_at es i) ≡ distance hash n (suc a) es + away hash n (a + suc i) x = subst (λ (m : ℕ). distance hash n (suc a) (set es i x) + away hash n m (entry_at es i) ≡ distance hash n (suc a) es + away hash n m x) same rest in
      omega arith

  nearer : (hash : K → ℕ) (n p j : ℕ) (e : MapEntry K V) → UsedBy (Cuts hash n p j) e → away hash n p e < away hash n j e
  nearer hash n p j None off = absurd off
  nearer hash n p j (Some (k, v)) off = farther n (hash k % n) p j off

  moved_nearer : (hash : K → ℕ) (es : List (MapEntry K V)) (p j : ℕ) → p < length es → entry_at es p ≡ None → CutOff hash es p j → distance hash (length es) 0 (moved es p j) < distance hash (length es) 0 es
  moved_nearer hash es p j within free off =
      let jn : j < length (set es p (entry_at es j)) = j_within hash es p j within free off in
      let a : distance hash (length es) 0 (set es p (entry_at es j)) + away hash (length es) p (entry_at es p) ≡ distance hash (length es) 0 es + away hash (length es) p (entry_at es j) = rw zero-add at (distance_set hash (length es) 0 es p (entry_at es j) within) in
      let b : distance hash (length es) 0 (moved es p j) + away hash (length es) j (entry_at (set es p (entry_at es j)) j) ≡ distance hash (length es) 0 (set es p (entry_at es j)) + 0 = rw zero-add at (distance_set hash (length es) 0 (set es p (entry_at es j)) j None jn) in
      let y : away hash (length es) j (entry_at (set es p (entry_at es j)) j) ≡ away hash (length es) j (entry_at es j) = ap (away hash (length es) j) (get_or-set_other es p j (entry_at es j) None (apart_places hash es p j within free off)) in
      let c : away hash (length es) p (entry_at es j) < away hash (length es) j (entry_at es j) = nearer hash (length es) p j (entry_at es j) off.off in
      omega arith

  pub moves_nearer : (hash : K → ℕ) (es : List (MapEntry K V)) (p : ℕ) (fs : List (MapEntry K V)) (q j : ℕ) (gs : List (MapEntry K V)) → Moves hash es p fs q → CutOff hash fs q j → gs ≡ swap fs q j → distance hash (length es) 0 gs < distance hash (length es) 0 fs
  moves_nearer hash es p fs q j gs m off is =
      subst (λ (hs : List (MapEntry K V)). distance hash (length es) 0 hs < distance hash (length es) 0 fs) (sym (swapped fs q j gs m.within m.free off.within is))
      (subst (λ (n : ℕ). distance hash n 0 (moved fs q j) < distance hash n 0 fs) m.long (moved_nearer hash fs q j m.within m.free off))
