-- Laws of whole maps: a map under a truncation, and one of which no entry was ever used.
use Rattle.std.proofs.Common.{◌≡◌, ℕ, zero, suc, List, replicate, refl, arith, None}
use mathlib.Core.Logic.{∥∥₁_elim}
use native.Mathlib.Nat.{ℕ_set}
use Rattle.table.specs.Maps.{MapEntry, entry_at, used, Probed}
use Rattle.table.proofs.Entries.{not_free}

module _ {K V : Type 0} where
  -- out of a truncated ghost field: each part is an equation of numbers or a contradiction
  pub whole : (hash : K → ℕ) (es : List (MapEntry K V)) → ∥ Probed hash es ∥₁ → Probed hash es
  whole hash es t = record {
    apart = λ i j k v w p r. ∥∥₁_elim t (ℕ_set i j) (λ x. x.apart i j k v w p r);
    reached = record {
      reach = λ i k v e. record {
        clear = λ j before free. ∥∥₁_elim t (λ x y. elim x [ ]) (λ x. (x.reached.reach i k v e).clear j before free);
      };
    };
  }

  -- Entries none of which was ever used.

  unused : (n i : ℕ) → entry_at {K = K} {V = V} (replicate n None) i ≡ None
  unused zero i = refl
  unused (suc n) zero = refl
  unused (suc n) (suc i) = unused n i

  pub unused_probed : (hash : K → ℕ) (n : ℕ) → Probed {K = K} {V = V} hash (replicate n None)
  unused_probed hash n = record {
    apart = λ i j k v w p r. absurd (not_free k v (entry_at (replicate n None) i) (unused n i) p);
    reached = record { reach = λ i k v e. absurd (not_free k v (entry_at (replicate n None) i) (unused n i) e) };
  }

pub unused_used : (K V : Type 0) (n : ℕ) → used {K = K} {V = V} (replicate n None) ≡ 0
unfolding used
unused_used K V zero = refl
unused_used K V (suc n) = let rest = unused_used K V n in omega arith
