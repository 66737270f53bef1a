-- What lies below what.
use Rattle.std.proofs.Common.{◌≡◌, refl, subst, sym, Some, Option}
use Rattle.trees.specs.Climbs.{Ends, Within, self, below}
use Rattle.trees.proofs.Climbing.{not_itself}
use Rattle.orders.specs.Order.{Inside}

module _ {N : Type 0} {p : N → Option N} where
  pub within_join : {a b x : N} → Within p a b → Within p b x → Within p a x
  within_join {a} u (self e) = subst (λ (z : N). Within p a z) (sym e) u
  within_join u (below k e v) = below k e (within_join u v)

  pub within_parent : {n m : N} → p m ≡ Some n → Within p n m
  within_parent {n} e = below n e (self refl)

  pub parent_inside : {n m : N} → p m ≡ Some n → Inside p n m
  parent_inside {n} e = record { above = n; parent = e; under = self refl }

  pub inside_up : {n m k : N} → p n ≡ Some k → Inside p n m → Inside p k m
  inside_up e i = record { above = i.above; parent = i.parent; under = within_join (within_parent e) i.under }

pub none_below_itself : {N : Type 0} (p : N → Option N) → ((n : N) → Ends p n) → (n : N) → Inside p n n → ⊥
none_below_itself p ends n i = not_itself p ∣ ends ∣₁ n (record { above = i.above; parent = i.parent; inside = i.under })
