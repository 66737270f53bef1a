-- A container's list replaced, and every other list as it was.
use Rattle.std.proofs.Common.{◌≡◌, ◌⊎◌, List, refl, inl, inr, ⊎_elim}
use Rattle.linked_list.specs.Edits.{Others}

module _ {N C : Type 0} where
  -- the lists L, but for ns at c
  abbrev pub put : ((a b : C) → (a ≡ b) ⊎ (a ≡ b → ⊥)) → (C → List N) → C → List N → C → List N
  put same L c ns d = ⊎_elim (λ _. ns) (λ _. L d) (same d c)

  here : (c : C) (ns ms : List N) (s : (c ≡ c) ⊎ (c ≡ c → ⊥)) → ⊎_elim (λ _. ns) (λ _. ms) s ≡ ns
  here c ns ms (inl e) = refl
  here c ns ms (inr n) = absurd (n refl)

  away : (d c : C) (ns ms : List N) (s : (d ≡ c) ⊎ (d ≡ c → ⊥)) → (d ≡ c → ⊥) → ⊎_elim (λ _. ns) (λ _. ms) s ≡ ms
  away d c ns ms (inl e) n = absurd (n e)
  away d c ns ms (inr m) n = refl

  pub relist : (same : (a b : C) → (a ≡ b) ⊎ (a ≡ b → ⊥)) (L : C → List N) (c : C) (ns : List N)
      → (put same L c ns c ≡ ns) × Others L (put same L c ns) c
  relist same L c ns = (here c ns (L c) (same c c), λ d n. away d c ns (L d) (same d c) n)
