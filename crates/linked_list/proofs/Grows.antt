-- A store in which nodes and containers were made goes on to describe lists. Assumes nothing.
use Rattle.std.proofs.Common.{◌≡◌, true, ◌⊎◌, List, Some, None, sym, ◌∙◌, subst, inl, inr}
use Rattle.linked_list.specs.Links.{View, In, Chain, Holds}
use Rattle.linked_list.proofs.Lists.{keep, run_live}

module _ {N C : Type 0} where
  -- a node that was live is live, between the same neighbours and in the same container
  pub record Kept (v w : View N C) (n : N) : Type 0 where
    pub live : w.live n ≡ true
    pub next : w.next n ≡ v.next n
    pub prev : w.prev n ≡ v.prev n
    pub within : w.within n ≡ v.within n

  -- a container that was held is held, with the same ends
  pub record Same (v w : View N C) (L M : C → List N) (c : C) : Type 0 where
    pub held : w.held c ≡ true
    pub head : w.head c ≡ v.head c
    pub tail : w.tail c ≡ v.tail c
    pub list : M c ≡ L c

  -- a new node stands in no container, or in the list of a held one
  pub record Placed (w : View N C) (M : C → List N) (n : N) : Type 0 where
    pub loose : w.within n ≡ None → (w.next n ≡ None) × (w.prev n ≡ None)
    pub listed : (c : C) → w.within n ≡ Some c → (w.held c ≡ true) × In n (M c)

  -- what was there stays, and what is new describes its lists
  pub record Grows (v w : View N C) (L M : C → List N) : Type 0 where
    pub nodes : (n : N) → v.live n ≡ true → Kept v w n
    pub containers : (c : C) → v.held c ≡ true → Same v w L M c
    pub new_nodes : (n : N) → w.live n ≡ true → (v.live n ≡ true) ⊎ Placed w M n
    pub new_containers : (c : C) → w.held c ≡ true → (v.held c ≡ true) ⊎ Chain w c (M c)

  module _ (v w : View N C) (L M : C → List N) (h : Holds v L) (g : Grows v w L M) where
    old_chain : (c : C) → v.held c ≡ true → Chain w c (M c)
    old_chain c k =
        let s = g.containers c k in
        let ch = h.chains c k in
        let alive : (m : N) → In m (L c) → v.live m ≡ true = λ m i. run_live v c None (L c) None ch.run m i in
        subst (λ (ns : List N). Chain w c ns) (sym s.list)
        (record {
          head = s.head ∙ ch.head;
          tail = s.tail ∙ ch.tail;
          run = keep v w c None (L c) None
              (λ m i. record { within = (g.nodes m (alive m i)).within; live = (g.nodes m (alive m i)).live ∙ sym (alive m i) })
              (λ m i. (g.nodes m (alive m i)).next) (λ m i. (g.nodes m (alive m i)).prev) ch.run;
          apart = ch.apart;
        })

    old_listed : (n : N) (c : C) → v.live n ≡ true → w.within n ≡ Some c → (w.held c ≡ true) × In n (M c)
    old_listed n c l i =
        let k = h.listed n c l (sym (g.nodes n l).within ∙ i) in
        let s = g.containers c k.0 in
        (s.held, subst (In n) (sym s.list) k.1)

    old_loose : (n : N) → v.live n ≡ true → w.within n ≡ None → (w.next n ≡ None) × (w.prev n ≡ None)
    old_loose n l i =
        let k = h.loose n l (sym (g.nodes n l).within ∙ i) in
        ((g.nodes n l).next ∙ k.0, (g.nodes n l).prev ∙ k.1)

    pub grows_holds : Holds w M
    grows_holds = record {
      chains = λ c k. elim (g.new_containers c k) [ inl old ↦ old_chain c old | inr ch ↦ ch ];
      listed = λ n c l i. elim (g.new_nodes n l) [ inl old ↦ old_listed n c old i | inr p ↦ p.listed c i ];
      loose = λ n l i. elim (g.new_nodes n l) [ inl old ↦ old_loose n old i | inr p ↦ p.loose i ];
    }
