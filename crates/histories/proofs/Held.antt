-- Lists of containers that were there before something was made. Assumes nothing.
use Rattle.std.proofs.Common.{◌≡◌, Bool, true, false, cond, List, [], is_some, Option, sym, ap, ◌∙◌, subst, ⊎_elim}
use Rattle.linked_list.specs.Links.{Chain, Holds, In, View}
use Rattle.forest.proofs.Listed.{decide, with_lists}
use Rattle.histories.specs.Ledgers.{listed}
use Rattle.histories.proofs.Standing.{none_is}

-- only the lists of containers that are held matter
pub holds_same : {N C : Type 0} (v : View N C) (L M : C → List N) → Holds v L → ((c : C) → v.held c ≡ true → L c ≡ M c) → Holds v M
holds_same v L M h same = record {
  chains = λ c k. subst (λ ns. Chain v c ns) (same c k) (h.chains c k);
  listed = λ n c l i. let w = h.listed n c l i in (w.0, subst (In n) (same c w.0) w.1);
  loose = h.loose;
}

-- the lists that were there, which are those written down, and no others
pub were_there : {N C : Type 0} (held : C → Bool) (f : C → Option (List N)) → ((c : C) → is_some (f c) ≡ held c) → (c : C) → with_lists held (λ d. listed (f d)) (λ d. []) c ≡ listed (f c)
were_there held f same c =
    ⊎_elim
    (λ (t : held c ≡ true). ap (λ (b : Bool). cond b (listed (f c)) []) t)
    (λ (d : held c ≡ false). ap (λ (b : Bool). cond b (listed (f c)) []) d ∙ sym (ap listed (none_is (f c) (same c ∙ d))))
    (decide (held c))

pub was_held : {N C : Type 0} (held : C → Bool) (L new : C → List N) (c : C) → held c ≡ true → with_lists held L new c ≡ L c
was_held held L new c e = ap (λ (b : Bool). cond b (L c) (new c)) e
