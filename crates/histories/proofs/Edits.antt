-- An edit of a list of children, in the store and in the ledger: for any kind of node and container. Assumes nothing.
use Rattle.std.proofs.Common.{◌≡◌, ◌⊎◌, List, ◌∷◌, is_some, Some, Option, sym, refl, ap, ◌∙◌, subst, inl, ⊎_elim}
use Rattle.linked_list.specs.declared.spot.Spot.{Spot}
use Rattle.linked_list.specs.Edits.{Inserts, Puts, Removes, Takes}
use Rattle.linked_list.specs.Links.{At, Holds, In, View}
use Rattle.linked_list.proofs.Lists.{in_right}
use Rattle.histories.specs.Feeding.{Put, Taken}
use Rattle.histories.specs.Ledgers.{listed}

-- a list that changed was there and is there
pub still_there : {N C : Type 0} → ((a b : C) → (a ≡ b) ⊎ (a ≡ b → ⊥)) → (f g : C → Option (List N)) (c : C) (xs ys : List N) → f c ≡ Some xs → At f g c (Some ys) → (d : C) → is_some (g d) ≡ is_some (f d)
still_there same f g c xs ys was change d =
    ⊎_elim
    (λ (e : d ≡ c). ap (λ z. is_some (g z)) e ∙ ap is_some change.here ∙ sym (ap is_some was) ∙ ap (λ z. is_some (f z)) (sym e))
    (λ (ne : d ≡ c → ⊥). ap is_some (change.other d ne)) (same d c)

module _ {N C : Type 0} (v w : View N C) (f g : C → Option (List N)) (n : N) (c : C) where
  pub put_holds : (spot : Spot N C) → Inserts v w n c spot → (p : Put f g n spot) → p.container ≡ c → Holds v (λ d. listed (f d)) → Holds w (λ d. listed (g d))
  put_holds spot i p e h =
      i.lists (λ d. listed (f d)) (λ d. listed (g d)) h
      (subst (λ (z : C). Puts spot n (listed (f z)) (listed (g z))) e
      (subst (λ (xs : List N). Puts spot n xs (listed (g p.container))) (sym (ap listed p.was))
      (subst (λ (ys : List N). Puts spot n p.before ys) (sym (ap listed p.change.here)) p.puts)))
      (λ d ne. ap listed (p.change.other d (λ q. ne (q ∙ e))))

  pub taken_holds : Removes v w n c → (p : Taken f g n) → p.container ≡ c → Holds v (λ d. listed (f d)) → Holds w (λ d. listed (g d))
  taken_holds i p e h =
      i.lists (λ d. listed (f d)) (λ d. listed (g d)) h
      (subst (λ (z : C). Takes n (listed (f z)) (listed (g z))) e
      (subst (λ (xs : List N). Takes n xs (listed (g p.container))) (sym (ap listed p.was))
      (subst (λ (ys : List N). Takes n p.before ys) (sym (ap listed p.change.here)) p.takes)))
      (λ d ne. ap listed (p.change.other d (λ q. ne (q ∙ e))))

-- what is taken out was there
pub takes_in : {N : Type 0} (n : N) (xs ys : List N) → Takes n xs ys → In n xs
takes_in n xs ys t = subst (In n) (sym t.2) (in_right n t.0 (n ∷ t.1) (inl refl))

pub taken_from : {N C : Type 0} (f g : C → Option (List N)) (n : N) (p : Taken f g n) → In n (listed (f p.container))
taken_from f g n p = subst (In n) (sym (ap listed p.was)) (takes_in n p.before p.after p.takes)
