-- A store is as one ledger says, and as no other. Assumes nothing.
use Rattle.std.proofs.Common.{◌≡◌, true, false, List, [], ◌∷◌, is_some, Some, None, Option, sym, refl, ap, ap₂, ◌∙◌, ⊎_elim}
use Rattle.linked_list.specs.Links.{Holds, Run, View, first_or}
use Rattle.linked_list.proofs.Lists.{none_some, some_same}
use Rattle.records.specs.Views.{block_links, op_links}
use Rattle.forest.proofs.Listed.{decide}
use Rattle.ir.specs.declared.context.Context.{Context}
use Rattle.ir.specs.Stores.{nodes}
use Rattle.histories.specs.Ledgers.{Ledger, listed}
use Rattle.histories.specs.Represents.{Represents}
use Rattle.histories.proofs.SetsNotes.{same_ledger}
use Rattle.histories.proofs.Standing.{none_is, some_is}

module _ {N C : Type 0} (v : View N C) (c : C) where
  -- the links run through one list from its first node
  one_run : (p q : Option N) (xs ys : List N) → first_or xs None ≡ first_or ys None → Run v c p xs None → Run v c q ys None → xs ≡ ys
  one_run p q [] [] e a b = refl
  one_run p q [] (y ∷ ys) e a b = absurd (none_some e)
  one_run p q (x ∷ xs) [] e a b = absurd (none_some (sym e))
  one_run p q (x ∷ xs) (y ∷ ys) e a b =
      let same : x ≡ y = some_same e in
      ap₂ (λ z zs. z ∷ zs) same (one_run (Some x) (Some y) xs ys (sym a.0.next ∙ ap v.next same ∙ b.0.next) a.1 b.1)

-- the lists that are written down are those of the links
module _ {N C : Type 0} (v : View N C) (f g : C → Option (List N)) (held_f : (c : C) → is_some (f c) ≡ v.held c) (held_g : (c : C) → is_some (g c) ≡ v.held c)
    (h : Holds v (λ c. listed (f c))) (k : Holds v (λ c. listed (g c))) where
  there : (o : Option (List N)) → is_some o ≡ true → o ≡ Some (listed o)
  there o e = let w = some_is o e in w.1 ∙ ap (λ (xs : List N). Some xs) (sym (ap listed w.1))

  pub one_list : (c : C) → g c ≡ f c
  one_list c =
      ⊎_elim
      (λ (on : v.held c ≡ true).
      there (g c) (held_g c ∙ on)
      ∙ ap (λ (xs : List N). Some xs) (one_run v c None None (listed (g c)) (listed (f c)) (sym (k.chains c on).head ∙ (h.chains c on).head) (k.chains c on).run (h.chains c on).run)
      ∙ sym (there (f c) (held_f c ∙ on)))
      (λ (off : v.held c ≡ false). none_is (g c) (held_g c ∙ off) ∙ sym (none_is (f c) (held_f c ∙ off)))
      (decide (v.held c))

pub one_ledger : (s : Context) (l m : Ledger) → Represents s l → Represents s m → m ≡ l
one_ledger s l m r q =
    same_ledger l m (record {
      operations = λ op. q.operations op ∙ sym (r.operations op);
      blocks = one_list (op_links (nodes s)) l.block m.block r.blocks q.blocks r.ops_hold q.ops_hold;
      regions = one_list (block_links (nodes s)) l.region m.region r.regions q.regions r.blocks_hold q.blocks_hold;
    })
