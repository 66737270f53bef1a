-- Containers that have one node, and lists that have one. Assumes nothing.
use Rattle.std.proofs.Common.{◌≡◌, true, List, [], ◌∷◌, Some, None, sym, ap, ◌∙◌, subst, inl, inr}
use Rattle.linked_list.specs.Links.{Apart, Chain, Holds, In, View}
use Rattle.linked_list.proofs.Lists.{none_some, run_live, run_within, some_same}

module _ {N : Type 0} where
  -- a list that has one node, and no other
  pub all_alike : (b : N) (ns : List N) → Apart ns → In b ns → ((x : N) → In x ns → x ≡ b) → ns ≡ b ∷ []
  all_alike b [] a i h = absurd i
  all_alike b (k ∷ []) a i h = ap (λ (z : N). z ∷ []) (h k (inl refl))
    where
      refl : k ≡ k
      refl = cc
  all_alike b (k ∷ (j ∷ js)) a i h =
      let e : k ≡ b = h k (inl cc) in
      let f : j ≡ b = h j (inr (inl cc)) in
      absurd (a.0 (inl (e ∙ sym f)))

  pub only_that : (b x : N) → In x (b ∷ []) → x ≡ b
  only_that b x (inl e) = e
  only_that b x (inr i) = absurd i

module _ {N C : Type 0} where
  -- a container has one list
  pub one_list : (v : View N C) (c : C) (b : N) (ns : List N) → Chain v c (b ∷ []) → Chain v c ns → ns ≡ b ∷ []
  one_list v c b [] x y = absurd (none_some (sym y.head ∙ x.head))
  one_list v c b (k ∷ []) x y = ap (λ (z : N). z ∷ []) (some_same (sym y.head ∙ x.head))
  one_list v c b (k ∷ (j ∷ js)) x y =
      let e : k ≡ b = some_same (sym y.head ∙ x.head) in
      absurd (none_some (sym x.run.0.next ∙ ap v.next (sym e) ∙ y.run.0.next))

  module _ (v w : View N C) (c : C) (b : N) (L M : C → List N) (h : Holds v L) (k : Holds w M) (live : w.live ≡ v.live) (old : v.held c ≡ true) (new : w.held c ≡ true) where
    -- a container with one node still has that node alone where no node entered it, and that one did not leave
    pub still_one : Chain v c (b ∷ []) → w.within b ≡ Some c → ((x : N) → w.within x ≡ Some c → v.within x ≡ Some c) → Chain w c (b ∷ [])
    still_one one there back =
        let now = k.chains c new in
        let was : L c ≡ b ∷ [] = one_list v c b (L c) one (h.chains c old) in
        let has : In b (M c) = (k.listed b c (ap (λ (f : N → _). f b) live ∙ one.run.0.live) there).1 in
        subst (Chain w c)
        (all_alike b (M c) now.apart has
        (λ x i. only_that b x (subst (In x) was (h.listed x c (sym (ap (λ (f : N → _). f x) live) ∙ run_live w c None (M c) None now.run x i) (back x (run_within w c None (M c) None now.run x i))).1)))
        now
