-- Where an answer Break at one node ends a walk. Assumes nothing.
use Rattle.std.proofs.Common.{◌≡◌, refl, sym, ap, ap₂, subst, ◌∙◌, List, [], ◌∷◌, ◌++◌, append_assoc, ◌⊎◌, inl, inr, Bool, Option}
use Rattle.linked_list.specs.Links.{In, Apart}
use Rattle.linked_list.proofs.Lists.{in_right}
use Rattle.orders.specs.declared.walk_result.WalkResult.{WalkResult}
use Rattle.orders.specs.declared.walk_result.WalkResult.TheVariants.{Advance, Skip, Break}
use Rattle.orders.specs.Logs.{Shown, shown, nodes, GoesOn, Unbroken, Ending, ended, broken, Walked}
use Rattle.orders.proofs.Logs.{less_none, nodes_join}
use Rattle.edges.specs.Examples.{OnlyAt}
use Rattle.edges.proofs.Skips.{answer_of}

module _ {N : Type 0} where
  head_same : {x y : N} {xs ys : List N} → x ∷ xs ≡ y ∷ ys → x ≡ y
  head_same e = cc

  tail_same : {x y : N} {xs ys : List N} → x ∷ xs ≡ y ∷ ys → xs ≡ ys
  tail_same e = cc

  -- an element of a list without repetition stands at one place
  one_place : (x : N) (xs ys us vs : List N) → Apart (xs ++ (x ∷ ys)) → us ++ (x ∷ vs) ≡ xs ++ (x ∷ ys) → us ≡ xs
  one_place x [] ys [] vs a e = refl
  one_place x [] ys (u ∷ us) vs a e = absurd (a.0 (subst (In x) (tail_same e) (in_right x us (x ∷ vs) (inl refl))))
  one_place x (y ∷ xs) ys [] vs a e = absurd (a.0 (subst (λ z. In z (xs ++ (x ∷ ys))) (head_same e) (in_right x xs (x ∷ ys) (inl refl))))
  one_place x (y ∷ xs) ys (u ∷ us) vs a e = ap₂ (λ z l. z ∷ l) (head_same e) (one_place x xs ys us vs a.1 (tail_same e))

module _ {N B : Type 0} where
  goes_on : (s : Shown N B) (log : List (Shown N B)) → Unbroken log → In s log → GoesOn s.answer
  goes_on s [] u i = absurd i
  goes_on s (t ∷ log) u (inl e) = subst (λ (x : Shown N B). GoesOn x.answer) (sym e) u.0
  goes_on s (t ∷ log) u (inr i) = goes_on s log u.1 i

module _ {N B : Type 0} (same : (a b : N) → (a ≡ b) ⊎ (a ≡ b → ⊥)) (p : N → Option N) (early : N → Bool) (children : N → List N) (root : N)
    (log : List (Shown N B)) (say : WalkResult B) (w : Walked p early children root log say) (n : N) (v : B) (only : OnlyAt n (Break v) log)
    (front back : List N) (is : w.whole ≡ front ++ (n ∷ back)) where
  none_skipped : (m : N) → In (shown m Skip) log → ⊥
  none_skipped m i =
      let no : m ≡ n → ⊥ = λ e. (let q : Skip ≡ Break v = only.here Skip (subst (λ z. In (shown z Skip) log) e i) in cc) in
      let q : ◌≡◌ {A = WalkResult B} Skip Advance = only.elsewhere m Skip no i in cc

  all_left : w.less ≡ w.whole
  all_left = less_none (λ x h. none_skipped h.by h.skipped) w.cut

  break_is : (m : N) (b : B) → In (shown m (Break b)) log → (m ≡ n) × (◌≡◌ {A = WalkResult B} (Break b) (Break v))
  break_is m b i =
      elim (same m n) [
        | inl e ↦ (e, only.here (Break b) (subst (λ z. In (shown z (Break b)) log) e i))
        | inr ne ↦ absurd (let q : Break b ≡ Advance = only.elsewhere m (Break b) ne i in cc)
      ]

  stops : (less : List N) (say : WalkResult B) → less ≡ front ++ (n ∷ back) → Apart less → Ending log less say → (nodes log ≡ front ++ (n ∷ [])) × (say ≡ Break v)
  stops less say q a (ended u e) =
      let k = answer_of n log (subst (In n) (sym (e ∙ q)) (in_right n front (n ∷ back) (inl refl))) in
      absurd (subst GoesOn (only.here k.0 k.1) (goes_on (shown n k.0) log u k.1))
  stops less say q a (broken before m b rest l u e) =
      let k = break_is m b (subst (In (shown m (Break b))) (sym l) (in_right (shown m (Break b)) before (shown m (Break b) ∷ []) (inl refl))) in
      let f : nodes log ≡ nodes before ++ (n ∷ []) = ap nodes l ∙ nodes_join before (shown m (Break b) ∷ []) ∙ ap (λ z. nodes before ++ (z ∷ [])) k.0 in
      let g : nodes before ++ (n ∷ rest) ≡ front ++ (n ∷ back) = sym (append_assoc (nodes before) (n ∷ []) rest) ∙ ap (λ z. z ++ rest) (sym f) ∙ e ∙ q in
      (f ∙ ap (λ z. z ++ (n ∷ [])) (one_place n front back (nodes before) rest (subst Apart q a) g), k.1)

  pub stops_there : (nodes log ≡ front ++ (n ∷ [])) × (say ≡ Break v)
  stops_there = stops w.less say (all_left ∙ is) (subst Apart (sym all_left) w.is_whole.once) w.ending
