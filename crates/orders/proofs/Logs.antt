-- Logs, and lists less some of their elements.
use Rattle.std.proofs.Common.{◌≡◌, refl, sym, ap, ap₂, subst, ◌∙◌, List, [], ◌∷◌, ◌++◌, append-nil, ◌⊎◌, inl, inr, ⊎_elim, Bool, true, false, not, reverse, Option}
use Rattle.linked_list.specs.Links.{In, Apart}
use Rattle.linked_list.proofs.Lists.{in_left, apart_left}
use Rattle.orders.specs.declared.walk_result.WalkResult.{WalkResult}
use Rattle.orders.specs.declared.walk_result.WalkResult.TheVariants.{Advance, Skip, Break}
use Rattle.orders.specs.Order.{Less, done, keep, drop}
use Rattle.orders.specs.Logs.{Shown, shown, nodes, GoesOn, Unbroken, AllAdvance, Ending, ended, broken, Whole, Seen, Walked, Shows, none, more}
use Rattle.orders.specs.Runs.{is_skip, Tells}
use Rattle.orders.proofs.Orders.{mirrored}

module _ {N : Type 0} where
  -- the same elements go where the two mean the same
  pub less_same : {P Q : N → Type 0} {xs ys : List N} → ((x : N) → P x → Q x) → ((x : N) → Q x → P x) → Less P xs ys → Less Q xs ys
  less_same f g done = done
  less_same f g (keep {x} h t) = keep (f x h) (less_same f g t)
  less_same f g (drop {x} h t) = drop (λ q. h (g x q)) (less_same f g t)

  -- nothing goes where every element is P
  pub less_none : {P : N → Type 0} {xs ys : List N} → ((x : N) → P x) → Less P xs ys → ys ≡ xs
  less_none f done = refl
  less_none f (keep {x} h t) = ap (λ l. x ∷ l) (less_none f t)
  less_none f (drop {x} h t) = absurd (h (f x))

  pub less_in : {P : N → Type 0} {xs ys : List N} → Less P xs ys → (x : N) → In x ys → In x xs
  less_in done x i = i
  less_in (keep h t) x (inl e) = inl e
  less_in (keep h t) x (inr i) = inr (less_in t x i)
  less_in (drop h t) x i = inr (less_in t x i)

  -- what stays is P, and each P stays
  pub less_meets : {P : N → Type 0} {xs ys : List N} → Less P xs ys → (x : N) → In x ys → P x
  less_meets done x i = absurd i
  less_meets {P} (keep h t) x (inl e) = subst P (sym e) h
  less_meets (keep h t) x (inr i) = less_meets t x i
  less_meets (drop h t) x i = less_meets t x i

  pub less_holds : {P : N → Type 0} {xs ys : List N} → Less P xs ys → (x : N) → In x xs → P x → In x ys
  less_holds done x i q = i
  less_holds (keep h t) x (inl e) q = inl e
  less_holds (keep h t) x (inr i) q = inr (less_holds t x i q)
  less_holds {P} (drop h t) x (inl e) q = absurd (h (subst P e q))
  less_holds (drop h t) x (inr i) q = less_holds t x i q

  pub less_apart : {P : N → Type 0} {xs ys : List N} → Less P xs ys → Apart xs → Apart ys
  less_apart done a = tt
  less_apart (keep {x} h t) a = (λ i. a.0 (less_in t x i), less_apart t a.1)
  less_apart (drop h t) a = less_apart t a.1

module _ {N B : Type 0} where
  pub nodes_join : (xs ys : List (Shown N B)) → nodes (xs ++ ys) ≡ nodes xs ++ nodes ys
  nodes_join [] ys = refl
  nodes_join (s ∷ xs) ys = ap (λ l. s.node ∷ l) (nodes_join xs ys)

  pub unbroken_more : (log : List (Shown N B)) (n : N) (a : WalkResult B) → Unbroken log → GoesOn a → Unbroken (log ++ (shown n a ∷ []))
  unbroken_more [] n a u g = (g, tt)
  unbroken_more (s ∷ log) n a u g = (u.0, unbroken_more log n a u.1 g)

  pub tells_left : (S : N → Bool) (xs ys : List (Shown N B)) → Tells S (xs ++ ys) → Tells S xs
  tells_left S [] ys t = tt
  tells_left S (s ∷ xs) ys t = (t.0, tells_left S xs ys t.1)

  pub tells_right : (S : N → Bool) (xs ys : List (Shown N B)) → Tells S (xs ++ ys) → Tells S ys
  tells_right S [] ys t = t
  tells_right S (s ∷ xs) ys t = tells_right S xs ys t.1

  pub skipped_node : (log : List (Shown N B)) (s : Shown N B) → In s log → In s.node (nodes log)
  skipped_node [] s i = i
  skipped_node (t ∷ log) s (inl e) = inl (ap (λ (x : Shown N B). x.node) e)
  skipped_node (t ∷ log) s (inr i) = inr (skipped_node log s i)

  pub skipped_told : (S : N → Bool) (log : List (Shown N B)) (n : N) → Tells S log → In (shown n Skip) log → S n ≡ true
  skipped_told S [] n t i = absurd i
  skipped_told S (s ∷ log) n t (inl e) = ap (λ (x : Shown N B). S x.node) e ∙ t.0 ∙ ap (λ (x : Shown N B). is_skip x.answer) (sym e)
  skipped_told S (s ∷ log) n t (inr i) = skipped_told S log n t.1 i

  -- with one more at the end, a visitor was shown that one last
  pub shows_more : {X : Type 0} {visits : X → N → WalkResult B → X → Type 0} {x y z : X} {log : List (Shown N B)} (n : N) (a : WalkResult B)
      → Shows visits x log y → visits y n a z → Shows visits x (log ++ (shown n a ∷ [])) z
  shows_more n a none v = more (shown n a) v none
  shows_more n a (more s w t) v = more s w (shows_more n a t v)

  module _ (same : (a b : N) → (a ≡ b) ⊎ (a ≡ b → ⊥)) where
    -- which nodes of the log were answered Skip
    abbrev pub skips : List (Shown N B) → N → Bool
    skips [] n = false
    skips (s ∷ log) n = ⊎_elim (λ _. is_skip s.answer) (λ _. skips log n) (same n s.node)

    own : (s : Shown N B) (r : Bool) (d : (s.node ≡ s.node) ⊎ (s.node ≡ s.node → ⊥)) → ⊎_elim (λ _. is_skip s.answer) (λ _. r) d ≡ is_skip s.answer
    own s r (inl e) = refl
    own s r (inr ne) = absurd (ne refl)

    not_own : (n : N) (s : Shown N B) (r : Bool) → (n ≡ s.node → ⊥) → (d : (n ≡ s.node) ⊎ (n ≡ s.node → ⊥)) → ⊎_elim (λ _. is_skip s.answer) (λ _. r) d ≡ r
    not_own n s r h (inl e) = absurd (h e)
    not_own n s r h (inr ne) = refl

    others : (s : Shown N B) (S : N → Bool) (log : List (Shown N B)) → (In s.node (nodes log) → ⊥) → Tells S log
        → Tells (λ n. ⊎_elim (λ _. is_skip s.answer) (λ _. S n) (same n s.node)) log
    others s S [] h t = tt
    others s S (m ∷ log) h t = (not_own m.node s (S m.node) (λ e. h (inl (sym e))) (same m.node s.node) ∙ t.0, others s S log (λ i. h (inr i)) t.1)

    pub skips_tell : (log : List (Shown N B)) → Apart (nodes log) → Tells (skips log) log
    skips_tell [] a = tt
    skips_tell (s ∷ log) a = (own s (skips log s.node) (same s.node s.node), others s (skips log) log a.0 (skips_tell log a.1))

    is_skipped : (a : WalkResult B) → is_skip a ≡ true → Skip ≡ a
    is_skipped Advance e = absurd (cc)
    is_skipped Skip e = refl
    is_skipped (Break b) e = absurd (cc)

    step_skipped : (n : N) (s : Shown N B) (log : List (Shown N B)) (d : (n ≡ s.node) ⊎ (n ≡ s.node → ⊥)) → (skips log n ≡ true → In (shown n Skip) log)
        → ⊎_elim (λ _. is_skip s.answer) (λ _. skips log n) d ≡ true → In (shown n Skip) (s ∷ log)
    step_skipped n s log (inl q) h e = inl (ap₂ (λ (x : N) (a : WalkResult B). shown x a) q (is_skipped s.answer e))
    step_skipped n s log (inr ne) h e = inr (h e)

    pub skips_in : (log : List (Shown N B)) (n : N) → skips log n ≡ true → In (shown n Skip) log
    skips_in [] n e = absurd (cc)
    skips_in (s ∷ log) n e = step_skipped n s log (same n s.node) (skips_in log n) e

module _ {N B : Type 0} where
  pub on_unbroken : (log : List (Shown N B)) → AllAdvance log → Unbroken log
  on_unbroken [] h = tt
  on_unbroken (s ∷ log) h = (subst GoesOn (sym h.0) tt, on_unbroken log h.1)

  pub none_skipped : (log : List (Shown N B)) (n : N) → AllAdvance log → In (shown n Skip) log → ⊥
  none_skipped [] n h i = i
  none_skipped (s ∷ log) n h (inl e) = let q : Skip ≡ Advance = ap (λ (x : Shown N B). x.answer) e ∙ h.0 in cc
  none_skipped (s ∷ log) n h (inr i) = none_skipped log n h.1 i

  not_broken : (earlier : List (Shown N B)) (n : N) (b : B) → Unbroken (earlier ++ (shown n (Break b) ∷ [])) → ⊥
  not_broken [] n b u = u.0
  not_broken (s ∷ earlier) n b u = not_broken earlier n b u.1

  -- a log that nothing ended shows all
  pub unbroken_all : (log : List (Shown N B)) (less : List N) (r : WalkResult B) → Unbroken log → Ending log less r → (nodes log ≡ less) × (r ≡ Advance)
  unbroken_all log less r u (ended v e) = (e, refl)
  unbroken_all log less r u (broken earlier n b rest l v e) = absurd (not_broken earlier n b (subst Unbroken l u))

  -- a walk that says Advance shows all
  advance_all : (log : List (Shown N B)) (less : List N) (r : WalkResult B) → Ending log less r → r ≡ Advance → nodes log ≡ less
  advance_all log less r (ended v e) q = e
  advance_all log less r (broken earlier n b rest l v e) q = absurd (cc)

  -- what was shown is a first part of what the answers leave
  first_part : (log : List (Shown N B)) (less : List N) (r : WalkResult B) → Ending log less r → (rest : List N) × (nodes log ++ rest ≡ less)
  first_part log less r (ended v e) = ([], append-nil (nodes log) ∙ e)
  first_part log less r (broken earlier n b rest l v e) = (rest, e)

  module _ (p : N → Option N) (early : N → Bool) (children : N → List N) (root : N) (log : List (Shown N B)) (r : WalkResult B) (w : Walked p early children root log r) where
    pub one_walk : AllAdvance log → Whole p early children root (nodes log) × (r ≡ Advance)
    one_walk h =
        let u = unbroken_all log w.less r (on_unbroken log h) w.ending in
        let e : w.less ≡ w.whole = less_none (λ x k. none_skipped log k.by h k.skipped) w.cut in
        (subst (Whole p early children root) (sym (u.0 ∙ e)) w.is_whole, u.1)

    part : (rest : List N) × (nodes log ++ rest ≡ w.less)
    part = first_part log w.less r w.ending

    shown_left : (x : N) → In x (nodes log) → In x w.less
    shown_left x i = subst (In x) part.1 (in_left x (nodes log) part.0 i)

    pub seen_once : Seen p early root log r
    seen_once = record {
      once = apart_left (nodes log) part.0 (subst Apart (sym part.1) (less_apart w.cut w.is_whole.once));
      within = λ x i. w.is_whole.below x (less_in w.cut x (shown_left x i));
      hidden = λ x i. less_meets w.cut x (shown_left x i);
      all = λ e x u h. subst (In x) (sym (advance_all log w.less r w.ending e)) (less_holds w.cut x (w.is_whole.all x u) h);
    }

-- two walks of which neither skips or ends early, one the mirror of the other, show each other's nodes from the last to the first
pub mirrored_walk : {N B C : Type 0} (p : N → Option N) (early late : N → Bool) (children back : N → List N) → ((n : N) → late n ≡ not (early n)) → ((n : N) → back n ≡ reverse (children n))
    → (root : N) (log : List (Shown N B)) (r : WalkResult B) (log' : List (Shown N C)) (r' : WalkResult C) → Walked p early children root log r → AllAdvance log → Walked p late back root log' r' → AllAdvance log' → nodes log' ≡ reverse (nodes log)
mirrored_walk p early late children back other turns root log r log' r' w h w' h' =
    mirrored early late children back other turns {ns = root ∷ []} (one_walk p early children root log r w h).0.order (one_walk p late back root log' r' w' h').0.order
