-- A log without the values of its answers says of walks what the log with them says. Assumes nothing.
use Rattle.std.proofs.Common.{◌≡◌, ℕ, Bool, List, [], ◌∷◌, ◌++◌, map, Some, None, Option, refl, sym, ap, subst, ◌∙◌, inl, inr, arith}
use Rattle.std.proofs.lemmas.List.{map-append}
use Rattle.linked_list.specs.Links.{In}
use Rattle.orders.specs.declared.place.At.{At}
use Rattle.orders.specs.declared.place.At.TheVariants.{Start, Entering, Leaving, Ended}
use Rattle.orders.specs.declared.walk_result.WalkResult.{WalkResult}
use Rattle.orders.specs.declared.walk_result.WalkResult.TheVariants.{Advance, Skip, Break}
use Rattle.orders.specs.Logs.{Ending, ended, broken, GoesOn, Hidden, Next, Shown, Unbroken, Walked, shown, nodes as shown_nodes}
use Rattle.orders.specs.Order.{Less}
use Rattle.orders.specs.Places.{Links, goes}
use Rattle.orders.proofs.Logs.{less_same}
use Rattle.orders.proofs.Runs.{nil_cons}
use Rattle.records.specs.declared.ir_node.IRNode.{IRNode}
use Rattle.walkers.specs.Bare.{bare}
use Rattle.walkers.specs.HeldWalks.{with_answer}

bare_skip : {B : Type 0} (a : WalkResult B) → Skip ≡ bare a → Skip ≡ a
bare_skip Advance e = absurd (let z : ◌≡◌ {A = ℕ} 0 1 = cc in omega arith)
bare_skip Skip e = refl
bare_skip (Break b) e = absurd (let z : ◌≡◌ {A = ℕ} 0 1 = cc in omega arith)

bare_break : {B : Type 0} (a : WalkResult B) (b : Unit {0}) → bare a ≡ Break b → (c : B) × (a ≡ Break c)
bare_break Advance b e = absurd (let z : ◌≡◌ {A = ℕ} 0 1 = cc in omega arith)
bare_break Skip b e = absurd (let z : ◌≡◌ {A = ℕ} 0 1 = cc in omega arith)
bare_break (Break c) b e = (c, refl)

bare_goes : {B : Type 0} (a : WalkResult B) → GoesOn a → GoesOn (bare a)
bare_goes Advance g = g
bare_goes Skip g = g
bare_goes (Break b) g = g

goes_bare : {B : Type 0} (a : WalkResult B) → GoesOn (bare a) → GoesOn a
goes_bare Advance g = g
goes_bare Skip g = g
goes_bare (Break b) g = g

-- where a walk goes does not hang on the value
pub same_way : {N B : Type 0} (L : Links N) (root : N) (S : N → Bool) (at : At N) (a : WalkResult B) → goes L root S at (bare a) ≡ goes L root S at a
same_way L root S Start a = refl
same_way L root S (Entering n) Advance = refl
same_way L root S (Entering n) Skip = refl
same_way L root S (Entering n) (Break b) = refl
same_way L root S (Leaving n) Advance = refl
same_way L root S (Leaving n) Skip = refl
same_way L root S (Leaving n) (Break b) = refl
same_way L root S Ended a = refl

same_tail : {X : Type 0} {x y : X} {xs ys : List X} → x ∷ xs ≡ y ∷ ys → xs ≡ ys
same_tail e = cc

same_head : {X : Type 0} {x y : X} {xs ys : List X} → x ∷ xs ≡ y ∷ ys → x ≡ y
same_head e = cc

module _ {N B : Type 0} where
  abbrev bare_shown : Shown N B → Shown N (Unit {0})
  bare_shown s = shown s.node (bare s.answer)

  abbrev pub bare_log : List (Shown N B) → List (Shown N (Unit {0}))
  bare_log = map bare_shown

  bare_nodes : (log : List (Shown N B)) → shown_nodes (bare_log log) ≡ shown_nodes log
  bare_nodes [] = refl
  bare_nodes (s ∷ log) = ap (λ l. s.node ∷ l) (bare_nodes log)

  bare_unbroken : (log : List (Shown N B)) → Unbroken log → Unbroken (bare_log log)
  bare_unbroken [] u = u
  bare_unbroken (s ∷ log) u = (bare_goes s.answer u.0, bare_unbroken log u.1)

  unbroken_bare : (log : List (Shown N B)) → Unbroken (bare_log log) → Unbroken log
  unbroken_bare [] u = u
  unbroken_bare (s ∷ log) u = (goes_bare s.answer u.0, unbroken_bare log u.1)

  skipped_bare : (n : N) (log : List (Shown N B)) → In (shown n Skip) log → In (shown n Skip) (bare_log log)
  skipped_bare n [] i = i
  skipped_bare n (s ∷ log) (inl e) = inl (ap bare_shown e)
  skipped_bare n (s ∷ log) (inr i) = inr (skipped_bare n log i)

  same_shown : (n m : N) (a b : WalkResult B) → n ≡ m → a ≡ b → shown n a ≡ shown m b
  same_shown n m a b p q = cc

  bare_skipped : (n : N) (log : List (Shown N B)) → In (shown n Skip) (bare_log log) → In (shown n Skip) log
  bare_skipped n [] i = i
  bare_skipped n (s ∷ log) (inl e) =
      inl (same_shown n s.node Skip s.answer (ap (λ (x : Shown N (Unit {0})). x.node) e) (bare_skip s.answer (ap (λ (x : Shown N (Unit {0})). x.answer) e)))
  bare_skipped n (s ∷ log) (inr i) = inr (bare_skipped n log i)

  bare_ending : (log : List (Shown N B)) (less : List N) (r : WalkResult B) → Ending log less r → Ending (bare_log log) less (bare r)
  bare_ending log less r (ended u e) = ended (bare_unbroken log u) (bare_nodes log ∙ e)
  bare_ending log less r (broken before n b rest l u e) =
      broken (bare_log before) n tt rest (ap bare_log l ∙ map-append bare_shown before (shown n (Break b) ∷ [])) (bare_unbroken before u) (ap (λ ns. ns ++ rest) (bare_nodes log) ∙ e)

  same_more : (s : Shown N B) (xs ys : List (Shown N B)) → xs ≡ ys → s ∷ xs ≡ s ∷ ys
  same_more s xs ys e = cc

  one_shown : (s : Shown N B) (n : N) (b : Unit {0}) → bare_shown s ≡ shown n (Break b) → (c : B) × (s ≡ shown n (Break c))
  one_shown s n b e =
      let q = bare_break s.answer b (ap (λ (x : Shown N (Unit {0})). x.answer) e) in
      (q.0, same_shown s.node n s.answer (Break q.0) (ap (λ (x : Shown N (Unit {0})). x.node) e) q.1)

  -- where a log ends with a Break without its value, the log with values ends with one with its value
  last_broken : (log : List (Shown N B)) (before : List (Shown N (Unit {0}))) (n : N) (b : Unit {0}) → bare_log log ≡ before ++ (shown n (Break b) ∷ []) → Unbroken before
      → (earlier : List (Shown N B)) × (c : B) × (log ≡ earlier ++ (shown n (Break c) ∷ [])) × Unbroken earlier
  last_broken [] [] n b e u = absurd (nil_cons e)
  last_broken [] (x ∷ before) n b e u = absurd (nil_cons e)
  last_broken (s ∷ []) [] n b e u = let q = one_shown s n b (same_head e) in ([], q.0, ap (λ (x : Shown N B). x ∷ []) q.1, tt)
  last_broken (s ∷ t ∷ log) [] n b e u = absurd (nil_cons (sym (same_tail e)))
  last_broken (s ∷ log) (x ∷ before) n b e u =
      let q = last_broken log before n b (same_tail e) u.1 in
      let g : GoesOn (bare s.answer) = subst (λ (z : Shown N (Unit {0})). GoesOn z.answer) (sym (same_head e)) u.0 in
      (s ∷ q.0, q.1, same_more s log (q.0 ++ (shown n (Break q.1) ∷ [])) q.2, (goes_bare s.answer g, q.3))

  ending_bare : (log : List (Shown N B)) (less : List N) (r : WalkResult (Unit {0})) → Ending (bare_log log) less r → (say : WalkResult B) × Ending log less say
  ending_bare log less r (ended u e) = (Advance, ended (unbroken_bare log u) (sym (bare_nodes log) ∙ e))
  ending_bare log less r (broken before n b rest l u e) =
      let q = last_broken log before n b l u in
      (Break q.1, broken q.0 n q.1 rest q.2 q.3 (ap (λ ns. ns ++ rest) (sym (bare_nodes log)) ∙ e))

  module _ (p : N → Option N) (first : N → Bool) (children : N → List N) (root : N) where
    hidden_bare : (log : List (Shown N B)) (x : N) → Hidden p first log x → Hidden p first (bare_log log) x
    hidden_bare log x h = record { by = h.by; first = h.first; skipped = skipped_bare h.by log h.skipped; inside = h.inside }

    bare_hidden : (log : List (Shown N B)) (x : N) → Hidden p first (bare_log log) x → Hidden p first log x
    bare_hidden log x h = record { by = h.by; first = h.first; skipped = bare_skipped h.by log h.skipped; inside = h.inside }

    pub bare_walked : (log : List (Shown N B)) (r : WalkResult B) → Walked p first children root log r → Walked p first children root (bare_log log) (bare r)
    bare_walked log r w = record {
      whole = w.whole;
      is_whole = w.is_whole;
      less = w.less;
      cut = less_same (λ x h g. h (bare_hidden log x g)) (λ x h g. h (hidden_bare log x g)) w.cut;
      ending = bare_ending log w.less r w.ending;
    }

    -- what is cut by the log without values is cut by the log
    cut_bare : (log : List (Shown N B)) (xs ys : List N) → Less (λ x. Hidden p first (bare_log log) x → ⊥) xs ys → Less (λ x. Hidden p first log x → ⊥) xs ys
    cut_bare log xs ys c = less_same (λ x h g. h (hidden_bare log x g)) (λ x h g. h (bare_hidden log x g)) c

    walked_bare : (log : List (Shown N B)) (r : WalkResult (Unit {0})) → Walked p first children root (bare_log log) r → (say : WalkResult B) × Walked p first children root log say
    walked_bare log r w =
        let q = ending_bare log w.less r w.ending in
        (q.0, record { whole = w.whole; is_whole = w.is_whole; less = w.less; cut = cut_bare log w.whole w.less w.cut; ending = q.1 })

    -- the next node after a log without values is that after the log with them
    pub next_bare : (log : List (Shown N B)) (r : Option N) → Next p first children root (bare_log log) r → Next p first children root log r
    next_bare log r n = record {
      comes = λ u.
          let c = n.comes (bare_unbroken log u) in
          let cut = cut_bare log c.1.whole (shown_nodes (bare_log log) ++ c.0) c.1.cut in (
            c.0,
            record {
              whole = c.1.whole;
              is_whole = c.1.is_whole;
              unbroken = u;
              cut = subst (λ (ns : List N). Less (λ x. Hidden p first log x → ⊥) c.1.whole (ns ++ c.0)) (bare_nodes log) cut;
            },
            c.2,
          );
      stops = λ h. n.stops (λ u. h (unbroken_bare log u));
      ends = λ e. let w = n.ends e in walked_bare log w.0 w.1;
    }

-- the log with an answer, without values
pub bare_answered : {B : Type 0} (last : Option IRNode) (log : List (Shown IRNode B)) (a : WalkResult B) → with_answer last (bare_log log) (bare a) ≡ bare_log (with_answer last log a)
bare_answered None log a = refl
bare_answered {B} (Some n) log a = sym (map-append (bare_shown {B = B}) log (shown n a ∷ []))
