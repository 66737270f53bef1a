-- Rows whose conditions follow from one another give the same answer. Assumes nothing.
use Rattle.std.proofs.Common.{◌≡◌, ℕ, List, [], ◌∷◌, Ok, Err, Result, sym, refl, ap, ◌∙◌, subst, inl, inr, arith}
use Rattle.result.specs.Rows.{Answered, NoRow, Uppermost}
use Rattle.histories.specs.Judging.{Judged}

-- row by row the same refusal, under conditions that follow from each other
abbrev pub Alike : {E : Type 0} → List (E × Type 0) → List (E × Type 0) → Type 0
Alike [] [] = Unit {0}
Alike [] (b ∷ ys) = ⊥
Alike (a ∷ xs) [] = ⊥
Alike (a ∷ xs) (b ∷ ys) = (a.0 ≡ b.0) × (a.1 → b.1) × (b.1 → a.1) × Alike xs ys

-- the same, where the conditions of a row follow from each other when no row above it fits
abbrev pub AlikeInTurn : {E : Type 0} → List (E × Type 0) → List (E × Type 0) → Type 0
AlikeInTurn [] [] = Unit {0}
AlikeInTurn [] (b ∷ ys) = ⊥
AlikeInTurn (a ∷ xs) [] = ⊥
AlikeInTurn (a ∷ xs) (b ∷ ys) = (a.0 ≡ b.0) × (a.1 → b.1) × (b.1 → a.1) × ((a.1 → ⊥) → AlikeInTurn xs ys)

pub in_turn : {E : Type 0} (xs ys : List (E × Type 0)) → Alike xs ys → AlikeInTurn xs ys
in_turn [] [] h = h
in_turn [] (b ∷ ys) h = h
in_turn (a ∷ xs) [] h = h
in_turn (a ∷ xs) (b ∷ ys) h = (h.0, h.1, h.2, (λ no. in_turn xs ys h.3))

-- rows are alike to themselves
pub as_they_are : {E : Type 0} (xs : List (E × Type 0)) → Alike xs xs
as_they_are [] = tt
as_they_are (a ∷ xs) = (refl, (λ x. x), (λ x. x), as_they_are xs)

module _ {E : Type 0} where
  upper : (xs ys : List (E × Type 0)) (e : E) → AlikeInTurn xs ys → Uppermost xs e → Uppermost ys e
  upper [] [] e h u = u
  upper [] (b ∷ ys) e h u = absurd h
  upper (a ∷ xs) [] e h u = absurd h
  upper (a ∷ xs) (b ∷ ys) e h (inl u) = inl (u.0 ∙ h.0, h.1 u.1)
  upper (a ∷ xs) (b ∷ ys) e h (inr u) = inr (λ x. u.0 (h.2 x), upper xs ys e (h.3 u.0) u.1)

  none : (xs ys : List (E × Type 0)) → AlikeInTurn xs ys → NoRow xs → NoRow ys
  none [] [] h u = u
  none [] (b ∷ ys) h u = absurd h
  none (a ∷ xs) [] h u = absurd h
  none (a ∷ xs) (b ∷ ys) h u = (λ x. u.0 (h.2 x), none xs ys (h.3 u.0) u.1)

  one_row : (rows : List (E × Type 0)) (d e : E) → Uppermost rows d → Uppermost rows e → d ≡ e
  one_row [] d e x y = absurd x
  one_row (r ∷ rs) d e (inl x) (inl y) = x.0 ∙ sym y.0
  one_row (r ∷ rs) d e (inl x) (inr y) = absurd (y.0 x.1)
  one_row (r ∷ rs) d e (inr x) (inl y) = absurd (x.0 y.1)
  one_row (r ∷ rs) d e (inr x) (inr y) = one_row rs d e x.1 y.1

  no_row : (rows : List (E × Type 0)) (e : E) → NoRow rows → Uppermost rows e → ⊥
  no_row [] e x y = y
  no_row (r ∷ rs) e x (inl y) = x.0 y.1
  no_row (r ∷ rs) e x (inr y) = no_row rs e x.1 y.1

ok_err : {X E : Type 0} {x : X} {e : E} → ◌≡◌ {A = Result X E} (Ok x) (Err e) → ⊥
ok_err q = let z : ◌≡◌ {A = ℕ} 0 1 = cc in omega arith

err_same : {X E : Type 0} {d e : E} → ◌≡◌ {A = Result X E} (Err d) (Err e) → d ≡ e
err_same q = cc

-- a call that is done in one way is done in another, by rows that are alike
pub answered : {S X E : Type 0} (xs ys : List (E × Type 0)) (done told : X → S → Type 0) (s : S) (r : Result X E) (t : S) → Alike xs ys → ((x : X) → done x t → told x t)
    → Answered xs done s r t → Answered ys told s r t
answered xs ys done told s (Ok x) t h f a = (none xs ys (in_turn xs ys h) a.0, f x a.1)
answered xs ys done told s (Err e) t h f a = (upper xs ys e (in_turn xs ys h) a.0, a.1)

-- what rows answer, rows that are alike judge
pub judged_in_turn : {S X E : Type 0} (xs ys : List (E × Type 0)) (done : X → S → Type 0) (s : S) (r : Result X E) (t : S) → AlikeInTurn xs ys → Answered xs done s r t → Judged ys r
judged_in_turn xs ys done s (Ok x) t h a = record {
  by_row = λ e q. absurd (ok_err q);
  denied = λ e u. absurd (no_row ys e (none xs ys h a.0) u);
  granted = λ y q. none xs ys h a.0;
}
judged_in_turn {X = X} xs ys done s (Err d) t h a = record {
  by_row = λ e q. subst (Uppermost ys) (err_same {X = X} q) (upper xs ys d h a.0);
  denied = λ e u. ap (λ z. Err z) (one_row ys d e (upper xs ys d h a.0) u);
  granted = λ y q. absurd (ok_err (sym q));
}

pub judged : {S X E : Type 0} (xs ys : List (E × Type 0)) (done : X → S → Type 0) (s : S) (r : Result X E) (t : S) → Alike xs ys → Answered xs done s r t → Judged ys r
judged xs ys done s r t h a = judged_in_turn xs ys done s r t (in_turn xs ys h) a
