-- The order of places on the way round from a start.
use Rattle.std.proofs.Common.{◌≡◌, ℕ, ◌+◌, ◌<◌, ◌≤◌, ◌⊎◌, cond, ltb, inl, inr, ⊎_elim, arith}
use Rattle.std.proofs.lemmas.Bool.{cases_lt, lt-ltb, le-ltb, cond-true, cond-false}
use Rattle.table.specs.Maps.{Before, straight, to_end, from_front}

pub itself : (n h i : ℕ) → Before n h i i → ⊥
itself n h i (straight lo lt) = omega arith
itself n h i (to_end lt lo hi) = omega arith
itself n h i (from_front lt hi) = omega arith

pub along : (n h m p j : ℕ) → Before n h m p → Before n h p j → Before n h m j
along n h m p j (straight a b) (straight c d) = straight a (omega arith)
along n h m p j (straight a b) (to_end c d e) = to_end c a (omega arith)
along n h m p j (straight a b) (from_front c d) = absurd (omega arith)
along n h m p j (to_end a b c) (straight d e) = absurd (omega arith)
along n h m p j (to_end a b c) (to_end d e f) = absurd (omega arith)
along n h m p j (to_end a b c) (from_front d e) = to_end d b c
along n h m p j (from_front a b) (straight d e) = absurd (omega arith)
along n h m p j (from_front a b) (to_end d e f) = absurd (omega arith)
along n h m p j (from_front a b) (from_front d e) = from_front d (omega arith)

-- of two places one comes before the other
pub order : (n h i j : ℕ) → i < n → j < n → (i ≡ j → ⊥) → Before n h i j ⊎ Before n h j i
order n h i j lo hi ne =
    ⊎_elim
    (λ (a : i < h).
    ⊎_elim
    (λ (b : j < h). ⊎_elim (λ (lt : i < j). inl (from_front b lt)) (λ (ge : j ≤ i). inr (from_front a (omega arith))) (cases_lt i j))
    (λ (b : h ≤ j). inr (to_end a b hi))
    (cases_lt j h))
    (λ (a : h ≤ i).
    ⊎_elim
    (λ (b : j < h). inl (to_end b a lo))
    (λ (b : h ≤ j). ⊎_elim (λ (lt : i < j). inl (straight a lt)) (λ (ge : j ≤ i). inr (straight b (omega arith))) (cases_lt i j))
    (cases_lt j h))
    (cases_lt i h)

-- where a way from h passes p, what lies between p and its end lies on it
pub beyond : (n h p f i : ℕ) → Before n h p i → Before n (p + 1) f i → Before n h f i
beyond n h p f i (straight a b) (straight c d) = straight (omega arith) d
beyond n h p f i (straight a b) (to_end c d e) = absurd (omega arith)
beyond n h p f i (straight a b) (from_front c d) = absurd (omega arith)
beyond n h p f i (to_end a b c) (straight d e) = absurd (omega arith)
beyond n h p f i (to_end a b c) (to_end d e f1) = to_end a (omega arith) f1
beyond n h p f i (to_end a b c) (from_front d e) = from_front a e
beyond n h p f i (from_front a b) (straight c d) = from_front a d
beyond n h p f i (from_front a b) (to_end c d e) = absurd (omega arith)
beyond n h p f i (from_front a b) (from_front c d) = absurd (omega arith)

-- How far along a place is: places before the start come after those up to the end.
unfoldable pub far : ℕ → ℕ → ℕ → ℕ
far n h i = cond (ltb i h) (i + n) i

far_front : (n h i : ℕ) → i < h → far n h i ≡ i + n
unfolding far
far_front n h i lt = cond-true (ltb i h) (i + n) i (lt-ltb i h lt)

far_back : (n h i : ℕ) → h ≤ i → far n h i ≡ i
unfolding far
far_back n h i le = cond-false (ltb i h) (i + n) i (le-ltb i h le)

pub farther : (n h j i : ℕ) → Before n h j i → far n h j < far n h i
farther n h j i (straight lo lt) =
    let a = far_back n h j lo in
    let hi : h ≤ i = omega arith in
    let b = far_back n h i hi in
    omega arith
farther n h j i (to_end lt lo hi) =
    let a = far_back n h j lo in
    let b = far_front n h i lt in
    omega arith
farther n h j i (from_front lt hi) =
    let front : j < h = omega arith in
    let a = far_front n h j front in
    let b = far_front n h i lt in
    omega arith
