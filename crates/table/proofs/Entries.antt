-- Single entries, and how many of them are used.
use Rattle.std.proofs.Common.{◌≡◌, ℕ, zero, suc, ◌+◌, ◌<◌, ◌≤◌, List, [], ◌∷◌, length, set, sym, refl, ap, ◌∙◌, subst, ⊎_elim, arith, Some, None, unwrap_or}
use Rattle.std.proofs.lemmas.List.{get_or_past}
use Rattle.std.proofs.lemmas.Bool.{cases_lt}
use Rattle.table.specs.Maps.{MapEntry, entry_at, weigh, used}
use Rattle.table.specs.Search.{UsedBy}

module _ {K V : Type 0} where
  pub not_free : (k : K) (v : V) (e : MapEntry K V) → e ≡ None → e ≡ Some (k, v) → ⊥
  not_free k v e p q = let z : ◌≡◌ {A = ℕ} 0 1 = cc in omega arith

  pub same_key : (k q : K) (v w : V) (e : MapEntry K V) → e ≡ Some (k, v) → e ≡ Some (q, w) → q ≡ k
  same_key k q v w e p r = ap (λ (x : MapEntry K V). (unwrap_or x (k, v)).0) (sym r ∙ p)

  pub used_within : (es : List (MapEntry K V)) (i : ℕ) (k : K) (v : V) → entry_at es i ≡ Some (k, v) → i < length es
  used_within es i k v e =
      ⊎_elim
      (λ (h : i < length es). h)
      (λ (h : length es ≤ i). absurd (not_free k v (entry_at es i) (get_or_past es i None h) e))
      (cases_lt i (length es))

  -- What uses an entry.

  pub used_by : (P : K → Type 0) (e : MapEntry K V) (q : K) (v : V) → e ≡ Some (q, v) → P q → UsedBy P e
  used_by P e q v is p = subst (UsedBy P) (sym is) p

  pub user : (P : K → Type 0) (e : MapEntry K V) (q : K) (v : V) → UsedBy P e → e ≡ Some (q, v) → P q
  user P e q v u is = subst (UsedBy P) is u

  pub user_not_free : (P : K → Type 0) (e : MapEntry K V) → UsedBy P e → e ≡ None → ⊥
  user_not_free P e u is = subst (UsedBy P) is u

  pub user_weighs : (P : K → Type 0) (e : MapEntry K V) → UsedBy P e → weigh e ≡ 1
  user_weighs P None u = absurd u
  user_weighs P (Some (q, v)) u = refl

  -- Counting.

  weigh_most : (e : MapEntry K V) → weigh e ≤ 1
  weigh_most None = omega arith
  weigh_most (Some (k, v)) = omega arith

  pub used_most : (es : List (MapEntry K V)) → used es ≤ length es
  unfolding used
  used_most [] = omega arith
  used_most (e ∷ es) = let rest = used_most es in let one = weigh_most e in omega arith

  pub used_all : (es : List (MapEntry K V)) → ((i : ℕ) → i < length es → weigh (entry_at es i) ≡ 1) → used es ≡ length es
  unfolding used
  used_all [] all = refl
  used_all (e ∷ es) all =
      let first : weigh e ≡ 1 = all 0 (omega arith) in
      let rest = used_all es (λ i h. all (suc i) (omega arith)) in
      omega arith

  pub used_set : (es : List (MapEntry K V)) (i : ℕ) (x : MapEntry K V) → i < length es → used (set es i x) + weigh (entry_at es i) ≡ used es + weigh x
  unfolding used
  used_set [] i x h = absurd (omega arith)
  used_set (e ∷ es) zero x h = omega arith
  used_set (e ∷ es) (suc i) x h =
      let inner : i < length es = omega arith in
      let rest = used_set es i x inner in
      omega arith
