-- Going over the entries: counting those that are used, and finding one of a table that is not kept.
use Rattle.std.proofs.Common.{◌≡◌, ℕ, zero, suc, ◌+◌, ◌<◌, ◌≤◌, Bool, true, false, [], ◌∷◌, length, take, Some, None, Option, IsSome, is_some, vec_items, sym, refl, ap, ◌∙◌, subst, ⊎_elim, arith, take_all}
use Rattle.std.proofs.lemmas.Bool.{cases_eq, true≢false}
use Rattle.records.specs.declared.handles.OpPtr.{OpPtr}
use Rattle.table.specs.Maps.{MapEntry, entry_at, weigh, used}
use Rattle.table.proofs.Entries.{not_free, same_key, used_within}
use Rattle.mappings.specs.declared.mappings.Mappings.{Mappings}
use Rattle.mappings.specs.declared.name_in.NameIn.{NameIn}
use Rattle.mappings.specs.Deciding.{name_in}
use Rattle.mappings.specs.Edits.{Taken}
use Rattle.mappings.specs.Held.{held_count, mapped}
use Rattle.mappings.proofs.Holding.{probed, found, count_is}
use Rattle.mappings.proofs.Looking.{Entries, looked}

-- How many of the first entries are used.

weigh_used : (e : MapEntry NameIn OpPtr) → is_some e ≡ true → weigh e ≡ 1
weigh_used None h = absurd (let z : ◌≡◌ {A = ℕ} 0 1 = cc in omega arith)
weigh_used (Some p) h = refl

weigh_free : (e : MapEntry NameIn OpPtr) → is_some e ≡ false → weigh e ≡ 0
weigh_free None h = refl
weigh_free (Some p) h = absurd (let z : ◌≡◌ {A = ℕ} 0 1 = cc in omega arith)

used_more : (es : Entries) (i : ℕ) → i < length es → used (take (suc i) es) ≡ used (take i es) + weigh (entry_at es i)
unfolding used
used_more [] i h = absurd (omega arith)
used_more (e ∷ es) zero h = omega arith
used_more (e ∷ es) (suc i) h = let rest = used_more es i (omega arith) in omega arith

one_more : (es : Entries) (i : ℕ) → i < length es → used (take (i + 1) es) ≡ used (take i es) + weigh (entry_at es i)
one_more es i h =
    let next : suc i ≡ i + 1 = omega arith in
    subst (λ (n : ℕ). used (take n es) ≡ used (take i es) + weigh (entry_at es i)) next (used_more es i h)

pub none_counted : (es : Entries) → 0 ≡ used (take 0 es)
unfolding used
none_counted es = refl

pub counted_used : (es : Entries) (i n : ℕ) → i < length es → n ≡ used (take i es) → is_some (entry_at es i) ≡ true → n + 1 ≡ used (take (i + 1) es)
counted_used es i n h e s = let more = one_more es i h in let w = weigh_used (entry_at es i) s in omega arith

pub counted_free : (es : Entries) (i n : ℕ) → i < length es → n ≡ used (take i es) → is_some (entry_at es i) ≡ false → n ≡ used (take (i + 1) es)
counted_free es i n h e s = let more = one_more es i h in let w = weigh_free (entry_at es i) s in omega arith

pub counted_all : (m : Mappings) (xs : Entries) (i n : ℕ) → xs ≡ vec_items m.entries → length xs ≤ i → n ≡ used (take i xs) → n ≡ held_count m
counted_all m xs i n e h c = c ∙ ap used (take_all i xs h) ∙ ap used e ∙ count_is m

-- Names of tables that are not kept.

-- no entry before a place holds a name of such a table
pub record NoneBefore (keeps : OpPtr → Bool) (es : Entries) (n : ℕ) : Type 0 where
  pub none : (i : ℕ) (k : NameIn) (op : OpPtr) → i < n → entry_at es i ≡ Some (k, op) → keeps k.table ≡ false → ⊥

module _ (keeps : OpPtr → Bool) where
  none_more : (es : Entries) (n : ℕ) → NoneBefore keeps es n → ((k : NameIn) (op : OpPtr) → entry_at es n ≡ Some (k, op) → keeps k.table ≡ false → ⊥) → NoneBefore keeps es (n + 1)
  none_more es n before here = record {
    none = λ i k op h e out.
        ⊎_elim
        (λ (at : i ≡ n). here k op (ap (entry_at es) (sym at) ∙ e) out)
        (λ (other : i ≡ n → ⊥). before.none i k op (omega arith) e out)
        (cases_eq i n);
  }

  -- an entry that is free holds none
  pub none_more_free : (es : Entries) (n : ℕ) → NoneBefore keeps es n → entry_at es n ≡ None → NoneBefore keeps es (n + 1)
  none_more_free es n before free = none_more es n before (λ k op e out. not_free k op (entry_at es n) free e)

  -- nor does one that a table uses which is kept
  pub none_more_used : (es : Entries) (n : ℕ) (q : NameIn) (p : OpPtr) → NoneBefore keeps es n → entry_at es n ≡ Some (q, p) → (keeps q.table ≡ false → ⊥) → NoneBefore keeps es (n + 1)
  none_more_used es n q p before is kept =
      none_more es n before (λ k op e out. kept (ap (λ (x : NameIn). keeps x.table) (same_key k q op p (entry_at es n) e is) ∙ out))

  -- tables that are not kept, of which no entry holds a name, have none
  pub none_named : (m : Mappings) (xs : Entries) (n : ℕ) → xs ≡ vec_items m.entries → length xs ≤ n → NoneBefore keeps xs n → (table : OpPtr) (name : ℕ) → keeps table ≡ false → mapped m table name ≡ None
  none_named m xs n f h before table name out =
      sym (found m xs table name None f
      (λ p i op e. before.none i (name_in table name) op (let within = used_within xs i (name_in table name) op e in omega arith) e out))

-- the name of an entry is mapped
pub one_named : (m : Mappings) (xs : Entries) (i : ℕ) (k : NameIn) (op : OpPtr) → xs ≡ vec_items m.entries → entry_at xs i ≡ Some (k, op) → IsSome (mapped m k.table k.name)
one_named m xs i k op f e =
    let here : Some op ≡ mapped m k.table k.name = looked (vec_items m.entries) k (Some op) (probed m) (i, ap (λ (ys : Entries). entry_at ys i) (sym f) ∙ e) in
    subst IsSome here refl

-- one mapping less is held where a name is taken that was mapped
pub taken_less : (m n : Mappings) (table : OpPtr) (name : ℕ) (old : Option OpPtr) → Taken m table name old n → IsSome (mapped m table name) → held_count n < held_count m
taken_less m n table name None out h = absurd (true≢false (sym h ∙ sym (ap is_some out.was)))
taken_less m n table name (Some op) out h = let less = out.count in omega arith
