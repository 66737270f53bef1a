-- From what the map's calls ensure to what the calls of the mappings do.
use Rattle.std.proofs.Common.{◌≡◌, ℕ, ◌≤◌, List, [], length, replicate, Some, None, Ok, Err, vec_items, vec_len, Option, Result, Vec, sym, ap, ◌∙◌, subst, arith}
use mathlib.Core.Logic.{∥∥₁_prop}
use native.Mathlib.Nat.{ℕ_set}
use Rattle.std.specs.Vec.{with_items}
use Rattle.std.proofs.lemmas.List.{with_items_is}
use Rattle.std.specs.Global.{Global}
use Rattle.records.specs.declared.handles.OpPtr.{OpPtr}
use Rattle.table.specs.declared.entry.Full.{Full}
use Rattle.table.specs.Maps as maps
use Rattle.table.specs.Maps.{MapEntry, Maps, Probed, Inserted, Updated, fresh}
use Rattle.table.proofs.Laws.{whole, unused_probed}
use Rattle.mappings.specs.declared.mappings.Mappings.{Mappings}
use Rattle.mappings.specs.declared.name_in.NameIn.{NameIn}
use Rattle.mappings.specs.Deciding.{name_in}
use Rattle.mappings.specs.Edits.{Changed, Puts, Taken}
use Rattle.mappings.specs.Hashing.{name_in_hash}
use Rattle.mappings.specs.Held.{held_count, mapped, pairs}
use Rattle.mappings.proofs.Looking.{Entries, look, looked, look_here, look_others, used_pairs, unused_pairs, pairs_few}

-- Reading mappings.

pub probed : (m : Mappings) → Probed name_in_hash (vec_items m.entries)
probed m = whole name_in_hash (vec_items m.entries) m.probed

-- the entries that are lent are those that are held
probed_in : (m : Mappings) (xs : Entries) → xs ≡ vec_items m.entries → Probed name_in_hash xs
probed_in m xs e = subst (Probed name_in_hash) (sym e) (probed m)

pub found : (m : Mappings) (xs : Entries) (table : OpPtr) (name : ℕ) (r : Option OpPtr) → xs ≡ vec_items m.entries → (Probed name_in_hash xs → Maps xs (name_in table name) r) → r ≡ mapped m table name
found m xs table name r e f = looked xs (name_in table name) r (probed_in m xs e) (f (probed_in m xs e)) ∙ ap (λ (ys : Entries). look ys (name_in table name)) e

pub count_is : (m : Mappings) → maps.used (vec_items m.entries) ≡ held_count m
count_is m = used_pairs (vec_items m.entries)

-- What is left behind.

-- a vector that comes back with the items that it lent is the same vector
vec_back : {X Z : Type 0} (v : Vec X Z) (us : List X) (q : v.len ≡ length us) → us ≡ v.items → ◌≡◌ {A = Vec X Z} (record { ptr = v.ptr; len = v.len; cap = v.cap; alloc = v.alloc; items = us; ok = (q, v.ok.1); small = v.small }) v
vec_back {X} {Z} v us q e =
    let P : List X → Type 0 = λ ys. (p : v.len ≡ length ys) → ◌≡◌ {A = Vec X Z} (record { ptr = v.ptr; len = v.len; cap = v.cap; alloc = v.alloc; items = ys; ok = (p, v.ok.1); small = v.small }) v in
    let base : P v.items = λ p. ap (λ (o : v.len ≡ length v.items). record { ptr = v.ptr; len = v.len; cap = v.cap; alloc = v.alloc; items = v.items; ok = (o, v.ok.1); small = v.small }) (ℕ_set _ _ p v.ok.0) in
    subst P (sym e) base q

lent_back : {X Z : Type 0} (v : Vec X Z) (ws : List X) → ws ≡ v.items → length ws ≡ v.len → with_items v ws ≡ v
lent_back v ws e l = vec_back v (with_items v ws).items (with_items v ws).ok.0 (with_items_is v ws l ∙ e)

-- mappings are their entries
same_mappings : (n m : Mappings) → n.entries ≡ m.entries → n ≡ m
same_mappings n m e =
    let P : Vec (MapEntry NameIn OpPtr) Global → Type 0 = λ x. (l : vec_len x ≡ 512) (p : ∥ Probed name_in_hash (vec_items x) ∥₁) → ◌≡◌ {A = Mappings} (record { entries = x; long = l; probed = p }) m in
    let base : P m.entries = λ l p.
    ap (λ (o : vec_len m.entries ≡ 512). record { entries = m.entries; long = o; probed = p }) (ℕ_set _ _ l m.long)
    ∙ ap (λ (o : ∥ Probed name_in_hash (vec_items m.entries) ∥₁). record { entries = m.entries; long = m.long; probed = o }) (∥∥₁_prop p m.probed) in
    subst P (sym e) base n.long n.probed

back : (m : Mappings) (xs fs : Entries) → length xs ≡ vec_len m.entries → length fs ≡ length xs → vec_items (with_items m.entries fs) ≡ fs
back m xs fs l long = with_items_is m.entries fs (long ∙ l)

unchanged : (m n : Mappings) (xs fs : Entries) → xs ≡ vec_items m.entries → length xs ≡ vec_len m.entries → n.entries ≡ with_items m.entries fs → fs ≡ xs → n ≡ m
unchanged m n xs fs e l f same = same_mappings n m (f ∙ lent_back m.entries fs (same ∙ e) (ap length same ∙ l))

names_differ : (t table : OpPtr) (i name : ℕ) → (t ≡ table → i ≡ name → ⊥) → name_in t i ≡ name_in table name → ⊥
names_differ t table i name other e = other (ap (λ (k : NameIn). k.table) e) (ap (λ (k : NameIn). k.name) e)

changed : (m n : Mappings) (xs fs : Entries) (table : OpPtr) (name : ℕ) (old new : Option OpPtr) → xs ≡ vec_items m.entries → fs ≡ vec_items n.entries → Updated name_in_hash xs (name_in table name) old new fs → Changed m table name new n
changed m n xs fs table name old new e f u = record {
  here = ap (λ (ys : Entries). look ys (name_in table name)) (sym f) ∙ look_here xs fs (name_in table name) old new u;
  others = λ t i other.
      ap (λ (ys : Entries). look ys (name_in t i)) (sym f)
      ∙ look_others xs fs (name_in table name) old new u (name_in t i) (names_differ t table i name other)
      ∙ ap (λ (ys : Entries). look ys (name_in t i)) e;
}

-- Putting.

long_in : (xs fs : Entries) (k : NameIn) (op : OpPtr) (r : Result (Option OpPtr) Full) → Inserted name_in_hash xs k op r fs → length fs ≡ length xs
long_in xs fs k op (Ok old) put = put.long
long_in xs fs k op (Err e) refusal = ap length refusal.same

put_probed : (xs fs : Entries) (k : NameIn) (op : OpPtr) (r : Result (Option OpPtr) Full) → Probed name_in_hash xs → Inserted name_in_hash xs k op r fs → Probed name_in_hash fs
put_probed xs fs k op (Ok old) p put = (put.map p).probed
put_probed xs fs k op (Err e) p refusal = subst (Probed name_in_hash) (sym refusal.same) p

pub put_keeps : (m : Mappings) (xs fs : Entries) (k : NameIn) (op : OpPtr) (r : Result (Option OpPtr) Full) → xs ≡ vec_items m.entries → length xs ≡ vec_len m.entries → Inserted name_in_hash xs k op r fs → ∥ Probed name_in_hash (vec_items (with_items m.entries fs)) ∥₁
put_keeps m xs fs k op r e l put =
    ∣ subst (Probed name_in_hash) (sym (back m xs fs l (long_in xs fs k op r put))) (put_probed xs fs k op r (probed_in m xs e) put) ∣₁

-- how many are held, by the entries
counted : (m : Mappings) (xs : Entries) → xs ≡ vec_items m.entries → maps.used xs ≡ held_count m
counted m xs e = ap maps.used e ∙ count_is m

pub held_few : (m : Mappings) → held_count m ≤ 512
held_few m = let few = pairs_few (vec_items m.entries) in let long = m.long in let size = m.entries.ok.0 in omega arith

-- the entries that come back are those that are held then
returned : (m n : Mappings) (xs fs : Entries) → length xs ≡ vec_len m.entries → length fs ≡ length xs → n.entries ≡ with_items m.entries fs → fs ≡ vec_items n.entries
returned m n xs fs l long g = sym (ap (λ (v : Vec (MapEntry NameIn OpPtr) Global). vec_items v) g ∙ back m xs fs l long)

pub puts : (m n : Mappings) (xs fs : Entries) (table : OpPtr) (name : ℕ) (op : OpPtr) (r : Result (Option OpPtr) Full)
    → xs ≡ vec_items m.entries → length xs ≡ vec_len m.entries → n.entries ≡ with_items m.entries fs → Inserted name_in_hash xs (name_in table name) op r fs → Puts m table name op r n
puts m n xs fs table name op (Ok old) e l g put =
    let u : Updated name_in_hash xs (name_in table name) old (Some op) fs = put.map (probed_in m xs e) in
    let f : fs ≡ vec_items n.entries = returned m n xs fs l put.long g in
    let before = counted m xs e in
    let after = counted n fs f in
    let more = put.counts in
    record {
      was = found m xs table name old e (λ p. u.was);
      room = λ z. let one : fresh old ≡ 1 = ap fresh z in let few = held_few n in omega arith;
      changed = changed m n xs fs table name old (Some op) e f u;
      count = omega arith;
    }
puts m n xs fs table name op (Err x) e l g refusal = record {
  new = sym (found m xs table name None e (λ p. refusal.new));
  full = let all = refusal.full in let before = counted m xs e in let long = m.long in omega arith;
  same = unchanged m n xs fs e l g refusal.same;
}

-- Taking away.

pub take_keeps : (m : Mappings) (xs fs : Entries) (k : NameIn) (r : Option OpPtr) → xs ≡ vec_items m.entries → length xs ≡ vec_len m.entries → maps.Taken name_in_hash xs k r fs → ∥ Probed name_in_hash (vec_items (with_items m.entries fs)) ∥₁
take_keeps m xs fs k r e l out =
    ∣ subst (Probed name_in_hash) (sym (back m xs fs l out.long)) (out.map (probed_in m xs e)).probed ∣₁

pub takes : (m n : Mappings) (xs fs : Entries) (table : OpPtr) (name : ℕ) (r : Option OpPtr)
    → xs ≡ vec_items m.entries → length xs ≡ vec_len m.entries → n.entries ≡ with_items m.entries fs → maps.Taken name_in_hash xs (name_in table name) r fs → Taken m table name r n
takes m n xs fs table name r e l g out =
    let u : Updated name_in_hash xs (name_in table name) r None fs = out.map (probed_in m xs e) in
    let f : fs ≡ vec_items n.entries = returned m n xs fs l out.long g in
    record {
      was = found m xs table name r e (λ p. u.was);
      changed = changed m n xs fs table name r None e f u;
      count = let before = counted m xs e in let after = counted n fs f in let less = out.counts in omega arith;
      same = λ z. unchanged m n xs fs e l g (out.same z);
    }

-- Nothing is held at first.

pub none_probed : (es : Entries) → es ≡ replicate 512 None → ∥ Probed name_in_hash es ∥₁
none_probed es e = ∣ subst (Probed name_in_hash) (sym e) (unused_probed name_in_hash 512) ∣₁

pub none_held : (es : Entries) → es ≡ replicate 512 None → pairs es ≡ []
none_held es e = ap pairs e ∙ unused_pairs 512
