-- How many mappings there can be: those held are told apart by their names, and by the places of their operations where these are apart.
use Rattle.std.proofs.Common.{◌≡◌, ℕ, suc, ◌<◌, ◌≤◌, Bool, true, false, ◌||◌, List, [], ◌∷◌, map, length, Some, None, Ok, Err, Option, Result, IsOk, IsSome, vec_items, sym, refl, ap, ◌∙◌, subst, ⊎_elim, arith}
use Rattle.std.specs.List.{AllByRecursion, IsDistinct, list_any}
use Rattle.std.proofs.lemmas.Bool.{cases_Bool}
use Rattle.std.proofs.lemmas.Bool.Decides.{Decides-eqb, Decides-like, same_from_decides}
use Rattle.std.proofs.lemmas.List.{length-map}
use Rattle.std.proofs.lemmas.Map.Keys.{IsDistinct-cons}
use Rattle.std.proofs.lemmas.Map.Steps.{length-le_from_distinct_below, length-le_from_keys}
use Rattle.std.specs.Cmp.{IsEquivalence}
use Rattle.std.specs.Map.{keys_of}
use Rattle.std.proofs.lemmas.Map.Entries.{length-keys_of}
use Rattle.std.proofs.lemmas.Map.Made.{is_some-lookup}
use lib.Dec.{eqb}
use Rattle.records.specs.declared.handles.OpPtr.{OpPtr}
use Rattle.table.specs.declared.entry.Full.{Full}
use Rattle.table.specs.Maps.{entry_at}
use Rattle.mappings.specs.declared.mappings.Mappings.{Mappings}
use Rattle.mappings.specs.declared.name_in.NameIn.{NameIn}
use Rattle.mappings.specs.Deciding.{equal, told, same_name}
use Rattle.mappings.specs.Held.{held, held_count, mapped, pairs}
use Rattle.mappings.specs.Edits.{Puts}
use Rattle.mappings.specs.Laws.{Once, Apart, Spare}
use Rattle.mappings.proofs.Holding.{probed, held_few}
use Rattle.mappings.proofs.Looking.{Entries, looked}

no_test : (b : Bool) → (b ≡ true → ⊥) → b ≡ false
no_test b n = ⊎_elim (λ (t : b ≡ true). absurd (n t)) (λ (f : b ≡ false). f) (cases_Bool b)

-- What holds of every entry that is used holds of every pair.
module _ {B : Type 0} (f : NameIn × OpPtr → B) where
  all_pairs : (Q : B → Type 0) (es : Entries) → ((i : ℕ) (k : NameIn) (o : OpPtr) → entry_at es i ≡ Some (k, o) → Q (f (k, o))) → AllByRecursion Q (map f (pairs es))
  all_pairs Q [] all = tt
  all_pairs Q (None ∷ es) all = all_pairs Q es (λ i. all (suc i))
  all_pairs Q (Some (k, o) ∷ es) all = (all 0 k o refl, all_pairs Q es (λ i. all (suc i)))

  -- where a test tells two entries apart, it does so with the pairs
  all_apart : (e : B → B → Bool) (es : Entries) → ((i j : ℕ) (k q : NameIn) (o p : OpPtr) → entry_at es i ≡ Some (k, o) → entry_at es j ≡ Some (q, p) → e (f (k, o)) (f (q, p)) ≡ true → i ≡ j) → IsDistinct e (map f (pairs es))
  unfolding IsDistinct
  all_apart e [] apart = tt
  all_apart e (None ∷ es) apart = all_apart e es (λ i j k q o p a b t. let next : suc i ≡ suc j = apart (suc i) (suc j) k q o p a b t in omega arith)
  all_apart e (Some (k, o) ∷ es) apart = (
    all_pairs (λ (b : B). e (f (k, o)) b ≡ false) es (λ j q p b. no_test (e (f (k, o)) (f (q, p))) (λ t. let next : 0 ≡ suc j = apart 0 (suc j) k q o p refl b t in omega arith)),
    all_apart e es (λ i j q r p s a b t. let next : suc i ≡ suc j = apart (suc i) (suc j) q r p s a b t in omega arith),
  )

pub once : (m : Mappings) → Once m
once m = record {
  one = all_apart (λ (e : NameIn × OpPtr). e.0) equal (vec_items m.entries)
      (λ i j k q o p a b t. (probed m).apart i j k o p a (b ∙ ap (λ (x : NameIn). Some (x, p)) (sym ((told k q).0 t))));
  few = held_few m;
}

-- The test of names is an equality, so that as many names as are here are at most as many as there.

equality : IsEquivalence equal
equality = record {
  refl = λ a. (told a a).1 refl;
  symm = λ a b. same_from_decides (equal a b) (equal b a) (told a b) (Decides-like (equal b a) sym sym (told b a));
  congr = λ a b c t. ap (λ (k : NameIn). equal k c) ((told a b).0 t);
}

pub follow : (m n : Mappings) → ((t : OpPtr) (i : ℕ) → IsSome (mapped m t i) → IsSome (mapped n t i)) → held_count m ≤ held_count n
follow m n all =
    let many = length-le_from_keys equality (keys_of (held m)) (held n) (once m).one (λ k h. all k.table k.name (is_some-lookup (equal k) (held m) ∙ h)) in
    let long = length-keys_of (held m) in
    omega arith

-- Places of operations.

below_any : (ys : List ℕ) (q most : ℕ) → AllByRecursion (λ y. y < most) ys → list_any (eqb q) ys ≡ true → q < most
below_any [] q most all h = absurd (let z : ◌≡◌ {A = ℕ} 0 1 = cc in omega arith)
below_any (y ∷ ys) q most all h =
    ⊎_elim
    (λ (t : eqb q y ≡ true). let same = (Decides-eqb q y).0 t in let here = all.0 in omega arith)
    (λ (f : eqb q y ≡ false). below_any ys q most all.1 (subst (λ (b : Bool). (b || list_any (eqb q) ys) ≡ true) f h))
    (cases_Bool (eqb q y))

place_of : NameIn × OpPtr → ℕ
place_of e = e.1.handle.place

-- what an entry holds is mapped
mapped_at : (m : Mappings) (i : ℕ) (k : NameIn) (o : OpPtr) → entry_at (vec_items m.entries) i ≡ Some (k, o) → mapped m k.table k.name ≡ Some o
mapped_at m i k o e = sym (looked (vec_items m.entries) k (Some o) (probed m) (i, e))

pub room : (m : Mappings) (most place : ℕ) → Apart m most → place < most → Spare m place → held_count m < most
unfolding place_of IsDistinct
room m most place a below s =
    let es = vec_items m.entries in
    let places : List ℕ = map place_of (pairs es) in
    let distinct : IsDistinct eqb places = all_apart place_of eqb es (λ i j k q o p x y t.
    let at = mapped_at m i k o x in
    let there = mapped_at m j q p y in
    let same = a.apart k.table q.table k.name q.name o p at there ((Decides-eqb o.handle.place p.handle.place).0 t) in
    (probed m).apart i j k o p x (y ∙ ap (λ (n : NameIn). Some (n, p)) (sym (same_name k q same.0 same.1)))) in
    let new : AllByRecursion (λ y. eqb place y ≡ false) places = all_pairs place_of (λ y. eqb place y ≡ false) es (λ i k o x.
    no_test (eqb place o.handle.place) (λ t. s.spare k.table k.name o (mapped_at m i k o x) (sym ((Decides-eqb place o.handle.place).0 t)))) in
    let within : AllByRecursion (λ y. y < most) places = all_pairs place_of (λ y. y < most) es (λ i k o x. a.within k.table k.name o (mapped_at m i k o x)) in
    let many = length-le_from_distinct_below (place ∷ places) most (IsDistinct-cons eqb place places new distinct) (λ q h. below_any (place ∷ places) q most (below, within) h) in
    let long : length places ≡ length (pairs es) = length-map (pairs es) place_of in
    omega arith

pub never_full : (m n : Mappings) (place : ℕ) (t : OpPtr) (i : ℕ) (op : OpPtr) (r : Result (Option OpPtr) Full) → Apart m 512 → place < 512 → Spare m place → Puts m t i op r n → IsOk r
never_full m n place t i op (Ok old) a below s put = refl
never_full m n place t i op (Err e) a below s denied = absurd (let few = room m 512 place a below s in let full = denied.full in omega arith)
