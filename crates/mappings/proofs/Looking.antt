-- What a list of entries means as a map is what a look-up among the pairs that use entries finds.
use Rattle.std.proofs.Common.{◌≡◌, ℕ, zero, suc, ◌≤◌, true, false, List, [], ◌∷◌, length, replicate, Some, None, Option, option_map, unwrap_or, sym, refl, ap, ◌∙◌, subst, ⊎_elim, arith}
use Rattle.std.specs.Map.{lookup}
use Rattle.std.proofs.lemmas.Bool.{cases_Bool}
use Rattle.std.proofs.lemmas.Bool.Decides.{not_from_Decides}
use Rattle.std.proofs.lemmas.Map.Entries.{lookup_head, lookup_tail}
use Rattle.records.specs.declared.handles.OpPtr.{OpPtr}
use Rattle.table.specs.Maps.{MapEntry, entry_at, used, Maps, Probed, Updated}
use Rattle.table.proofs.Entries.{not_free}
use Rattle.mappings.specs.declared.name_in.NameIn.{NameIn}
use Rattle.mappings.specs.Deciding.{equal, told}
use Rattle.mappings.specs.Hashing.{name_in_hash}
use Rattle.mappings.specs.Held.{pairs}

abbrev pub Entries : Type 0
Entries = List (MapEntry NameIn OpPtr)

-- the operation of a name in a table among the entries, or none
abbrev pub look : Entries → NameIn → Option OpPtr
look es k = lookup (equal k) (pairs es)

-- where the first entry does not hold the key, a map has for it what the other entries have
missing_past : (e : MapEntry NameIn OpPtr) (es : Entries) (k : NameIn) → ((op : OpPtr) → e ≡ Some (k, op) → ⊥) → Maps es k None → (i : ℕ) (op : OpPtr) → entry_at (e ∷ es) i ≡ Some (k, op) → ⊥
missing_past e es k other none zero op is = other op is
missing_past e es k other none (suc i) op is = none i op is

maps_past : (e : MapEntry NameIn OpPtr) (es : Entries) (k : NameIn) (o : Option OpPtr) → ((op : OpPtr) → e ≡ Some (k, op) → ⊥) → Maps es k o → Maps (e ∷ es) k o
maps_past e es k None other m = missing_past e es k other m
maps_past e es k (Some op) other m = (suc m.0, m.1)

maps_first : (q : NameIn) (op : OpPtr) (es : Entries) (k : NameIn) → k ≡ q → Maps (Some (q, op) ∷ es) k (Some op)
maps_first q op es k e = (0, ap (λ (x : NameIn). Some (x, op)) (sym e))

key_of : (k q : NameIn) (o p : OpPtr) → ◌≡◌ {A = MapEntry NameIn OpPtr} (Some (q, p)) (Some (k, o)) → k ≡ q
key_of k q o p e = ap (λ (x : MapEntry NameIn OpPtr). (unwrap_or x (k, o)).0) (sym e)

-- what a look-up finds is what the map has
pub maps_look : (es : Entries) (k : NameIn) → Maps es k (look es k)
maps_look [] k = λ i op e. not_free k op None refl e
maps_look (None ∷ es) k = maps_past None es k (look es k) (λ op e. not_free k op None refl e) (maps_look es k)
maps_look (Some (q, p) ∷ es) k =
    ⊎_elim
    (λ (t : equal k q ≡ true).
    subst (Maps (Some (q, p) ∷ es) k) (sym (lookup_head (equal k) (q, p) (pairs es) t)) (maps_first q p es k ((told k q).0 t)))
    (λ (f : equal k q ≡ false).
    let other : k ≡ q → ⊥ = not_from_Decides (equal k q) (told k q) f in
    subst (Maps (Some (q, p) ∷ es) k) (sym (lookup_tail (equal k) (q, p) (pairs es) f))
    (maps_past (Some (q, p)) es k (look es k) (λ op e. other (key_of k q op p e)) (maps_look es k)))
    (cases_Bool (equal k q))

-- a map has one thing for a key
one_value : (es : Entries) (k : NameIn) (o p : Option OpPtr) → Probed name_in_hash es → Maps es k o → Maps es k p → o ≡ p
one_value es k None None h a b = refl
one_value es k None (Some y) h a b = absurd (a b.0 y b.1)
one_value es k (Some x) None h a b = absurd (b a.0 x a.1)
one_value es k (Some x) (Some y) h a b =
    let same : Some (k, x) ≡ Some (k, y) = sym a.1 ∙ ap (entry_at es) (h.apart a.0 b.0 k x y a.1 b.1) ∙ b.1 in
    ap (option_map (λ (e : NameIn × OpPtr). e.1)) same

-- what a map has for a key is what a look-up finds
pub looked : (es : Entries) (k : NameIn) (o : Option OpPtr) → Probed name_in_hash es → Maps es k o → o ≡ look es k
looked es k o h m = one_value es k o (look es k) h m (maps_look es k)

-- what a change at one key does to the look-ups
module _ (es fs : Entries) (k : NameIn) (old new : Option OpPtr) (u : Updated name_in_hash es k old new fs) where
  pub look_here : look fs k ≡ new
  look_here = sym (looked fs k new u.probed u.is)

  pub look_others : (q : NameIn) → (q ≡ k → ⊥) → look fs q ≡ look es q
  look_others q n = sym (looked fs q (look es q) u.probed (u.others.others q (look es q) n (maps_look es q)))

-- as many entries are used as pairs use entries
pub used_pairs : (es : Entries) → used es ≡ length (pairs es)
unfolding used
used_pairs [] = refl
used_pairs (None ∷ es) = let rest = used_pairs es in omega arith
used_pairs (Some (q, p) ∷ es) = let rest = used_pairs es in omega arith

-- no more than all entries are used
pub pairs_few : (es : Entries) → length (pairs es) ≤ length es
pairs_few [] = omega arith
pairs_few (None ∷ es) = let rest = pairs_few es in omega arith
pairs_few (Some e ∷ es) = let rest = pairs_few es in omega arith

-- no pairs use unused entries
pub unused_pairs : (n : ℕ) → pairs (replicate n None) ≡ []
unused_pairs zero = refl
unused_pairs (suc n) = unused_pairs n
