-- From what the list and the map of the names ensure to what the calls answer.
use Rattle.std.proofs.Common.{◌≡◌, ℕ, ◌<◌, true, List, [], ◌∷◌, ◌++◌, length, replicate, is_ok, Some, None, Ok, Err, vec_items, vec_len, Option, Result, sym, ap, ◌∙◌, subst, arith}
use mathlib.Core.Logic.{∥∥₁_elim}
use mathlib.Core.List.{is_set}
use native.Mathlib.Nat.{ℕ_set}
use native.Mathlib.Bridge.{le_prop}
use Rattle.std.specs.Vec.{with_items}
use Rattle.std.proofs.lemmas.List.{length-map, with_items_is}
use Rattle.table.specs.declared.entry.Full.{Full}
use Rattle.table.specs.Maps.{MapEntry, used, Maps, Probed, Inserted}
use Rattle.table.proofs.Laws.{whole}
use Rattle.identifier.specs.declared.identifier.Identifier.{Identifier}
use Rattle.identifier.specs.Identifiers.{text, identifier_hash}
use Rattle.identifier.specs.Deciding.{same_text}
use Rattle.names.specs.Places.{Stands, Absent}
use Rattle.names.specs.Numbering.{Numbered}
use Rattle.names.specs.Held.{held, Finds, Once}
use Rattle.names.specs.declared.names.Names.{Names}
use Rattle.names.proofs.Standing.{stands_map, stands_unmap, stands_from}
use Rattle.names.proofs.Numbering.{absent, one_place, grown, none_numbered}

abbrev Entries : Type 0
Entries = List (MapEntry Identifier ℕ)

-- Reading a store of names.

pub held_long : (s : Names) → length (held s) ≡ length (vec_items s.list)
held_long s = length-map (vec_items s.list) text

probed_in : (s : Names) (xs : Entries) → xs ≡ vec_items s.entries → Probed identifier_hash xs
probed_in s xs e =
    subst (Probed identifier_hash) (sym e)
    (whole identifier_hash (vec_items s.entries) (∥∥₁_elim s.numbered squash₁ (λ h. ∣ h.probed ∣₁)))

mapped_stands : (s : Names) (n : Identifier) (i : ℕ) → Maps (vec_items s.entries) n (Some i) → Stands (vec_items s.list) i n
mapped_stands s n i m = record {
  within = ∥∥₁_elim s.numbered le_prop (λ h. (h.tells n i m).within);
  is = λ d. same_text _ _ (∥∥₁_elim s.numbered (is_set ℕ_set _ _) (λ h. ap text ((h.tells n i m).is d)));
}

pub unheld : (s : Names) (n : Identifier) → Maps (vec_items s.entries) n None → Absent (held s) (text n)
unheld s n none i st =
    let here = stands_unmap text same_text (vec_items s.list) i n st in
    ∥∥₁_elim s.numbered (λ x y. elim x [ ]) (λ h. absent (vec_items s.list) (vec_items s.entries) h n none i here)

found : (s : Names) (n : Identifier) (r : Option ℕ) → Maps (vec_items s.entries) n r → Finds s n r
found s n (Some i) m = stands_map text (vec_items s.list) i n (mapped_stands s n i m)
found s n None m = unheld s n m

-- what the map finds among the lent entries
pub looked : (s : Names) (xs : Entries) (n : Identifier) (r : Option ℕ) → xs ≡ vec_items s.entries → (Probed identifier_hash xs → Maps xs n r) → Finds s n r
looked s xs n r e f = found s n r (subst (λ (ys : Entries). Maps ys n r) e (f (probed_in s xs e)))

one_held : (s : Names) (i j : ℕ) (name : List ℕ) → Stands (held s) i name → Stands (held s) j name → i ≡ j
one_held s i j name a b =
    let list = vec_items s.list in
    let p = stands_from text list i name a in
    let q = stands_from text list j name b in
    let same : q.0 ≡ p.0 = same_text q.0 p.0 (q.2 ∙ sym p.2) in
    ∥∥₁_elim s.numbered (ℕ_set i j) (λ h. one_place list (vec_items s.entries) h p.0 i j p.1 (subst (Stands list j) same q.1))

list_long : (s : Names) → vec_len s.list ≡ length (vec_items s.list)
list_long s = s.list.ok.0

pub held_count : (s : Names) → vec_len s.list ≡ length (held s)
held_count s = list_long s ∙ sym (held_long s)

pub once : (s : Names) → Once s
once s = record {
  one = one_held s;
  few = let long = held_count s in let most = s.few in omega arith;
}

-- Holding a new name.

-- a name that is not held is not mapped
pub missing : (s : Names) (xs : Entries) (n : Identifier) → xs ≡ vec_items s.entries → Absent (held s) (text n) → Maps xs n None
missing s xs n e out =
    subst (λ (ys : Entries). Maps ys n None) (sym e)
    (λ k v m. out v (stands_map text (vec_items s.list) v n (mapped_stands s n v (k, m))))

-- the entries that are lent are not all used
pub roomy : (s : Names) (xs : Entries) → xs ≡ vec_items s.entries → length xs ≡ vec_len s.entries → vec_len s.list < 256 → used xs < length xs
roomy s xs e l lt =
    let count : used (vec_items s.entries) ≡ length (vec_items s.list) = ∥∥₁_elim s.numbered (ℕ_set _ _) (λ h. h.counted) in
    let same : used xs ≡ used (vec_items s.entries) = ap used e in
    let long = list_long s in
    let most = s.long in
    omega arith

put_long : (xs fs : Entries) (n : Identifier) (i : ℕ) (r : Result (Option ℕ) Full) → Inserted identifier_hash xs n i r fs → length fs ≡ length xs
put_long xs fs n i (Ok old) put = put.long
put_long xs fs n i (Err e) refusal = ap length refusal.same

numbered_put : (list : List Identifier) (xs fs : Entries) (n : Identifier) (r : Result (Option ℕ) Full) → is_ok r ≡ true → Numbered list xs → Maps xs n None → Inserted identifier_hash xs n (length list) r fs → Numbered (list ++ n ∷ []) fs
numbered_put list xs fs n (Ok old) ok h new put = grown list xs fs n old h new put
numbered_put list xs fs n (Err e) ok h new refusal = absurd (cc)

pub follows : (s : Names) (list : List Identifier) (xs fs : Entries) (n : Identifier) (i : ℕ) (r : Result (Option ℕ) Full)
    → xs ≡ vec_items s.entries → length xs ≡ vec_len s.entries → list ≡ vec_items s.list ++ n ∷ [] → i ≡ vec_len s.list
    → is_ok r ≡ true → Maps xs n None → Inserted identifier_hash xs n i r fs → ∥ Numbered list (vec_items (with_items s.entries fs)) ∥₁
follows s list xs fs n i r e l pushed number ok new put =
    let old = vec_items s.list in
    let back : vec_items (with_items s.entries fs) ≡ fs = with_items_is s.entries fs (put_long xs fs n i r put ∙ l) in
    let last : i ≡ length old = number ∙ list_long s in
    ∥∥₁_elim s.numbered squash₁ (λ h.
    ∣ subst (λ (ys : List Identifier). Numbered ys (vec_items (with_items s.entries fs))) (sym pushed)
    (subst (Numbered (old ++ n ∷ [])) (sym back)
    (numbered_put old xs fs n r ok (subst (Numbered old) (sym e) h) new (subst (λ (k : ℕ). Inserted identifier_hash xs n k r fs) last put))) ∣₁)

pub nothing_held : (list : List Identifier) (es : Entries) → list ≡ [] → es ≡ replicate 256 None → ∥ Numbered list es ∥₁
nothing_held list es e f =
    ∣ subst (λ (ys : List Identifier). Numbered ys es) (sym e) (subst (Numbered []) (sym f) (none_numbered 256)) ∣₁
