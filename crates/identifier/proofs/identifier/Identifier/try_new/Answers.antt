use Rattle.std.proofs.Common.{◌≡◌, ℕ, ◌-◌, ◌≤◌, List, ◌++◌, length, take, drop, replicate, sym, ap, ◌∙◌, arith}
use Rattle.std.proofs.Math.Seq.{take-append_seam}
use Rattle.std.proofs.lemmas.List.{drop-replicate, length-append, length-replicate}
use Rattle.identifier.specs.Names.{valid_name}
use Rattle.identifier.proofs.identifier.Identifier.try_new.Goals as goal

-- a name at the front of 32 bytes, with zeros behind it
abbrev padded : List ℕ → List ℕ
padded name = name ++ replicate (32 - length name) 0

front : (name bytes : List ℕ) → bytes ≡ padded name → take (length name) bytes ≡ name
front name bytes e = ap (take (length name)) e ∙ take-append_seam name (replicate (32 - length name) 0)

long : (name bytes : List ℕ) → length name ≤ 32 → bytes ≡ padded name → length bytes ≡ 32
long name bytes short e =
    omega (arith, ap length e, length-append name (replicate (32 - length name) 0), length-replicate {A = ℕ} (32 - length name) 0)

pub invariant_of-result : goal.invariant_of-result
invariant_of-result c =
    let name = c.args.name.now in
    let short : length name ≤ 32 = omega arith in
    let bytes : List ℕ = c.copy_from_slice.new.self ++ drop (length name) (replicate 32 0) in
    let e : bytes ≡ padded name =
    ap (λ (copied : List ℕ). copied ++ drop (length name) (replicate 32 0)) c.copy_from_slice.ensures.after
    ∙ ap (λ (zeros : List ℕ). name ++ zeros) (drop-replicate (length name) 32 0) in
    record {
      long = long name bytes short e;
      within = short;
      valid = ap valid_name (front name bytes e) ∙ sym c.if-not-is_valid.ensures;
      padded = e ∙ ap (λ (xs : List ℕ). xs ++ replicate (32 - length name) 0) (sym (front name bytes e));
    }
