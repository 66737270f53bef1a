-- How writings follow one another.
use Rattle.std.proofs.Common.{◌≡◌, ℕ, ◌+◌, ◌-◌, ◌≤◌, List, ◌++◌, length, take, refl, ap, ◌∙◌, arith}
use borrow.Rule.Slice.PartMut.{put_mid}
use Rattle.std.proofs.lemmas.Slice.{put_mid-paste, take-put_mid, drop-put_mid}
use Rattle.std.proofs.lemmas.List.Edits.{length-paste}
use Rattle.script.specs.Prints.{Printed}

pub printed_part : (a xs ys : List ℕ) (i e : ℕ) → e ≡ i + length xs → e ≤ length a → ys ≡ xs → Printed a i xs (put_mid i (e - i) a ys) e
printed_part a xs ys i e is le same = record {
  place = is;
  front = take-put_mid i (e - i) a ys e (omega (arith, ap length same)) (omega arith) ∙ ap (λ z. take i a ++ z) same;
  beyond = λ k h. drop-put_mid i (e - i) a ys k (omega arith) (omega arith) (omega (arith, ap length same));
  size = ap length (put_mid-paste i (e - i) a ys xs (e - i) same refl (omega arith)) ∙ length-paste a i xs (e - i) (omega arith) (omega arith);
}
