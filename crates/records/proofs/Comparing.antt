-- That `==` tells whether two lists of regions are one.
use Rattle.std.specs.Prelude.{◌≡◌, ◌-◌, Bool, ◌&&◌, ◌==◌, List, length, take, replicate, Decides, refl}
use Rattle.std.proofs.Common.{sym, ap, ◌∙◌}
use Rattle.std.specs.Cmp.Lexicographic.{pointwise}
use Rattle.std.proofs.lemmas.Bool.Decides.{Decides-and, Decides-eqb, Decides-like}
use Rattle.std.proofs.lemmas.List.{take_at}
use Rattle.std.proofs.lemmas.Slice.Eq.{slice_eq-Decides}
use Rattle.records.specs.declared.handles.RegionPtr.{RegionPtr}
use Rattle.records.specs.Padding.{no_region, padded}
use Rattle.records.specs.Writes.{region_decides}

-- `==` of two regions, as it is derived
abbrev pub equal_ptrs : RegionPtr → RegionPtr → Bool
equal_ptrs m n = (m.handle.place == n.handle.place) && (m.handle.version == n.handle.version)

-- `==` of two lists, as it is derived: how many there are, and what stands in the four places
abbrev pub equal : List RegionPtr → List RegionPtr → Bool
equal xs ys = (length xs == length ys) && pointwise equal_ptrs (padded xs) (padded ys)

front : (xs : List RegionPtr) → take (length xs) (padded xs) ≡ xs
front xs = take_at xs (replicate (4 - length xs) no_region) (length xs) refl

-- lists of one length that fill the places alike are one
unpadded : (xs ys : List RegionPtr) → length xs ≡ length ys → padded xs ≡ padded ys → xs ≡ ys
unpadded xs ys p q = sym (front xs) ∙ ap (take (length xs)) q ∙ ap (λ n. take n (padded ys)) p ∙ front ys

pub told : (xs ys : List RegionPtr) → Decides (equal xs ys) (xs ≡ ys)
told xs ys =
    Decides-like (equal xs ys)
    (λ e. unpadded xs ys e.0 e.1)
    (λ e. (ap length e, ap padded e))
    (Decides-and (length xs == length ys) (pointwise equal_ptrs (padded xs) (padded ys)) (Decides-eqb (length xs) (length ys)) (slice_eq-Decides region_decides (padded xs) (padded ys) _ refl))
