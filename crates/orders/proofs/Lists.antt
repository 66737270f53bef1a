-- Membership and apartness in a list read from its end, and what holds of each element.
use Rattle.std.proofs.Common.{refl, sym, subst, List, [], ◌∷◌, reverse, inl, inr}
use mathlib.Core.List.{reverse-cons}
use Rattle.linked_list.specs.Links.{In, Apart}
use Rattle.linked_list.proofs.Lists.{in_left, in_right, in_parts, apart_join}

-- P holds of each element
abbrev pub All : {N : Type 0} → (N → Type 0) → List N → Type 0
All P [] = Unit {0}
All P (n ∷ ns) = P n × All P ns

pub in_reverse : {N : Type 0} (x : N) (xs : List N) → In x (reverse xs) → In x xs
in_reverse x [] i = i
in_reverse x (y ∷ ys) i =
    elim (in_parts x (reverse ys) (y ∷ []) (subst (In x) (reverse-cons y ys) i)) [ inl j ↦ inr (in_reverse x ys j) | inr j ↦ elim j [ inl e ↦ inl e | inr z ↦ absurd z ] ]

pub reverse_in : {N : Type 0} (x : N) (xs : List N) → In x xs → In x (reverse xs)
reverse_in x [] i = i
reverse_in x (y ∷ ys) (inl e) = subst (In x) (sym (reverse-cons y ys)) (in_right x (reverse ys) (y ∷ []) (inl e))
reverse_in x (y ∷ ys) (inr i) = subst (In x) (sym (reverse-cons y ys)) (in_left x (reverse ys) (y ∷ []) (reverse_in x ys i))

pub apart_reverse : {N : Type 0} (xs : List N) → Apart xs → Apart (reverse xs)
apart_reverse [] a = tt
apart_reverse (y ∷ ys) a = subst Apart (sym (reverse-cons y ys))
    (apart_join (reverse ys) (y ∷ []) (apart_reverse ys a.1) ((λ z. z), tt)
    (λ x i j. elim j [ inl e ↦ a.0 (subst (λ w. In w ys) e (in_reverse x ys i)) | inr z ↦ z ]))

pub all_in : {N : Type 0} (P : N → Type 0) (xs : List N) → ((x : N) → In x xs → P x) → All P xs
all_in P [] h = tt
all_in P (x ∷ xs) h = (h x (inl refl), all_in P xs (λ y i. h y (inr i)))

pub in_all : {N : Type 0} (P : N → Type 0) (xs : List N) → All P xs → (x : N) → In x xs → P x
in_all P [] a x i = absurd i
in_all P (y ∷ ys) a x (inl e) = subst P (sym e) a.0
in_all P (y ∷ ys) a x (inr i) = in_all P ys a.1 x i
