-- Lists that links describe, followed from either end, and as nodes of any kind. Assumes nothing.
use Rattle.std.proofs.Common.{◌≡◌, List, [], ◌∷◌, ◌++◌, map, reverse, Some, None, Option, sym, refl, ap, ◌∙◌, subst, inl, inr, append_assoc}
use Rattle.std.proofs.lemmas.List.{append-nil, map-append}
use mathlib.Core.List.{reverse-cons}
use Rattle.std.specs.Option.{option_map}
use Rattle.linked_list.specs.Links.{Apart, In, Run, View, first_or, last_or}
use Rattle.orders.specs.Trees.{Linked}

-- the elements of a list, the last first, before the list zs
abbrev back_onto : {A : Type 0} → List A → List A → List A
back_onto [] zs = zs
back_onto (n ∷ ns) zs = back_onto ns (n ∷ zs)

back_onto_is : {A : Type 0} (xs zs : List A) → back_onto xs zs ≡ reverse xs ++ zs
back_onto_is [] zs = refl
back_onto_is (x ∷ xs) zs = back_onto_is xs (x ∷ zs) ∙ sym (append_assoc (reverse xs) (x ∷ []) zs) ∙ ap (λ l. l ++ zs) (sym (reverse-cons x xs))

module _ {N C : Type 0} (v : View N C) (c : C) where
  -- a run is followed forward, and backward
  pub run_forth : (p o : Option N) (ns : List N) → o ≡ first_or ns None → Run v c p ns None → Linked v.next o ns
  run_forth p o [] e r = e
  run_forth p o (n ∷ ns) e r = (e, run_forth (Some n) (v.next n) ns r.0.next r.1)

  run_back_onto : (p : Option N) (ns zs : List N) → Run v c p ns None → Linked v.prev p zs → Linked v.prev (last_or ns p) (back_onto ns zs)
  run_back_onto p [] zs r l = l
  run_back_onto p (n ∷ ns) zs r l = run_back_onto (Some n) ns (n ∷ zs) r.1 (refl, subst (λ o. Linked v.prev o zs) (sym r.0.prev) l)

  pub run_back : (o : Option N) (ns : List N) → o ≡ last_or ns None → Run v c None ns None → Linked v.prev o (reverse ns)
  run_back o ns e r =
      subst (λ q. Linked v.prev q (reverse ns)) (sym e)
      (subst (Linked v.prev (last_or ns None)) (back_onto_is ns [] ∙ append-nil (reverse ns)) (run_back_onto None ns [] r refl))

-- what is mapped and turned about
pub map_reverse : {A B : Type 0} (f : A → B) (xs : List A) → map f (reverse xs) ≡ reverse (map f xs)
map_reverse f [] = refl
map_reverse f (x ∷ xs) =
    ap (map f) (reverse-cons x xs) ∙ map-append f (reverse xs) (x ∷ []) ∙ ap (λ l. l ++ (f x ∷ [])) (map_reverse f xs) ∙ sym (reverse-cons (f x) (map f xs))

-- nodes of one kind as nodes of any kind
module _ {A N : Type 0} (f : A → N) where
  module _ (g : A → Option A) (h : N → Option N) (same : (x : A) → h (f x) ≡ option_map f (g x)) where
    pub linked_map : (o : Option A) (xs : List A) → Linked g o xs → Linked h (option_map f o) (map f xs)
    linked_map o [] l = ap (option_map f) l
    linked_map o (x ∷ xs) l = (ap (option_map f) l.0, subst (λ q. Linked h q (map f xs)) (sym (same x)) (linked_map (g x) xs l.1))

  pub map_in : (x : A) (xs : List A) → In x xs → In (f x) (map f xs)
  map_in x [] i = i
  map_in x (y ∷ ys) (inl e) = inl (ap f e)
  map_in x (y ∷ ys) (inr i) = inr (map_in x ys i)

  pub in_map : (n : N) (xs : List A) → In n (map f xs) → (x : A) × (n ≡ f x) × In x xs
  in_map n [] i = absurd i
  in_map n (y ∷ ys) (inl e) = (y, e, inl refl)
  in_map n (y ∷ ys) (inr i) = let w = in_map n ys i in (w.0, w.1, inr w.2)

  module _ (inj : (x y : A) → f x ≡ f y → x ≡ y) where
    one_in : (x : A) (xs : List A) → In (f x) (map f xs) → In x xs
    one_in x [] i = i
    one_in x (y ∷ ys) (inl e) = inl (inj x y e)
    one_in x (y ∷ ys) (inr i) = inr (one_in x ys i)

    pub apart_map : (xs : List A) → Apart xs → Apart (map f xs)
    apart_map [] a = tt
    apart_map (x ∷ xs) a = ((λ i. a.0 (one_in x xs i)), apart_map xs a.1)
