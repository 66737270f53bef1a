-- A list whose elements know their places is a chain. Assumes nothing.
use Rattle.std.proofs.Common.{◌≡◌, ℕ, zero, suc, ◌+◌, ◌-◌, List, [], ◌∷◌, length, Some, None, Option, sym, refl, ap, ◌∙◌, subst, inl, inr, arith}
use Rattle.arena.specs.Shelves.{item}
use Rattle.linked_list.specs.Links.{Apart, Chain, In, Node, Run, View, first_or, last_or}

-- the element before a place, or p before the first
abbrev pub before : {N : Type 0} → Option N → List N → ℕ → Option N
before p ns zero = p
before p ns (suc i) = item ns i

module _ {N : Type 0} where
  item_first : (ns : List N) → item ns 0 ≡ first_or ns None
  item_first [] = refl
  item_first (n ∷ ns) = refl

  before_next : (p : Option N) (n : N) (ns : List N) (i : ℕ) → item (n ∷ ns) i ≡ before (Some n) ns i
  before_next p n ns zero = refl
  before_next p n ns (suc i) = refl

  pub item_end : (ns : List N) → item ns (length ns - 1) ≡ last_or ns None
  item_end [] = refl
  item_end (n ∷ []) = refl
  item_end (n ∷ (k ∷ ks)) =
      let q : length (n ∷ (k ∷ ks)) - 1 ≡ suc (length (k ∷ ks) - 1) = omega arith in ap (item (n ∷ (k ∷ ks))) q ∙ item_end (k ∷ ks)

  pub in_item : (x : N) (ns : List N) → In x ns → (i : ℕ) × (item ns i ≡ Some x)
  in_item x [] i = absurd i
  in_item x (n ∷ ns) (inl e) = (0, ap Some (sym e))
  in_item x (n ∷ ns) (inr i) = let w = in_item x ns i in (suc w.0, w.1)

  pub item_in : (x : N) (ns : List N) (i : ℕ) → item ns i ≡ Some x → In x ns
  item_in x [] i e = absurd (let z : ◌≡◌ {A = ℕ} 0 1 = cc in omega arith)
  item_in x (n ∷ ns) zero e = inl (cc)
  item_in x (n ∷ ns) (suc i) e = inr (item_in x ns i e)

  -- an element that knows its place stands at no other
  apart_from : (place : N → ℕ) (k : ℕ) (ns : List N) → ((i : ℕ) (x : N) → item ns i ≡ Some x → place x ≡ k + i) → Apart ns
  apart_from place k [] at = tt
  apart_from place k (n ∷ ns) at = (
    (λ j. let w = in_item n ns j in let a = at 0 n refl in let b = at (suc w.0) n w.1 in omega arith),
    apart_from place (suc k) ns (λ i x e. let a = at (suc i) x e in omega arith),
  )

  module _ {C : Type 0} (v : View N C) (c : C) where
    runs : (p : Option N) (ns : List N) → ((i : ℕ) (x : N) → item ns i ≡ Some x → Node v c (before p ns i) x (item ns (suc i))) → Run v c p ns None
    runs p [] at = tt
    runs p (n ∷ ns) at = (
      subst (Node v c p n) (item_first ns) (at 0 n refl),
      runs (Some n) ns (λ i x e. subst (λ q. Node v c q x (item ns (suc i))) (before_next p n ns i) (at (suc i) x e)),
    )

    pub chain_of : (ns : List N) (place : N → ℕ) → v.head c ≡ item ns 0 → v.tail c ≡ item ns (length ns - 1)
        → ((i : ℕ) (x : N) → item ns i ≡ Some x → Node v c (before None ns i) x (item ns (suc i)))
        → ((i : ℕ) (x : N) → item ns i ≡ Some x → place x ≡ i) → Chain v c ns
    chain_of ns place h t at placed = record {
      head = h ∙ item_first ns;
      tail = t ∙ item_end ns;
      run = runs None ns at;
      apart = apart_from place 0 ns (λ i x e. let a = placed i x e in omega arith);
    }
