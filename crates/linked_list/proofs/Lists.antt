-- Lists, and runs of nodes, cut and joined.
use Rattle.std.proofs.Common.{◌≡◌, ℕ, ◌+◌, ◌<◌, ◌≤◌, true, ◌⊎◌, List, [], ◌∷◌, ◌++◌, Some, None, Option, sym, refl, ap, ◌∙◌, subst, inl, inr, ⊎_elim, arith}
use Rattle.linked_list.specs.Links.{View, In, Apart, first_or, last_or, Node, Run}

module _ {N : Type 0} where
  pub some_same : {a b : N} → Some a ≡ Some b → a ≡ b
  some_same e = cc

  pub none_some : {a : N} → None ≡ Some a → ⊥
  none_some e = let z : ◌≡◌ {A = ℕ} 0 1 = cc in omega arith

  pub first_append : (xs ys : List N) (q : Option N) → first_or (xs ++ ys) q ≡ first_or xs (first_or ys q)
  first_append [] ys q = refl
  first_append (x ∷ xs) ys q = refl

  pub last_append : (xs ys : List N) (p : Option N) → last_or (xs ++ ys) p ≡ last_or ys (last_or xs p)
  last_append [] ys p = refl
  last_append (x ∷ xs) ys p = last_append xs ys (Some x)

  pub last_in : (p : Option N) (n : N) (ns : List N) (m : N) → last_or (n ∷ ns) p ≡ Some m → In m (n ∷ ns)
  last_in p n [] m e = inl (cc)
  last_in p n (k ∷ ks) m e = inr (last_in (Some n) k ks m e)

  pub last_of_in : (ns : List N) (m : N) → last_or ns None ≡ Some m → In m ns
  last_of_in [] m e = absurd (cc)
  last_of_in (n ∷ ns) m e = last_in None n ns m e

  pub first_of_in : (ns : List N) (m : N) → first_or ns None ≡ Some m → In m ns
  first_of_in [] m e = absurd (cc)
  first_of_in (n ∷ ns) m e = inl (cc)

  pub last_some : (n : N) (ns : List N) (p : Option N) → last_or (n ∷ ns) p ≡ None → ⊥
  last_some n [] p e = cc
  last_some n (k ∷ ks) p e = last_some k ks (Some n) e

  pub in_left : (m : N) (xs ys : List N) → In m xs → In m (xs ++ ys)
  in_left m [] ys i = elim i [ ]
  in_left m (x ∷ xs) ys (inl e) = inl e
  in_left m (x ∷ xs) ys (inr i) = inr (in_left m xs ys i)

  pub in_right : (m : N) (xs ys : List N) → In m ys → In m (xs ++ ys)
  in_right m [] ys i = i
  in_right m (x ∷ xs) ys i = inr (in_right m xs ys i)

  pub in_parts : (m : N) (xs ys : List N) → In m (xs ++ ys) → In m xs ⊎ In m ys
  in_parts m [] ys i = inr i
  in_parts m (x ∷ xs) ys (inl e) = inl (inl e)
  in_parts m (x ∷ xs) ys (inr i) = ⊎_elim (λ j. inl (inr j)) inr (in_parts m xs ys i)

  pub apart_left : (xs ys : List N) → Apart (xs ++ ys) → Apart xs
  apart_left [] ys a = tt
  apart_left (x ∷ xs) ys a = (λ i. a.0 (in_left x xs ys i), apart_left xs ys a.1)

  pub apart_right : (xs ys : List N) → Apart (xs ++ ys) → Apart ys
  apart_right [] ys a = a
  apart_right (x ∷ xs) ys a = apart_right xs ys a.1

  pub apart_both : (xs ys : List N) → Apart (xs ++ ys) → (m : N) → In m xs → In m ys → ⊥
  apart_both [] ys a m i j = elim i [ ]
  apart_both (x ∷ xs) ys a m (inl e) j = a.0 (subst (λ (z : N). In z (xs ++ ys)) e (in_right m xs ys j))
  apart_both (x ∷ xs) ys a m (inr i) j = apart_both xs ys a.1 m i j

  pub apart_join : (xs ys : List N) → Apart xs → Apart ys → ((m : N) → In m xs → In m ys → ⊥) → Apart (xs ++ ys)
  apart_join [] ys a b h = b
  apart_join (x ∷ xs) ys a b h =
      (λ i. ⊎_elim a.0 (h x (inl refl)) (in_parts x xs ys i), apart_join xs ys a.1 b (λ m i. h m (inr i)))

module _ {N C : Type 0} where
  pub run_left : (v : View N C) (c : C) (p : Option N) (xs ys : List N) (q : Option N) → Run v c p (xs ++ ys) q → Run v c p xs (first_or ys q)
  run_left v c p [] ys q r = tt
  run_left v c p (x ∷ xs) ys q r =
      (subst (λ (z : Option N). Node v c p x z) (first_append xs ys q) r.0, run_left v c (Some x) xs ys q r.1)

  pub run_right : (v : View N C) (c : C) (p : Option N) (xs ys : List N) (q : Option N) → Run v c p (xs ++ ys) q → Run v c (last_or xs p) ys q
  run_right v c p [] ys q r = r
  run_right v c p (x ∷ xs) ys q r = run_right v c (Some x) xs ys q r.1

  pub run_join : (v : View N C) (c : C) (p : Option N) (xs ys : List N) (q : Option N)
      → Run v c p xs (first_or ys q) → Run v c (last_or xs p) ys q → Run v c p (xs ++ ys) q
  run_join v c p [] ys q r s = s
  run_join v c p (x ∷ xs) ys q r s =
      (subst (λ (z : Option N). Node v c p x z) (sym (first_append xs ys q)) r.0, run_join v c (Some x) xs ys q r.1 s)

  pub run_within : (v : View N C) (c : C) (p : Option N) (ns : List N) (q : Option N) → Run v c p ns q → (m : N) → In m ns → v.within m ≡ Some c
  run_within v c p [] q r m i = elim i [ ]
  run_within v c p (n ∷ ns) q r m (inl e) = ap v.within e ∙ r.0.within
  run_within v c p (n ∷ ns) q r m (inr i) = run_within v c (Some n) ns q r.1 m i

  pub run_live : (v : View N C) (c : C) (p : Option N) (ns : List N) (q : Option N) → Run v c p ns q → (m : N) → In m ns → v.live m ≡ true
  run_live v c p [] q r m i = elim i [ ]
  run_live v c p (n ∷ ns) q r m (inl e) = ap v.live e ∙ r.0.live
  run_live v c p (n ∷ ns) q r m (inr i) = run_live v c (Some n) ns q r.1 m i

  -- two views agree at a node, in its container and life; in all
  pub record Stays (v w : View N C) (m : N) : Type 0 where
    pub within : w.within m ≡ v.within m
    pub live : w.live m ≡ v.live m

  pub keep : (v w : View N C) (c : C) (p : Option N) (ns : List N) (q : Option N)
      → ((m : N) → In m ns → Stays v w m) → ((m : N) → In m ns → w.next m ≡ v.next m) → ((m : N) → In m ns → w.prev m ≡ v.prev m)
      → Run v c p ns q → Run w c p ns q
  keep v w c p [] q s f b r = tt
  keep v w c p (n ∷ ns) q s f b r = (
    record {
      prev = b n (inl refl) ∙ r.0.prev;
      next = f n (inl refl) ∙ r.0.next;
      within = (s n (inl refl)).within ∙ r.0.within;
      live = (s n (inl refl)).live ∙ r.0.live;
    },
    keep v w c (Some n) ns q (λ m i. s m (inr i)) (λ m i. f m (inr i)) (λ m i. b m (inr i)) r.1,
  )

  -- the last node points on to another
  pub retail : (v w : View N C) (c : C) (p : Option N) (ns : List N) (q q' : Option N)
      → ((m : N) → In m ns → Stays v w m)
      → ((m : N) → In m ns → (last_or ns p ≡ Some m → ⊥) → w.next m ≡ v.next m)
      → ((m : N) → In m ns → last_or ns p ≡ Some m → w.next m ≡ q')
      → ((m : N) → In m ns → w.prev m ≡ v.prev m)
      → Apart ns → Run v c p ns q → Run w c p ns q'
  retail v w c p [] q q' s f l b a r = tt
  retail v w c p (n ∷ []) q q' s f l b a r = (
    record {
      prev = b n (inl refl) ∙ r.0.prev;
      next = l n (inl refl) refl;
      within = (s n (inl refl)).within ∙ r.0.within;
      live = (s n (inl refl)).live ∙ r.0.live;
    },
    tt,
  )
  retail v w c p (n ∷ (k ∷ ks)) q q' s f l b a r = (
    record {
      prev = b n (inl refl) ∙ r.0.prev;
      next = f n (inl refl) (λ e. a.0 (last_in (Some n) k ks n e)) ∙ r.0.next;
      within = (s n (inl refl)).within ∙ r.0.within;
      live = (s n (inl refl)).live ∙ r.0.live;
    },
    retail v w c (Some n) (k ∷ ks) q q' (λ m i. s m (inr i)) (λ m i. f m (inr i)) (λ m i. l m (inr i)) (λ m i. b m (inr i)) a.1 r.1,
  )

  -- the first node points back to another
  pub rehead : (v w : View N C) (c : C) (p p' : Option N) (ns : List N) (q : Option N)
      → ((m : N) → In m ns → Stays v w m)
      → ((m : N) → In m ns → w.next m ≡ v.next m)
      → ((m : N) → In m ns → (first_or ns None ≡ Some m → ⊥) → w.prev m ≡ v.prev m)
      → ((m : N) → In m ns → first_or ns None ≡ Some m → w.prev m ≡ p')
      → Apart ns → Run v c p ns q → Run w c p' ns q
  rehead v w c p p' [] q s f b l a r = tt
  rehead v w c p p' (n ∷ ns) q s f b l a r = (
    record {
      prev = l n (inl refl) refl;
      next = f n (inl refl) ∙ r.0.next;
      within = (s n (inl refl)).within ∙ r.0.within;
      live = (s n (inl refl)).live ∙ r.0.live;
    },
    keep v w c (Some n) ns q (λ m i. s m (inr i)) (λ m i. f m (inr i))
        (λ m i. b m (inr i) (λ e. a.0 (let z : m ≡ n = cc in subst (λ (z : N). In z ns) z i))) r.1,
  )
