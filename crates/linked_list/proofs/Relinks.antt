-- A node put into its place or taken out of it: which links change, and the lists afterwards.
use Rattle.std.proofs.Common.{◌≡◌, Bool, true, ◌⊎◌, List, [], ◌∷◌, ◌++◌, Some, None, Option, sym, refl, ap, ◌∙◌, subst, inl, inr, ⊎_elim}
use Rattle.linked_list.specs.Links.{View, At, In, Apart, first_or, last_or, Run, Chain, Holds, SetsNext, SetsPrev, SetsWithin}
use Rattle.linked_list.specs.Edits.{Others}
use Rattle.linked_list.specs.Gaps.{Forward, Backward}
use Rattle.linked_list.proofs.Lists.{first_append, last_append, last_of_in, first_of_in, last_some, in_left, in_right, in_parts, apart_left, apart_right, apart_both, apart_join, run_left, run_right, run_join, run_within, Stays, keep, retail, rehead}

module _ {N C : Type 0} where
  -- what is named by p points to x now: the node, or the end of c where p names none; in links f, g of nodes and h, k of ends
  record Turned (f g : N → Option N) (h k : C → Option N) (c : C) (p x : Option N) : Type 0 where
    pub at_node : (a : N) → p ≡ Some a → g a ≡ x
    pub at_end : p ≡ None → k c ≡ x
    pub nodes : (m : N) → (p ≡ Some m → ⊥) → g m ≡ f m
    pub ends : (d : C) → (p ≡ None → d ≡ c → ⊥) → k d ≡ h d

  module _ (f g : N → Option N) (h k : C → Option N) (c : C) (x : Option N) where
    node_turned : (a : N) → At f g a x → k ≡ h → Turned f g h k c (Some a) x
    node_turned a t e = record {
      at_node = λ b i. let z = t.here in cc;
      at_end = λ i. cc;
      nodes = λ m ne. t.other m (λ i. ne (ap Some (sym i)));
      ends = λ d _. cc;
    }

    end_turned : At h k c x → g ≡ f → Turned f g h k c None x
    end_turned t e = record {
      at_node = λ b i. cc;
      at_end = λ i. t.here;
      nodes = λ m ne. cc;
      ends = λ d ne. t.other d (ne refl);
    }

  forward_turned : (v w : View N C) (c : C) (p x : Option N) → Forward v w c p x → Turned v.next w.next v.head w.head c p x
  forward_turned v w c (Some a) x f = node_turned _ _ _ _ c x a f.change f.head
  forward_turned v w c None x f = end_turned _ _ _ _ c x f.change f.next

  backward_turned : (v w : View N C) (c : C) (q x : Option N) → Backward v w c q x → Turned v.prev w.prev v.tail w.tail c q x
  backward_turned v w c (Some b) x f = node_turned _ _ _ _ c x b f.change f.tail
  backward_turned v w c None x f = end_turned _ _ _ _ c x f.change f.prev

  -- what the two steps leave
  pub record Left (v w : View N C) : Type 0 where
    pub within : w.within ≡ v.within
    pub live : w.live ≡ v.live
    pub held : w.held ≡ v.held

  pub forward_left : (v w : View N C) (c : C) (p x : Option N) → Forward v w c p x → Left v w × (w.prev ≡ v.prev) × (w.tail ≡ v.tail)
  forward_left v w c (Some a) x f = (record { within = f.within; live = f.live; held = f.held }, f.prev, f.tail)
  forward_left v w c None x f = (record { within = f.within; live = f.live; held = f.held }, f.prev, f.tail)

  backward_left : (v w : View N C) (c : C) (q x : Option N) → Backward v w c q x → Left v w × (w.next ≡ v.next) × (w.head ≡ v.head)
  backward_left v w c (Some b) x f = (record { within = f.within; live = f.live; held = f.held }, f.next, f.head)
  backward_left v w c None x f = (record { within = f.within; live = f.live; held = f.held }, f.next, f.head)

  -- what stood before the node n, at p, points on to x, and what stood after it, at q, points back to y; its own links are r, s
  -- and k; and nothing else changed
  pub record Relinked (v w : View N C) (c : C) (n : N) (p x q y r s : Option N) (k : Option C) : Type 0 where
    pub n_prev : w.prev n ≡ r
    pub n_next : w.next n ≡ s
    pub n_within : w.within n ≡ k
    pub before : (a : N) → (a ≡ n → ⊥) → p ≡ Some a → w.next a ≡ x
    pub after : (b : N) → (b ≡ n → ⊥) → q ≡ Some b → w.prev b ≡ y
    pub first : p ≡ None → w.head c ≡ x
    pub last : q ≡ None → w.tail c ≡ y
    pub next : (m : N) → (m ≡ n → ⊥) → (p ≡ Some m → ⊥) → w.next m ≡ v.next m
    pub prev : (m : N) → (m ≡ n → ⊥) → (q ≡ Some m → ⊥) → w.prev m ≡ v.prev m
    pub within : (m : N) → (m ≡ n → ⊥) → w.within m ≡ v.within m
    pub head : (d : C) → (p ≡ None → d ≡ c → ⊥) → w.head d ≡ v.head d
    pub tail : (d : C) → (q ≡ None → d ≡ c → ⊥) → w.tail d ≡ v.tail d
    pub live : w.live ≡ v.live
    pub held : w.held ≡ v.held

  pub relinked : (v v1 v2 v3 v4 w : View N C) (c : C) (n : N) (p x q y r s : Option N) (k : Option C)
      → Forward v v1 c p x → Backward v1 v2 c q y → SetsPrev v2 v3 n r → SetsNext v3 v4 n s → SetsWithin v4 w n k
      → Relinked v w c n p x q y r s k
  relinked v v1 v2 v3 v4 w c n p x q y r s k f b sp sn sw =
      let ft = forward_turned v v1 c p x f in
      let bt = backward_turned v1 v2 c q y b in
      let fl = forward_left v v1 c p x f in
      let bl = backward_left v1 v2 c q y b in
      record {
        n_prev = let h = sp.change.here in cc;
        n_next = let h = sn.change.here in cc;
        n_within = sw.change.here;
        before = λ a ne e. let h = ft.at_node a e in let k = sn.change.other a ne in cc;
        after = λ d ne e. let h = bt.at_node d e in let k = sp.change.other d ne in cc;
        first = λ e. let h = ft.at_end e in cc;
        last = λ e. let h = bt.at_end e in cc;
        next = λ m ne e. let h = ft.nodes m e in let k = sn.change.other m ne in cc;
        prev = λ m ne e. let h = bt.nodes m e in let k = sp.change.other m ne in cc;
        within = λ m ne. let h = sw.change.other m ne in cc;
        head = λ d e. let h = ft.ends d e in cc;
        tail = λ d e. let h = bt.ends d e in cc;
        live = cc;
        held = cc;
      }

  -- the nodes us between xs and ys give way to ws, and each of these can only be n
  module _ (v w : View N C) (L M : C → List N) (c : C) (n : N) (p x q y r s : Option N) (k : Option C) (xs us ws ys : List N)
      (nodes : (a b : N) → (a ≡ b) ⊎ (a ≡ b → ⊥)) (containers : (a b : C) → (a ≡ b) ⊎ (a ≡ b → ⊥))
      (rel : Relinked v w c n p x q y r s k)
      (holds : Holds v L) (c-held : v.held c ≡ true) (parts : L c ≡ xs ++ (us ++ ys)) (here : M c ≡ xs ++ (ws ++ ys)) (others : Others L M c)
      (before : p ≡ last_or xs None) (after : q ≡ first_or ys None) (x-is : x ≡ first_or ws q) (y-is : y ≡ last_or ws p)
      (us-n : (m : N) → In m us → m ≡ n) (ws-n : (m : N) → In m ws → m ≡ n) (ws-apart : Apart ws)
      (not-n : (m : N) → In m (xs ++ ys) → m ≡ n → ⊥) (not-away : (d : C) → (d ≡ c → ⊥) → v.within n ≡ Some d → ⊥)
      (mid : Run w c (last_or xs None) ws (first_or ys None))
      (n-listed : (d : C) → w.within n ≡ Some d → (d ≡ c) × In n ws) (n-loose : w.within n ≡ None → (w.next n ≡ None) × (w.prev n ≡ None)) where
    was : Chain v c (xs ++ (us ++ ys))
    was = subst (λ (z : List N). Chain v c z) parts (holds.chains c c-held)

    left_in : (m : N) → p ≡ Some m → In m xs
    left_in m e = last_of_in xs m (sym before ∙ e)

    right_in : (m : N) → q ≡ Some m → In m ys
    right_in m e = first_of_in ys m (sym after ∙ e)

    in_c : (m : N) → In m (xs ++ (us ++ ys)) → v.within m ≡ Some c
    in_c m i = run_within v c None (xs ++ (us ++ ys)) None was.run m i

    x_c : (m : N) → In m xs → v.within m ≡ Some c
    x_c m i = in_c m (in_left m xs (us ++ ys) i)

    y_c : (m : N) → In m ys → v.within m ≡ Some c
    y_c m i = in_c m (in_right m xs (us ++ ys) (in_right m us ys i))

    x_not : (m : N) → In m xs → m ≡ n → ⊥
    x_not m i = not-n m (in_left m xs ys i)

    y_not : (m : N) → In m ys → m ≡ n → ⊥
    y_not m i = not-n m (in_right m xs ys i)

    xy : (m : N) → In m xs → In m ys → ⊥
    xy m i j = apart_both xs (us ++ ys) was.apart m i (in_right m us ys j)

    x_apart : Apart xs
    x_apart = apart_left xs (us ++ ys) was.apart

    y_apart : Apart ys
    y_apart = apart_right us ys (apart_right xs (us ++ ys) was.apart)

    stays : (m : N) → (m ≡ n → ⊥) → Stays v w m
    stays m ne = record { within = rel.within m ne; live = ap (λ (f : N → Bool). f m) rel.live }

    x_run : Run w c None xs (first_or (ws ++ ys) None)
    x_run = retail v w c None xs (first_or (us ++ ys) None) (first_or (ws ++ ys) None)
        (λ m i. stays m (x_not m i))
        (λ m i e. rel.next m (x_not m i) (λ z. e (sym before ∙ z)))
        (λ m i e. rel.before m (x_not m i) (before ∙ e) ∙ x-is ∙ ap (first_or ws) after ∙ sym (first_append ws ys None))
        (λ m i. rel.prev m (x_not m i) (λ z. xy m i (right_in m z)))
        x_apart
        (run_left v c None xs (us ++ ys) None was.run)

    y_run : Run w c (last_or ws (last_or xs None)) ys None
    y_run = rehead v w c (last_or us (last_or xs None)) (last_or ws (last_or xs None)) ys None
        (λ m i. stays m (y_not m i))
        (λ m i. rel.next m (y_not m i) (λ z. xy m (left_in m z) i))
        (λ m i e. rel.prev m (y_not m i) (λ z. e (sym after ∙ z)))
        (λ m i e. rel.after m (y_not m i) (after ∙ e) ∙ y-is ∙ ap (last_or ws) before)
        y_apart
        (run_right v c _ us ys None (run_right v c None xs (us ++ ys) None was.run))

    new_head : (zs : List N) → v.head c ≡ first_or (zs ++ (us ++ ys)) None → p ≡ last_or zs None → w.head c ≡ first_or (zs ++ (ws ++ ys)) None
    new_head [] h e = rel.first e ∙ x-is ∙ ap (first_or ws) after ∙ sym (first_append ws ys None)
    new_head (z ∷ zs) h e = rel.head c (λ i _. last_some z zs None (sym e ∙ i)) ∙ h

    -- the last after xs and ws is that of ys, or y
    lasts : (zs is : List N) → last_or (xs ++ (is ++ zs)) None ≡ last_or zs (last_or is p)
    lasts zs is = last_append xs (is ++ zs) None ∙ last_append is zs (last_or xs None) ∙ ap (λ (o : Option N). last_or zs (last_or is o)) (sym before)

    new_tail : (zs : List N) → v.tail c ≡ last_or (xs ++ (us ++ zs)) None → q ≡ first_or zs None → w.tail c ≡ last_or (xs ++ (ws ++ zs)) None
    new_tail [] h e = rel.last e ∙ y-is ∙ sym (lasts [] ws)
    new_tail (z ∷ zs) h e = rel.tail c (λ i _. let j = sym e ∙ i in cc) ∙ h ∙ lasts (z ∷ zs) us ∙ sym (lasts (z ∷ zs) ws)

    w_apart : Apart (ws ++ ys)
    w_apart = apart_join ws ys ws-apart y_apart (λ m i j. y_not m j (ws-n m i))

    new_chain : Chain w c (xs ++ (ws ++ ys))
    new_chain = record {
      head = new_head xs was.head before;
      tail = new_tail ys was.tail after;
      run = run_join w c None xs (ws ++ ys) None x_run (run_join w c (last_or xs None) ws ys None mid y_run);
      apart = apart_join xs (ws ++ ys) x_apart w_apart
          (λ m i j. ⊎_elim (λ z. x_not m i (ws-n m z)) (xy m i) (in_parts m ws ys j));
    }

    -- another container's chain stands
    module _ (d : C) (ne : d ≡ c → ⊥) (ch : Chain v d (L d)) where
      d_in : (m : N) → In m (L d) → v.within m ≡ Some d
      d_in m i = run_within v d None (L d) None ch.run m i

      not_c : (m : N) → In m (L d) → v.within m ≡ Some c → ⊥
      not_c m i e = ne (let z = d_in m i in cc)

      d_not : (m : N) → In m (L d) → m ≡ n → ⊥
      d_not m i e = not-away d ne (ap v.within (sym e) ∙ d_in m i)

      other_chain : Chain w d (L d)
      other_chain = record {
        head = rel.head d (λ _ e. ne e) ∙ ch.head;
        tail = rel.tail d (λ _ e. ne e) ∙ ch.tail;
        run = keep v w d None (L d) None
            (λ m i. stays m (d_not m i))
            (λ m i. rel.next m (d_not m i) (λ e. not_c m i (x_c m (left_in m e))))
            (λ m i. rel.prev m (d_not m i) (λ e. not_c m i (y_c m (right_in m e))))
            ch.run;
        apart = ch.apart;
      }

    now_held : (d : C) → w.held d ≡ v.held d
    now_held d = ap (λ (f : C → Bool). f d) rel.held

    was_live : (m : N) → w.live m ≡ true → v.live m ≡ true
    was_live m h = sym (ap (λ (f : N → Bool). f m) rel.live) ∙ h

    all_chains : (d : C) → w.held d ≡ true → Chain w d (M d)
    all_chains d h =
        elim (containers d c) [
          | inl e ↦ subst (λ (z : C). Chain w z (M z)) (sym e) (subst (λ (z : List N). Chain w c z) (sym here) new_chain)
          | inr ne ↦ subst (λ (z : List N). Chain w d z) (sym (others d ne)) (other_chain d ne (holds.chains d (sym (now_held d) ∙ h)))
        ]

    -- a node of the list before, but n, is one of the list now
    moved : (m : N) → (m ≡ n → ⊥) → In m (xs ++ (us ++ ys)) → In m (xs ++ (ws ++ ys))
    moved m ne i =
        ⊎_elim (in_left m xs (ws ++ ys))
        (λ j. in_right m xs (ws ++ ys) (⊎_elim (λ z. absurd (ne (us-n m z))) (in_right m ws ys) (in_parts m us ys j)))
        (in_parts m xs (us ++ ys) i)

    listed_in : (m : N) (d : C) → (m ≡ n → ⊥) → In m (L d) → In m (M d)
    listed_in m d ne i =
        elim (containers d c) [
          | inl e ↦ subst (λ (z : C). In m (M z)) (sym e)
              (subst (In m) (sym here) (moved m ne (subst (In m) (ap L e ∙ parts) i)))
          | inr away ↦ subst (In m) (sym (others d away)) i
        ]

    all_listed : (m : N) (d : C) → w.live m ≡ true → w.within m ≡ Some d → (w.held d ≡ true) × In m (M d)
    all_listed m d l i =
        elim (nodes m n) [
          | inl e ↦
              let h = n-listed d (ap w.within (sym e) ∙ i) in
              subst (λ (z : C). (w.held z ≡ true) × In m (M z)) (sym h.0) (
                now_held c ∙ c-held,
                subst (In m) (sym here) (in_right m xs (ws ++ ys) (in_left m ws ys (subst (λ (z : N). In z ws) (sym e) h.1))),
              )
          | inr ne ↦
              let h = holds.listed m d (was_live m l) (sym (rel.within m ne) ∙ i) in
              (now_held d ∙ h.0, listed_in m d ne h.1)
        ]

    all_loose : (m : N) → w.live m ≡ true → w.within m ≡ None → (w.next m ≡ None) × (w.prev m ≡ None)
    all_loose m l i =
        elim (nodes m n) [
          | inl e ↦ let h = n-loose (ap w.within (sym e) ∙ i) in (ap w.next e ∙ h.0, ap w.prev e ∙ h.1)
          | inr ne ↦
              let u : v.within m ≡ None = sym (rel.within m ne) ∙ i in
              let o = holds.loose m (was_live m l) u in (
                rel.next m ne (λ e. let z = x_c m (left_in m e) in cc) ∙ o.0,
                rel.prev m ne (λ e. let z = y_c m (right_in m e) in cc) ∙ o.1,
              )
        ]

    relinked_holds : Holds w M
    relinked_holds = record { chains = all_chains; listed = all_listed; loose = all_loose }

  -- the gap between the parts xs and ys of the list of c lies after p and before q
  pub record Place (L : C → List N) (c : C) (xs ys : List N) (p q : Option N) : Type 0 where
    pub parts : L c ≡ xs ++ ys
    pub before : p ≡ last_or xs None
    pub after : q ≡ first_or ys None

  module _ (v w : View N C) (L M : C → List N) (c : C) (n : N) (p q : Option N) (xs ys : List N)
      (nodes : (a b : N) → (a ≡ b) ⊎ (a ≡ b → ⊥)) (containers : (a b : C) → (a ≡ b) ⊎ (a ≡ b → ⊥)) (c-held : v.held c ≡ true) where
    pub insert_holds : v.within n ≡ None → v.live n ≡ true → Holds v L → Place L c xs ys p q → Relinked v w c n p (Some n) q (Some n) p q (Some c)
        → M c ≡ xs ++ (n ∷ ys) → Others L M c → Holds w M
    insert_holds loose n-live holds pl rel here others =
        let ch : Chain v c (xs ++ ys) = subst (λ (z : List N). Chain v c z) pl.parts (holds.chains c c-held) in
        relinked_holds v w L M c n p (Some n) q (Some n) p q (Some c) xs [] (n ∷ []) ys nodes containers rel holds c-held pl.parts here others
        pl.before pl.after refl refl (λ m i. absurd i) (λ m i. ⊎_elim (λ e. e) (λ j. absurd j) i) (λ i. i, tt)
        (λ m i e. let z = run_within v c None (xs ++ ys) None ch.run m i in cc)
        (λ d ne e. cc)
        (record { prev = rel.n_prev ∙ pl.before; next = rel.n_next ∙ pl.after; within = rel.n_within; live = ap (λ (f : N → Bool). f n) rel.live ∙ n-live }, tt)
        (λ d e. (let z = rel.n_within in cc, inl refl)) (λ e. let z = rel.n_within in cc)

    pub remove_holds : v.within n ≡ Some c → p ≡ v.prev n → q ≡ v.next n → Holds v L → L c ≡ xs ++ (n ∷ ys)
        → Relinked v w c n p q q p None None None → M c ≡ xs ++ ys → Others L M c → Holds w M
    remove_holds inside p-is q-is holds parts rel here others =
        let ch : Chain v c (xs ++ (n ∷ ys)) = subst (λ (z : List N). Chain v c z) parts (holds.chains c c-held) in
        let run : Run v c (last_or xs None) (n ∷ ys) None = run_right v c None xs (n ∷ ys) None ch.run in
        let right : Apart (n ∷ ys) = apart_right xs (n ∷ ys) ch.apart in
        relinked_holds v w L M c n p q q p None None None xs (n ∷ []) [] ys nodes containers rel holds c-held parts here others
        (p-is ∙ run.0.prev) (q-is ∙ run.0.next) refl refl (λ m i. ⊎_elim (λ e. e) (λ j. absurd j) i) (λ m i. absurd i) tt
        (λ m i e. ⊎_elim (λ j. apart_both xs (n ∷ ys) ch.apart m j (inl e)) (λ j. right.0 (subst (λ (z : N). In z ys) e j)) (in_parts m xs ys i))
        (λ d ne e. ne (cc)) tt
        (λ d e. let z = rel.n_within in cc) (λ e. (rel.n_next, rel.n_prev))
