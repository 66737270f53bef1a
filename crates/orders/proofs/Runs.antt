-- A walk's loop: what is kept from node to node, what each step promises, and how the walk ends.
use Rattle.std.proofs.Common.{◌≡◌, refl, sym, ap, subst, ◌∙◌, List, [], ◌∷◌, ◌++◌, append_assoc, append-nil, ◌⊎◌, Bool, true, ◌<◌, ◌≤◌, arith, length, length-append}
use Rattle.linked_list.specs.Links.{In, Apart}
use Rattle.linked_list.proofs.Lists.{in_left, apart_left}
use Rattle.orders.specs.declared.place.At.{At}
use Rattle.orders.specs.declared.place.At.TheVariants.{Start, Entering, Leaving, Ended}
use Rattle.orders.specs.declared.walk_result.WalkResult.{WalkResult}
use Rattle.orders.specs.declared.walk_result.WalkResult.TheVariants.{Advance, Skip, Break}
use Rattle.orders.specs.Order.{Less}
use Rattle.orders.specs.Logs.{Shown, shown, nodes, GoesOn, Unbroken, Hidden, Ending, ended, broken, Walked, Left}
use Rattle.orders.specs.Places.{Links, order, rest, flat, kids, inner, remaining, goes, shows, Fit, never}
use Rattle.orders.specs.Runs.{is_skip, closed, Tells, Newest, begun, after, Going}
use Rattle.orders.proofs.Moves.{rest_root}
use Rattle.orders.proofs.Once.{once, within}
use Rattle.orders.proofs.Cut.{Skipped, cut}
use Rattle.orders.proofs.Stands.{Grown, whole}
use Rattle.orders.proofs.Logs.{less_same, nodes_join, unbroken_more, tells_left, tells_right, skipped_node, skipped_told, skips, skips_tell, skips_in}

pub nil_cons : {N : Type 0} {n : N} {ns : List N} → [] ≡ n ∷ ns → ⊥
nil_cons e = let z = ap length e in omega (arith, z)

module _ {N B : Type 0} (L : Links N) (root : N) where
  -- what a step can still show is no more than was to come
  goes_short : (at : At N) (a : WalkResult B) → length (goes L root never at a) ≤ length (remaining L root never at)
  goes_short Start a = omega arith
  goes_short (Entering n) Advance = omega arith
  goes_short (Entering n) Skip = simp length-append (omega arith)
  goes_short (Entering n) (Break b) = omega arith
  goes_short (Leaving n) Advance = omega arith
  goes_short (Leaving n) Skip = omega arith
  goes_short (Leaving n) (Break b) = omega arith
  goes_short Ended a = omega arith

  -- each node that a step gives leaves less to come
  pub falls : (m : N) (at to : At N) (a : WalkResult B) → goes L root never at a ≡ m ∷ remaining L root never to
      → length (remaining L root never to) < length (remaining L root never at)
  falls m at to a e = omega (arith, goes_short at a, ap length e)

  -- after Break nothing is given
  pub goes_on : (m : N) (S : N → Bool) (at : At N) (a : WalkResult B) (zs : List N) → (at ≡ Start → GoesOn a) → goes L root S at a ≡ m ∷ zs → GoesOn a
  goes_on m S Start a zs f e = f refl
  goes_on m S (Entering n) Advance zs f e = tt
  goes_on m S (Entering n) Skip zs f e = tt
  goes_on m S (Entering n) (Break b) zs f e = nil_cons e
  goes_on m S (Leaving n) Advance zs f e = tt
  goes_on m S (Leaving n) Skip zs f e = tt
  goes_on m S (Leaving n) (Break b) zs f e = nil_cons e
  goes_on m S Ended a zs f e = absurd (nil_cons e)

  -- where S tells the newest answer, a step goes on with what was to come
  told : (S : N → Bool) (at : At N) (a : WalkResult B) → ((n : N) → at ≡ Entering n → S n ≡ is_skip a) → GoesOn a → remaining L root S at ≡ goes L root S at a
  told S Start a h g = refl
  told S (Entering n) Advance h g = ap (λ b. inner true b (flat (order L S) (kids L n)) ++ rest L root S n) (h n refl)
  told S (Entering n) Skip h g = ap (λ b. inner true b (flat (order L S) (kids L n)) ++ rest L root S n) (h n refl)
  told S (Entering n) (Break b) h g = absurd g
  told S (Leaving n) Advance h g = refl
  told S (Leaving n) Skip h g = refl
  told S (Leaving n) (Break b) h g = absurd g
  told S Ended a h g = refl

module _ {N B : Type 0} where
  -- the newest node was answered a
  newest_told : (S : N → Bool) (at : At N) (a : WalkResult B) (log : List (Shown N B)) → Newest at a log → Tells S log → (n : N) → at ≡ Entering n → S n ≡ is_skip a
  newest_told S at a log (begun e h l) t n q = absurd (nil_cons (sym (ap shows e) ∙ ap shows q))
  newest_told S at a log (after earlier m s l u) t n q =
      let e : n ≡ m = let p : n ∷ [] ≡ m ∷ [] = sym (ap shows q) ∙ s in cc in
      ap S e ∙ (tells_right S earlier (shown m a ∷ []) (subst (Tells S) l t)).0

  pub starts_on : (at : At N) (a : WalkResult B) (log : List (Shown N B)) → Newest at a log → at ≡ Start → GoesOn a
  starts_on at a log (begun e h l) q = subst GoesOn (sym h) tt
  starts_on at a log (after earlier m s l u) q = absurd (nil_cons (sym (ap shows q) ∙ s))

  pub all_unbroken : (at : At N) (a : WalkResult B) (log : List (Shown N B)) → Newest at a log → GoesOn a → Unbroken log
  all_unbroken at a log (begun e h l) g = subst Unbroken (sym l) tt
  all_unbroken at a log (after earlier m s l u) g = subst Unbroken (sym l) (unbroken_more earlier m a u g)

  pub going_start : (L : Links N) (root : N) (at : At N) (a : WalkResult B) → at ≡ Start → a ≡ Advance → Going L root at a []
  going_start L root at a e h = record {
    newest = begun e h refl;
    apart = tt;
    fits = subst (Fit L root) (sym e) tt;
    so_far = λ S t. ap (remaining L root S) (sym e);
  }

order_alone : {N : Type 0} (L : Links N) → Grown L → (root : N) (S : N → Bool) (zs : List N) → order L S root ++ rest L root S root ≡ zs → order L S root ≡ zs
order_alone L g root S zs e = sym (append-nil (order L S root)) ∙ ap (λ l. order L S root ++ l) (sym (rest_root L g.sound S root)) ∙ e

module _ {N B : Type 0} (same : (a b : N) → (a ≡ b) ⊎ (a ≡ b → ⊥)) (L : Links N) (g : Grown L) (root : N) where
  module _ (at : At N) (a : WalkResult B) (log : List (Shown N B)) (w : Going L root at a log) where
    goes_so_far : GoesOn a → (S : N → Bool) → Tells S log → order L S root ++ rest L root S root ≡ nodes log ++ goes L root S at a
    goes_so_far o S t = w.so_far S t ∙ ap (λ l. nodes log ++ l) (told L root S at a (newest_told S at a log w.newest t) o)

    abbrev S : N → Bool
    S = skips same log

    telling : Tells S log
    telling = skips_tell same log w.apart

    shown_all : (zs : List N) → order L S root ++ rest L root S root ≡ nodes log ++ zs → Apart (nodes log ++ zs)
    shown_all zs e = subst Apart (order_alone L g root S (nodes log ++ zs) e) (once L g.sound g.apart S root)

    -- one step that gives a node
    pub going_more : (to : At N) (m : N) → ((S : N → Bool) → goes L root S at a ≡ m ∷ remaining L root S to) → Fit L root to → shows to ≡ m ∷ []
        → (b : WalkResult B) → Going L root to b (log ++ (shown m b ∷ []))
    going_more to m left fits s b =
        let o : GoesOn a = goes_on L root m never at a (remaining L root never to) (starts_on at a log w.newest) (left never) in
        let q : nodes (log ++ (shown m b ∷ [])) ≡ nodes log ++ (m ∷ []) = nodes_join log (shown m b ∷ []) in
        let c : Apart (nodes log ++ (m ∷ remaining L root S to)) = shown_all (m ∷ remaining L root S to) (goes_so_far o S telling ∙ ap (λ l. nodes log ++ l) (left S)) in
        record {
          newest = after log m s refl (all_unbroken at a log w.newest o);
          apart = subst Apart (sym q) (apart_left (nodes log ++ (m ∷ [])) (remaining L root S to) (subst Apart (sym (append_assoc (nodes log) (m ∷ []) (remaining L root S to))) c));
          fits = fits;
          so_far = λ S t.
              goes_so_far o S (tells_left S log (shown m b ∷ []) t) ∙ ap (λ l. nodes log ++ l) (left S)
              ∙ sym (append_assoc (nodes log) (m ∷ []) (remaining L root S to)) ∙ ap (λ l. l ++ remaining L root S to) (sym q);
        }

    -- the nodes that S hides are those that the log hides
    hides : (zs : List N) → order L S root ≡ nodes log ++ zs → (x : N) → Hidden L.up L.early log x → Skipped L root S x
    hides zs e x h = record {
      by = h.by;
      first = h.first;
      skipped = skipped_told S log h.by telling h.skipped;
      walked = within L g.sound g.apart S root h.by (subst (In h.by) (sym e) (in_left h.by (nodes log) zs (skipped_node log (shown h.by Skip) h.skipped)));
      inside = h.inside;
    }

    hidden : (x : N) → Skipped L root S x → Hidden L.up L.early log x
    hidden x h = record { by = h.by; first = h.first; skipped = skips_in same log h.by h.skipped; inside = h.inside }

    cut_by : (zs : List N) → order L S root ≡ nodes log ++ zs → Less (λ x. Hidden L.up L.early log x → ⊥) (order L never root) (order L S root)
    cut_by zs e = less_same (λ x h k. h (hides zs e x k)) (λ x h k. h (hidden x k)) (cut L g.sound g.apart root S)

    going_order : GoesOn a → order L S root ≡ nodes log ++ goes L root S at a
    going_order o = order_alone L g root S (nodes log ++ goes L root S at a) (goes_so_far o S telling)

    -- what is still to come once the newest node was answered
    pub going_left : GoesOn a → Left L.up L.early (kids L) root log (goes L root S at a)
    going_left o = record {
      whole = order L never root;
      is_whole = whole L g root;
      unbroken = all_unbroken at a log w.newest o;
      cut = subst (Less (λ x. Hidden L.up L.early log x → ⊥) (order L never root)) (going_order o) (cut_by (goes L root S at a) (going_order o));
    }

    close : (b : WalkResult B) (less : List N) → Newest at b log → (GoesOn b → less ≡ nodes log) → (zs : List N) → less ≡ nodes log ++ zs → Ending log less (closed b)
    close Advance less n h zs e = ended (all_unbroken at Advance log n tt) (sym (h tt))
    close Skip less n h zs e = ended (all_unbroken at Skip log n tt) (sym (h tt))
    close (Break b) less (begun q h l) f zs e = absurd (cc)
    close (Break b) less (after earlier m s l u) f zs e = broken earlier m b zs l u (sym e)

    -- a step that gives none ends the walk
    pub going_ends : (to : At N) → ((S : N → Bool) → goes L root S at a ≡ remaining L root S to) → to ≡ Ended → (r : WalkResult B) → r ≡ closed a
        → Walked L.up L.early (kids L) root log r
    going_ends to left e r c =
        let q : order L S root ≡ nodes log ++ remaining L root S at = order_alone L g root S (nodes log ++ remaining L root S at) (w.so_far S telling) in
        record {
          whole = order L never root;
          is_whole = whole L g root;
          less = order L S root;
          cut = cut_by (remaining L root S at) q;
          ending = subst (Ending log (order L S root)) (sym c) (close a (order L S root) w.newest
              (λ o. going_order o ∙ ap (λ l. nodes log ++ l) (left S ∙ ap (remaining L root S) e) ∙ append-nil (nodes log))
              (remaining L root S at) q);
        }
