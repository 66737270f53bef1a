-- How numberings follow one another.
use Rattle.std.proofs.Common.{◌≡◌, ℕ, suc, ◌+◌, ◌<◌, List, [], ◌∷◌, ◌++◌, length, get_or, take, vec_items, vec_len, slice_set, sym, ap, ◌∙◌, append_assoc, arith, length-append}
use Rattle.std.proofs.lemmas.List.{take_more}
use Rattle.std.proofs.lemmas.List.FromFn.{map-range_with_len_more}
use Rattle.script.specs.declared.node.Node.{Node}
use Rattle.script.specs.declared.numbers.Numbers.{Numbers}
use Rattle.script.specs.Numbers.{Numbered, latest_from, nodes_from}

-- the number given last, where one handle more got one
pub latest_more : {T : Type 0} (place : T → ℕ) (n : ℕ) (xs : List T) (x : T) (latest : List ℕ) → latest_from place n (xs ++ x ∷ []) latest ≡ slice_set (latest_from place n xs latest) (place x) (n + length xs)
latest_more place n [] x latest = let z : n ≡ n + 0 = omega arith in ap (slice_set latest (place x)) z
latest_more place n (y ∷ ys) x latest =
    let z : suc n + length ys ≡ n + suc (length ys) = omega arith in
    latest_more place (suc n) ys x (slice_set latest (place y) n) ∙ ap (slice_set (latest_from place (suc n) ys (slice_set latest (place y) n)) (place x)) z

-- one handle more gets the number that follows
pub numbered_more : {T : Type 0} (kind : ℕ → Node) (place : T → ℕ) (xs : List T) (k : ℕ) (x : T) (a b c : Numbers T) (ns ms ls : List Node)
    → Numbered kind place (take k xs) a b ns ms → k < length xs → x ≡ get_or xs k x
    → vec_items c.handles ≡ vec_items b.handles ++ x ∷ [] → vec_len c.handles ≡ vec_len b.handles + 1 → vec_items c.latest ≡ slice_set (vec_items b.latest) (place x) (vec_len b.handles) → ls ≡ ms ++ kind (vec_len b.handles) ∷ []
    → Numbered kind place (take (k + 1) xs) a c ns ls
numbered_more {T} kind place xs k x a b c ns ms ls p lt at items len latest shown =
    let is : take (k + 1) xs ≡ take k xs ++ x ∷ [] = take_more xs k x lt ∙ ap (λ z. take k xs ++ z ∷ []) (sym at) in
    let one : length (take (k + 1) xs) ≡ length (take k xs) + 1 = ap length is ∙ length-append (take k xs) (x ∷ []) in
    record {
      items = items ∙ ap (λ z. z ++ x ∷ []) p.items ∙ append_assoc (vec_items a.handles) (take k xs) (x ∷ []) ∙ ap (λ z. vec_items a.handles ++ z) (sym is);
      len = omega arith;
      latest =
          latest
          ∙ ap (λ (l : List ℕ). slice_set l (place x) (vec_len b.handles)) p.latest
          ∙ ap (λ n. slice_set (latest_from place (vec_len a.handles) (take k xs) (vec_items a.latest)) (place x) n) p.len
          ∙ sym (latest_more place (vec_len a.handles) (take k xs) x (vec_items a.latest))
          ∙ ap (λ z. latest_from place (vec_len a.handles) z (vec_items a.latest)) (sym is);
      more = omega (arith, ap length shown, length-append ms (kind (vec_len b.handles) ∷ []));
      shown =
          shown
          ∙ ap (λ z. z ++ kind (vec_len b.handles) ∷ []) p.shown
          ∙ append_assoc ns (nodes_from kind (vec_len a.handles) (length (take k xs))) (kind (vec_len b.handles) ∷ [])
          ∙ ap (λ z. ns ++ z) (sym (map-range_with_len_more kind (vec_len a.handles) (length (take k xs)) (vec_len b.handles) (sym p.len)))
          ∙ ap (λ z. ns ++ nodes_from kind (vec_len a.handles) z) (sym one);
    }
