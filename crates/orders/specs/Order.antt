-- The order in which the nodes of a tree are shown.
use Rattle.std.specs.Prelude.{◌≡◌, Bool, true, false, List, [], ◌∷◌, ◌++◌, Some, Option}
use Rattle.trees.specs.Climbs.{Within}

-- The nodes ns, each with all that lies below it, are shown as xs; a node that is early comes before what lies below it, and any
-- other after it.
pub data Orders {N : Type 0} (early : N → Bool) (children : N → List N) : List N → List N → Type 0 where
  none : Orders early children [] []
  first : {n : N} {ns xs ys : List N} → early n ≡ true → Orders early children (children n) xs → Orders early children ns ys → Orders early children (n ∷ ns) (n ∷ (xs ++ ys))
  last : {n : N} {ns xs ys : List N} → early n ≡ false → Orders early children (children n) xs → Orders early children ns ys → Orders early children (n ∷ ns) (xs ++ (n ∷ ys))

-- The list ys is xs less the elements that are not P.
pub data Less {N : Type 0} (P : N → Type 0) : List N → List N → Type 0 where
  done : Less P [] []
  keep : {x : N} {xs ys : List N} → P x → Less P xs ys → Less P (x ∷ xs) (x ∷ ys)
  drop : {x : N} {xs ys : List N} → (P x → ⊥) → Less P xs ys → Less P (x ∷ xs) ys

-- The node x lies below the node n, and is another node where no node contains itself.
pub record Inside {N : Type 0} (p : N → Option N) (n x : N) : Type 0 where
  pub above : N
  pub parent : p x ≡ Some above
  pub under : Within p n above
