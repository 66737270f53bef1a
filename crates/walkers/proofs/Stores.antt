-- What a store's own facts give a walk over it: its links are those of a tree. Assumes nothing.
use Rattle.std.proofs.Common.{◌≡◌, Bool, List, Some, None, Option, sym, refl, ap, ◌∙◌, subst, ⊎_elim}
use mathlib.Core.HLevel.{hedberg}
use mathlib.Core.Logic.{∥∥₁_elim, ∥∥₁_map}
use mathlib.Core.List.{is_set}
use mathlib.Core.Path.{fun_ext}
use Rattle.std.specs.Option.{option_map}
use Rattle.arena.proofs.Filling.{long}
use Rattle.linked_list.specs.Links.{Holds}
use Rattle.trees.specs.Climbs.{Ends}
use Rattle.orders.specs.declared.place.At.{At}
use Rattle.orders.specs.declared.walk_result.WalkResult.{WalkResult}
use Rattle.orders.specs.Logs.{Shown, Walked}
use Rattle.orders.specs.declared.place.At.TheVariants.{Start, Entering, Leaving, Ended}
use Rattle.orders.specs.Places.{Begun, Regular, Showing, kids}
use Rattle.orders.specs.Trees.{Agrees, Tree, read, turned}
use Rattle.orders.proofs.Stands.{Grown}
use Rattle.orders.proofs.Whole.{grown, ways_are}
use Rattle.records.specs.declared.handles.BlockPtr.{BlockPtr}
use Rattle.records.specs.declared.handles.OpPtr.{OpPtr}
use Rattle.records.specs.declared.handles.RegionPtr.{RegionPtr}
use Rattle.records.specs.declared.ir_node.IRNode.{IRNode}
use Rattle.records.specs.declared.ir_node.IRNode.TheVariants as node
use Rattle.records.specs.Children.{Lists, children}
use Rattle.records.specs.Models.{Model}
use Rattle.records.specs.Nodes.{Owned, owner, parent}
use Rattle.records.specs.Views.{block_links, op_links}
use Rattle.forest.proofs.Above.{node_same}
use Rattle.ir.specs.declared.context.Context.{Context}
use Rattle.ir.specs.Stores.{nodes}
use Rattle.walkers.specs.declared.config.Direction.{Direction}
use Rattle.walkers.specs.declared.config.Direction.TheVariants.{Forward, Reverse}
use Rattle.walkers.specs.declared.config.WalkConfig.{WalkConfig}
use Rattle.walkers.specs.Children.{directed, directed_children}
use Rattle.walkers.specs.Configs.{as_child, as_parent, early, is_reverse}
use Rattle.walkers.specs.Links.{links, raw, reading}
use Rattle.walkers.proofs.Growing.{Sized, family, tree}

-- the tables of a store have so many places
sized : (s : Context) → Sized (nodes s)
sized s = record {
  ops = sym (long s.tables.forest.records.operations) ∙ s.tables.forest.records.ops;
  blocks = sym (long s.tables.forest.records.blocks) ∙ s.tables.forest.records.blks;
  regions = sym (long s.tables.forest.records.regions) ∙ s.tables.forest.records.rgns;
}

-- the links of a store describe some lists
pub some_lists : (s : Context) → ∥ Lists (nodes s) ∥₁
some_lists s =
    ∥∥₁_elim s.tables.forest.oplists squash₁ (λ (o : (L : BlockPtr → List OpPtr) × Holds (op_links (nodes s)) L).
    ∥∥₁_map s.tables.forest.blocklists (λ (b : (L : RegionPtr → List BlockPtr) × Holds (block_links (nodes s)) L).
    let l : Lists (nodes s) = record { ops = o.0; blocks = b.0; ops_hold = o.1; blocks_hold = b.1 } in l))

-- with its lists, a tree
tree_with : (s : Context) → Lists (nodes s) → ∥ Tree (raw (nodes s)) ∥₁
tree_with s l =
    ∥∥₁_elim s.tables.forest.owned squash₁ (λ (w : Owned (nodes s)).
    ∥∥₁_map s.tables.forest.acyclic (λ (e : (n : IRNode) → Ends (parent (nodes s)) n). tree (nodes s) (sized s) w l e))

pub grows : (s : Context) → ∥ Tree (raw (nodes s)) ∥₁
grows s = ∥∥₁_elim (some_lists s) squash₁ (tree_with s)

-- a node's parent is of the kind that its direction is taken from
module _ (k : WalkConfig) where
  abbrev Way : Option IRNode → Direction → Type 0
  Way None d = Unit {0}
  Way (Some p) d = d ≡ (as_parent k p).1

  op_way : (x : OpPtr) (o : Option BlockPtr) → Way (option_map node.BasicBlock o) (as_child k (node.Operation x)).1
  op_way x None = tt
  op_way x (Some b) = refl

  block_way : (x : BlockPtr) (o : Option RegionPtr) → Way (option_map node.Region o) (as_child k (node.BasicBlock x)).1
  block_way x None = tt
  block_way x (Some r) = refl

  region_way : (x : RegionPtr) (o : Option OpPtr) → Way (option_map node.Operation o) (as_child k (node.Region x)).1
  region_way x None = tt
  region_way x (Some p) = refl

  way : (m : Model) (x : IRNode) → Way (parent m x) (as_child k x).1
  way m (node.Operation x) = op_way x ((op_links m).within x)
  way m (node.BasicBlock x) = block_way x ((block_links m).within x)
  way m (node.Region x) = region_way x (owner m x)

  pub agrees : (m : Model) → Agrees (raw m) (reading k)
  unfolding raw reading
  agrees m p c e = ap is_reverse (subst (λ (o : Option IRNode). Way o (as_child k c).1) e (way m c))

-- what the steps of a walk need
pub have : (s : Context) (k : WalkConfig) → Grown (links (nodes s) k)
unfolding links
have s k = grown node_same (raw (nodes s)) (reading k) (agrees k (nodes s)) (grows s)

pub sound : (s : Context) (k : WalkConfig) → Regular (links (nodes s) k)
sound s k = (have s k).sound

-- what the links say of a node
pub early_is : (m : Model) (k : WalkConfig) (n : IRNode) → (links m k).early n ≡ early k n
unfolding links reading read
early_is m k n = refl

pub up_is : (m : Model) (k : WalkConfig) (n : IRNode) → (links m k).up n ≡ parent m n
unfolding links raw read
up_is m k n = refl

-- The children that the links give are the store's, in the directions of the configuration.

turned_directed : (d : Direction) (ns : List IRNode) → turned (is_reverse d) ns ≡ directed d ns
turned_directed Forward ns = refl
turned_directed Reverse ns = refl

node_set : IsSet IRNode
node_set = hedberg (λ a b. ⊎_elim (λ e. yes e) (λ ne. no ne) (node_same a b))

pub list_set : IsSet (List IRNode)
list_set = is_set node_set

pub kids_are : (s : Context) (k : WalkConfig) (l : Lists (nodes s)) → kids (links (nodes s) k) ≡ directed_children k (nodes s) l
unfolding links reading
kids_are s k l =
    let m = nodes s in
    fun_ext (λ (n : IRNode).
    ∥∥₁_elim s.tables.forest.owned (list_set _ _) (λ (w : Owned m).
    ap (λ (f : IRNode → List IRNode). f n) (ways_are node_same (raw m) (reading k) (agrees k m) (grows s) (children m l) (family m (sized s) w l))
    ∙ turned_directed (as_parent k n).1 (children m l n)))

-- what holds of the links, and of the children that they give, holds of the store's children
pub over_children : (P : (IRNode → Option IRNode) → (IRNode → Bool) → (IRNode → List IRNode) → Type 0) (s : Context) (k : WalkConfig)
    → P (links (nodes s) k).up (links (nodes s) k).early (kids (links (nodes s) k)) → (l : Lists (nodes s)) → P (parent (nodes s)) (early k) (directed_children k (nodes s) l)
over_children P s k w l =
    subst (λ (f : IRNode → List IRNode). P (parent (nodes s)) (early k) f) (kids_are s k l)
    (subst (λ (f : IRNode → Bool). P (parent (nodes s)) f (kids (links (nodes s) k))) (fun_ext (early_is (nodes s) k))
    (subst (λ (f : IRNode → Option IRNode). P f (links (nodes s) k).early (kids (links (nodes s) k))) (fun_ext (up_is (nodes s) k)) w))

-- a walk over the links is one over the children
pub walked_in : {B : Type 0} (s : Context) (k : WalkConfig) (root : IRNode) (log : List (Shown IRNode B)) (r : WalkResult B) → Walked (links (nodes s) k).up (links (nodes s) k).early (kids (links (nodes s) k)) root log r
    → (l : Lists (nodes s)) → Walked (parent (nodes s)) (early k) (directed_children k (nodes s) l) root log r
walked_in s k root log r = over_children (λ p f c. Walked p f c root log r) s k

-- a place that shows a node is one that a step came to
pub shown_begun : (a : At IRNode) → Showing a → Begun a
shown_begun Start h = h
shown_begun (Entering n) h = tt
shown_begun (Leaving n) h = tt
shown_begun Ended h = tt
