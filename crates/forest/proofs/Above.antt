-- Nodes of all kinds: two are the same or not, and how far each is from its root. Assumes nothing.
use Rattle.std.proofs.Common.{◌≡◌, ℕ, suc, ◌<◌, ◌⊎◌, Some, None, Option, sym, refl, ap, subst, inl, inr, ⊎_elim, arith}
use Rattle.linked_list.specs.declared.spot.Spot.{Spot}
use Rattle.linked_list.specs.declared.spot.Spot.TheVariants.{AtFront, AtBack, Before, After}
use Rattle.linked_list.specs.Edits.{spot_in}
use Rattle.linked_list.specs.Links.{View}
use Rattle.trees.specs.Climbs.{Acyclic, Within, below}
use Rattle.trees.proofs.Climbing.{depth, inside_root, inside_up, nearer, option_set}
use Rattle.records.specs.declared.handles.BlockPtr.{BlockPtr}
use Rattle.records.specs.declared.handles.OpPtr.{OpPtr}
use Rattle.records.specs.declared.handles.RegionPtr.{RegionPtr}
use Rattle.records.specs.declared.ir_node.IRNode.{IRNode}
use Rattle.records.specs.declared.ir_node.IRNode.TheVariants as node
use Rattle.records.specs.Models.{Model}
use Rattle.records.specs.Nodes.{parent}
use Rattle.records.specs.Writes.{block_same, op_same, region_same}
use Rattle.forest.specs.Linkings.{spot_node}

-- nodes of two kinds are not the same
op_block : {n : OpPtr} {b : BlockPtr} → node.BasicBlock b ≡ node.Operation n → ⊥
op_block e = let z : ◌≡◌ {A = ℕ} 0 1 = cc in omega arith

op_region : {n : OpPtr} {r : RegionPtr} → node.Region r ≡ node.Operation n → ⊥
op_region e = let z : ◌≡◌ {A = ℕ} 0 1 = cc in omega arith

block_region : {b : BlockPtr} {r : RegionPtr} → node.Region r ≡ node.BasicBlock b → ⊥
block_region e = let z : ◌≡◌ {A = ℕ} 0 1 = cc in omega arith

-- a kind of node tells its nodes apart
kind_same : {A : Type 0} (f : A → IRNode) → ((a b : A) → f a ≡ f b → a ≡ b) → ((a b : A) → (a ≡ b) ⊎ (a ≡ b → ⊥)) → (a b : A) → (f a ≡ f b) ⊎ (f a ≡ f b → ⊥)
kind_same f inj same a b = ⊎_elim (λ e. inl (ap f e)) (λ ne. inr (λ e. ne (inj a b e))) (same a b)

op_inj : (m n : OpPtr) → node.Operation m ≡ node.Operation n → m ≡ n
op_inj m n e = cc

block_inj : (m n : BlockPtr) → node.BasicBlock m ≡ node.BasicBlock n → m ≡ n
block_inj m n e = cc

region_inj : (m n : RegionPtr) → node.Region m ≡ node.Region n → m ≡ n
region_inj m n e = cc

pub node_same : (a b : IRNode) → (a ≡ b) ⊎ (a ≡ b → ⊥)
node_same (node.Operation m) (node.Operation n) = kind_same node.Operation op_inj op_same m n
node_same (node.Operation m) (node.BasicBlock n) = inr (λ e. op_block (sym e))
node_same (node.Operation m) (node.Region n) = inr (λ e. op_region (sym e))
node_same (node.BasicBlock m) (node.Operation n) = inr op_block
node_same (node.BasicBlock m) (node.BasicBlock n) = kind_same node.BasicBlock block_inj block_same m n
node_same (node.BasicBlock m) (node.Region n) = inr (λ e. block_region (sym e))
node_same (node.Region m) (node.Operation n) = inr op_region
node_same (node.Region m) (node.BasicBlock n) = inr block_region
node_same (node.Region m) (node.Region n) = kind_same node.Region region_inj region_same m n

pub node_set : IsSet (Option IRNode)
node_set = option_set node_same

-- how far there is still to climb
abbrev pub to_climb : (m : Model) → Acyclic (parent m) → Option IRNode → ℕ
to_climb m a None = 0
to_climb m a (Some x) = suc (depth (parent m) node_set a x)

-- one step up leaves less to climb
climbs_closer : (m : Model) (a : Acyclic (parent m)) (x : IRNode) (up : Option IRNode) → parent m x ≡ up → to_climb m a up < to_climb m a (Some x)
climbs_closer m a x None e = omega arith
climbs_closer m a x (Some y) e = let h = nearer (parent m) node_set a x y e in omega arith

pub climbs : (m : Model) (a : Acyclic (parent m)) (x : IRNode) → to_climb m a (parent m x) < to_climb m a (Some x)
climbs m a x = climbs_closer m a x (parent m x) refl

-- the node that may be there is the outer one, or lies inside it
abbrev pub Inside? : Model → IRNode → Option IRNode → Type 0
Inside? m outer None = ⊥
Inside? m outer (Some x) = Within (parent m) outer x

-- a node other than the outer one lies inside it exactly if its parent does
module _ (m : Model) (outer x : IRNode) where
  lifted : (up : Option IRNode) → parent m x ≡ up → Inside? m outer up → Within (parent m) outer x
  lifted None e w = absurd w
  lifted (Some y) e w = below y e w

  lowered : (up : Option IRNode) → parent m x ≡ up → (x ≡ outer → ⊥) → Within (parent m) outer x → Inside? m outer up
  lowered None e ne w = ne (inside_root (parent m) outer x e w)
  lowered (Some y) e ne w = inside_up (parent m) outer x y e ne w

  pub lift : Inside? m outer (parent m x) → Within (parent m) outer x
  lift = lifted (parent m x) refl

  pub lower : (x ≡ outer → ⊥) → Within (parent m) outer x → Inside? m outer (parent m x)
  lower = lowered (parent m x) refl

-- where what a spot names is not inside a node, the container that the spot lies in is not
module _ {N C : Type 0} (m : Model) (outer : IRNode) (v : View N C) (inner : N → IRNode) (holder : C → IRNode)
    (up : (n : N) (c : C) → v.within n ≡ Some c → parent m (inner n) ≡ Some (holder c)) where
  some_same : {A : Type 0} {a b : A} → Some a ≡ Some b → a ≡ b
  some_same e = cc

  pub spot_outside : (spot : Spot N C) (c : C) → spot_in v spot ≡ Some c → (Within (parent m) outer (spot_node inner holder spot) → ⊥) → Within (parent m) outer (holder c) → ⊥
  spot_outside (AtFront b) c e out w = out (subst (λ (z : C). Within (parent m) outer (holder z)) (sym (some_same e)) w)
  spot_outside (AtBack b) c e out w = out (subst (λ (z : C). Within (parent m) outer (holder z)) (sym (some_same e)) w)
  spot_outside (Before k) c e out w = out (below (holder c) (up k c e) w)
  spot_outside (After k) c e out w = out (below (holder c) (up k c e) w)
