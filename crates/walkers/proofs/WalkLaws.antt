-- What holds of every walk over a store. Assumes nothing.
use Rattle.std.proofs.Common.{◌≡◌, not, List, reverse, sym, refl, ap, ◌∙◌}
use mathlib.Core.List.{reverse-reverse}
use mathlib.Core.Logic.{∥∥₁_elim, ∥∥₁_map}
use Rattle.orders.specs.declared.walk_result.WalkResult.{WalkResult}
use Rattle.orders.specs.Logs.{AllAdvance, Seen, Shown, nodes as shown_nodes}
use Rattle.orders.proofs.Logs as logs
use Rattle.orders.proofs.Orders as order
use Rattle.records.specs.declared.ir_node.IRNode.{IRNode}
use Rattle.records.specs.declared.ir_node.IRNode.TheVariants as node
use Rattle.records.specs.Children.{Lists, children}
use Rattle.records.specs.Nodes.{parent}
use Rattle.ir.specs.declared.context.Context.{Context}
use Rattle.ir.specs.Stores.{nodes}
use Rattle.walkers.specs.declared.config.Direction.{Direction}
use Rattle.walkers.specs.declared.config.Direction.TheVariants.{Forward, Reverse}
use Rattle.walkers.specs.declared.config.Order.{Order}
use Rattle.walkers.specs.declared.config.Order.TheVariants.{PostOrder, PreOrder}
use Rattle.walkers.specs.declared.config.WalkConfig.{WalkConfig}
use Rattle.walkers.specs.Children.{directed, directed_children}
use Rattle.walkers.specs.Configs.{as_parent, early, is_pre, mirror, other_direction, other_order, other_pair}
use Rattle.walkers.specs.Walks.{WalkedIn, WholeIn}
use Rattle.walkers.proofs.Stores.{list_set, some_lists}

turned_order : (o : Order) → is_pre (other_order o) ≡ not (is_pre o)
turned_order PreOrder = refl
turned_order PostOrder = refl

pub turned_direction : (d : Direction) (ns : List IRNode) → directed (other_direction d) ns ≡ reverse (directed d ns)
turned_direction Forward ns = refl
turned_direction Reverse ns = sym (reverse-reverse ns)

pub mirrored_pair : (k : WalkConfig) (n : IRNode) → as_parent (mirror k) n ≡ other_pair (as_parent k n)
mirrored_pair k (node.Operation op) = refl
mirrored_pair k (node.BasicBlock block) = refl
mirrored_pair k (node.Region region) = refl

-- in the mirrored configuration nodes are early that were not, and children come from the last to the first
pub mirrored_early : (k : WalkConfig) (n : IRNode) → early (mirror k) n ≡ not (early k n)
mirrored_early k n = ap (λ (p : Order × Direction). is_pre p.0) (mirrored_pair k n) ∙ turned_order (as_parent k n).0

mirrored_children : (s : Context) (k : WalkConfig) (l : Lists (nodes s)) (n : IRNode) → directed_children (mirror k) (nodes s) l n ≡ reverse (directed_children k (nodes s) l n)
mirrored_children s k l n = ap (λ (p : Order × Direction). directed p.1 (children (nodes s) l n)) (mirrored_pair k n) ∙ turned_direction (as_parent k n).1 (children (nodes s) l n)

pub seen_once : {B : Type 0} (s : Context) (k : WalkConfig) (root : IRNode) (log : List (Shown IRNode B)) (r : WalkResult B) → WalkedIn s k root log r → ∥ Seen (parent (nodes s)) (early k) root log r ∥₁
seen_once s k root log r w = ∥∥₁_map (some_lists s) (λ (l : Lists (nodes s)). logs.seen_once (parent (nodes s)) (early k) (directed_children k (nodes s) l) root log r (w l))

pub one_whole : (s : Context) (k : WalkConfig) (root : IRNode) (ns ms : List IRNode) → WholeIn s k root ns → WholeIn s k root ms → ns ≡ ms
one_whole s k root ns ms x y = ∥∥₁_elim (some_lists s) (list_set ns ms) (λ (l : Lists (nodes s)). order.one (x l).order (y l).order)

pub mirrored_whole : (s : Context) (k : WalkConfig) (root : IRNode) (ns ms : List IRNode) → WholeIn s k root ns → WholeIn s (mirror k) root ms → ms ≡ reverse ns
mirrored_whole s k root ns ms x y =
    ∥∥₁_elim (some_lists s) (list_set ms (reverse ns)) (λ (l : Lists (nodes s)).
    order.mirrored (early k) (early (mirror k)) (directed_children k (nodes s) l) (directed_children (mirror k) (nodes s) l) (mirrored_early k) (mirrored_children s k l) (x l).order (y l).order)

-- a walk that always advances shows the whole order
whole_of : {B : Type 0} (s : Context) (k : WalkConfig) (root : IRNode) (log : List (Shown IRNode B)) (r : WalkResult B) → WalkedIn s k root log r → AllAdvance log → WholeIn s k root (shown_nodes log)
whole_of s k root log r w a l = (logs.one_walk (parent (nodes s)) (early k) (directed_children k (nodes s) l) root log r (w l) a).0

pub mirrored_walk : {B C : Type 0} (s : Context) (k : WalkConfig) (root : IRNode) (log : List (Shown IRNode B)) (r : WalkResult B) (back : List (Shown IRNode C)) (q : WalkResult C)
    → WalkedIn s k root log r → AllAdvance log → WalkedIn s (mirror k) root back q → AllAdvance back → shown_nodes back ≡ reverse (shown_nodes log)
mirrored_walk s k root log r back q w a v b =
    mirrored_whole s k root (shown_nodes log) (shown_nodes back) (whole_of s k root log r w a) (whole_of s (mirror k) root back q v b)
