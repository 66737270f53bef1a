-- Where a store is as a ledger says, a walk over the store's children is one over the ledger's. Assumes nothing.
use Rattle.std.proofs.Common.{◌≡◌, List, [], ◌∷◌, reverse, Option, sym, ap, ◌∙◌, subst}
use Rattle.orders.specs.declared.walk_result.WalkResult.{WalkResult}
use Rattle.orders.specs.declared.walk_result.WalkResult.TheVariants.{Advance}
use Rattle.orders.specs.Logs.{AllAdvance, Shown}
use Rattle.orders.specs.Logs.{Hidden as HiddenBy, Left as LeftBy, Next as NextBy, Walked, Whole as WholeBy, nodes as shown_nodes}
use Rattle.orders.specs.Order.{Orders}
use Rattle.orders.proofs.Logs.{less_none, less_same, none_skipped, on_unbroken, unbroken_all}
use Rattle.orders.proofs.Orders as order
use Rattle.orders.proofs.Stands.{whole as from_links}
use Rattle.orders.specs.Places.{never, order as order_from}
use Rattle.records.specs.declared.ir_node.IRNode.{IRNode}
use Rattle.records.specs.Nodes.{parent}
use Rattle.ir.specs.declared.context.Context.{Context}
use Rattle.ir.specs.Stores.{nodes}
use Rattle.walkers.specs.declared.config.Direction.{Direction}
use Rattle.walkers.specs.declared.config.Order.{Order}
use Rattle.walkers.specs.declared.config.WalkConfig.{WalkConfig}
use Rattle.walkers.specs.Children.{directed}
use Rattle.walkers.specs.Children.{directed_children as store_children}
use Rattle.walkers.specs.Configs.{as_parent, early, mirror}
use Rattle.walkers.specs.Links.{links}
use Rattle.walkers.specs.Walks.{WalkedIn, WholeIn}
use Rattle.walkers.proofs.Stores.{have, over_children}
use Rattle.walkers.proofs.WalkLaws.{mirrored_early, mirrored_pair, turned_direction}
use Rattle.histories.specs.Ledgers.{Ledger, children, directed_children}
use Rattle.histories.specs.Represents.{Represents}
use Rattle.histories.specs.Walking.{Hidden, LeftOf, NextOf, WalkOf, Whole}
use Rattle.histories.proofs.Nodes.{below_within, directed_are, has_parent, lists, parent_has, within_below}

module _ (s : Context) (l : Ledger) (r : Represents s l) (k : WalkConfig) (root : IRNode) where
  whole_by : (ns : List IRNode) → WholeBy (parent (nodes s)) (early k) (store_children k (nodes s) (lists s l r)) root ns → Whole k l root ns
  whole_by ns w = record {
    order = subst (λ (f : IRNode → List IRNode). Orders (early k) f (root ∷ []) ns) (directed_are s l r k) w.order;
    once = w.once;
    below = λ x i. within_below s l r (w.below x i);
    all = λ x b. w.all x (below_within s l r b);
  }

  pub whole_of : (ns : List IRNode) → WholeIn s k root ns → Whole k l root ns
  whole_of ns w = whole_by ns (w (lists s l r))

  -- there is one
  pub some_whole : (ns : List IRNode) × Whole k l root ns
  some_whole =
      let ns = order_from (links (nodes s) k) never root in
      (ns, whole_of ns (λ ls. over_children (λ p f c. WholeBy p f c root ns) s k (from_links (links (nodes s) k) (have s k) root) ls))

  module _ {B : Type 0} (log : List (Shown IRNode B)) where
    hidden_to : (x : IRNode) → Hidden k l log x → HiddenBy (parent (nodes s)) (early k) log x
    hidden_to x h = record {
      by = h.by;
      first = h.first;
      skipped = h.skipped;
      inside = record { above = h.deeper.0; parent = has_parent s l r x h.deeper.0 h.deeper.2; under = below_within s l r h.deeper.1 };
    }

    hidden_from : (x : IRNode) → HiddenBy (parent (nodes s)) (early k) log x → Hidden k l log x
    hidden_from x h = record {
      by = h.by;
      first = h.first;
      skipped = h.skipped;
      deeper = (h.inside.above, within_below s l r h.inside.under, parent_has s l r x h.inside.above h.inside.parent);
    }

    walk_by : (a : WalkResult B) → Walked (parent (nodes s)) (early k) (store_children k (nodes s) (lists s l r)) root log a → WalkOf k l root log a
    walk_by a w = record {
      whole = w.whole;
      is_whole = whole_by w.whole w.is_whole;
      less = w.less;
      cut = less_same (λ x h g. h (hidden_to x g)) (λ x h g. h (hidden_from x g)) w.cut;
      ending = w.ending;
    }

    pub walk_of : (a : WalkResult B) → WalkedIn s k root log a → WalkOf k l root log a
    walk_of a w = walk_by a (w (lists s l r))

    left_of : (xs : List IRNode) → LeftBy (parent (nodes s)) (early k) (store_children k (nodes s) (lists s l r)) root log xs → LeftOf k l root log xs
    left_of xs w = record {
      whole = w.whole;
      is_whole = whole_by w.whole w.is_whole;
      unbroken = w.unbroken;
      cut = less_same (λ x h g. h (hidden_to x g)) (λ x h g. h (hidden_from x g)) w.cut;
    }

    pub next_of : (o : Option IRNode) → NextBy (parent (nodes s)) (early k) (store_children k (nodes s) (lists s l r)) root log o → NextOf k l root log o
    next_of o w = record {
      comes = λ u. let v = w.comes u in (v.0, left_of v.0 v.1, v.2);
      stops = w.stops;
      ends = λ e. let v = w.ends e in (v.0, walk_by v.0 v.1);
    }

-- What holds of every walk over a ledger.

-- a walk to which every answer is to advance shows the whole order
pub all_shown : {B : Type 0} (k : WalkConfig) (l : Ledger) (root : IRNode) (log : List (Shown IRNode B)) (a : WalkResult B) → WalkOf k l root log a → AllAdvance log
    → Whole k l root (shown_nodes log) × (a ≡ Advance)
all_shown k l root log a w h =
    let u = unbroken_all log w.less a (on_unbroken log h) w.ending in
    let e = less_none (λ x g. none_skipped log g.by h g.skipped) w.cut in
    (subst (Whole k l root) (sym (u.0 ∙ e)) w.is_whole, u.1)

mirrored_children : (k : WalkConfig) (l : Ledger) (n : IRNode) → directed_children (mirror k) l n ≡ reverse (directed_children k l n)
mirrored_children k l n = ap (λ (p : Order × Direction). directed p.1 (children l n)) (mirrored_pair k n) ∙ turned_direction (as_parent k n).1 (children l n)

-- the mirrored configuration gives the whole order from its end
pub mirrored_whole : (k : WalkConfig) (l : Ledger) (root : IRNode) (ns ms : List IRNode) → Whole k l root ns → Whole (mirror k) l root ms → ms ≡ reverse ns
mirrored_whole k l root ns ms x y =
    order.mirrored (early k) (early (mirror k)) (directed_children k l) (directed_children (mirror k) l) (mirrored_early k) (mirrored_children k l) x.order y.order
