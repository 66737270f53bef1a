-- The second node that a walk from a block gives is its first operation. Assumes nothing.
use Rattle.std.proofs.Common.{◌≡◌, refl, sym, ap, subst, ◌∙◌, List, [], ◌∷◌, ◌++◌, map, append-nil, inl, inr, Bool, true, true≢false, cond, Some, None, Option}
use mathlib.Core.Logic.{∥∥₁_elim}
use Rattle.std.specs.Option.{option_map}
use Rattle.result.specs.Rows.{NoRow}
use Rattle.linked_list.specs.Links.{Holds, In, first_or}
use Rattle.orders.specs.declared.walk_result.WalkResult.{WalkResult}
use Rattle.orders.specs.declared.walk_result.WalkResult.TheVariants.{Advance, Skip}
use Rattle.orders.specs.Order.{Orders, none, first, last}
use Rattle.orders.specs.Logs.{Next, Shown, shown}
use Rattle.orders.proofs.Logs.{less_none}
use Rattle.orders.proofs.Orders.{one}
use Rattle.records.specs.declared.handles.BlockPtr.{BlockPtr}
use Rattle.records.specs.declared.handles.OpPtr.{OpPtr}
use Rattle.records.specs.declared.handles.RegionPtr.{RegionPtr}
use Rattle.records.specs.declared.ir_node.IRNode.{IRNode}
use Rattle.records.specs.declared.ir_node.IRNode.TheVariants as node
use Rattle.records.specs.Nodes.{parent}
use Rattle.records.specs.Views.{block_links, op_links}
use Rattle.forest.proofs.Above.{node_set}
use Rattle.forest.proofs.Listed.{decide}
use Rattle.ir.specs.declared.context.Context.{Context}
use Rattle.ir.specs.Stores.{nodes}
use Rattle.walkers.specs.declared.config.TheConstants.{WALKCONFIG_PREORDER_FORWARD}
use Rattle.walkers.specs.declared.config.WalkConfig.{WalkConfig}
use Rattle.walkers.specs.declared.walk.Walk.{Walk}
use Rattle.walkers.specs.Children.{directed_children}
use Rattle.records.specs.Children.{Lists}
use Rattle.walkers.specs.HeldWalks.{Begins, Steps, with_answer}
use Rattle.walkers.specs.Configs.{early}
use Rattle.walkers.specs.Walks.{root_rows}
use Rattle.passes.specs.Firsts.{IsFirst, operation_in}

tail_same : {N : Type 0} {n : N} {xs ys : List N} → n ∷ xs ≡ n ∷ ys → xs ≡ ys
tail_same e = cc

not_skipped : {N B : Type 0} (n m : N) → In (shown {B = B} m Skip) (shown n Advance ∷ []) → ⊥
not_skipped {N} {B} n m (inl e) = let q : ◌≡◌ {A = WalkResult B} Skip Advance = ap (λ (s : Shown N B). s.answer) e in cc
not_skipped n m (inr i) = i

module _ {N : Type 0} {early : N → Bool} {children : N → List N} (all : (n : N) → early n ≡ true) where
  -- the first node comes first, and then what its children are shown as
  heads : {n : N} {ws : List N} → Orders early children (n ∷ []) ws → (ys : List N) × Orders early children (children n) ys × (ws ≡ n ∷ ys)
  heads (first {n} {xs} q k t) = (xs, k, ap (λ z. n ∷ (xs ++ z)) (one t none) ∙ ap (λ z. n ∷ z) (append-nil xs))
  heads (last {n} q k t) = absurd (true≢false (sym (all n) ∙ q))

  leads : {ns xs : List N} → Orders early children ns xs → first_or xs None ≡ first_or ns None
  leads none = refl
  leads (first q k t) = refl
  leads (last {n} q k t) = absurd (true≢false (sym (all n) ∙ q))

  module _ {B : Type 0} (p : N → Option N) (root : N) (r : Option N) where
    first_next : Next {B = B} p early children root [] r → r ≡ Some root
    first_next n =
        let c = n.comes tt in
        let h = heads c.1.is_whole.order in
        c.2 ∙ ap (λ z. first_or z None) (less_none (λ x d. d.skipped) c.1.cut ∙ h.2)

    second_next : Next p early children root (shown {B = B} root Advance ∷ []) r → r ≡ first_or (children root) None
    second_next n =
        let c = n.comes (tt, tt) in
        let h = heads c.1.is_whole.order in
        c.2 ∙ ap (λ z. first_or z None) (tail_same (less_none (λ x d. not_skipped root d.by d.skipped) c.1.cut ∙ h.2)) ∙ leads h.1

all_early : (n : IRNode) → early WALKCONFIG_PREORDER_FORWARD n ≡ true
all_early (node.Operation op) = refl
all_early (node.BasicBlock block) = refl
all_early (node.Region region) = refl

first_mapped : {A C : Type 0} (f : A → C) (xs : List A) → first_or (map f xs) None ≡ option_map f (first_or xs None)
first_mapped f [] = refl
first_mapped f (x ∷ xs) = refl

-- what comes next, whatever lists the store's links describe
abbrev NextIn : Context → WalkConfig → IRNode → List (Shown IRNode (Unit {0})) → Option IRNode → Type 0
NextIn s k root log r = (l : Lists (nodes s)) → Next (parent (nodes s)) (early k) (directed_children k (nodes s) l) root log r

module _ (s : Context) (block : BlockPtr) (alive : NoRow (root_rows s (node.BasicBlock block))) (w x y : Walk) (q r : Option IRNode)
    (b : Begins s WALKCONFIG_PREORDER_FORWARD (node.BasicBlock block) w) (t : Steps w Advance q x) (u : Steps x Advance r y) where
  abbrev k : WalkConfig
  k = WALKCONFIG_PREORDER_FORWARD

  abbrev root : IRNode
  root = node.BasicBlock block

  given : (P : Context → WalkConfig → IRNode → Type 0) → P w.context.now w.config w.root → P s k root
  given P h = subst (λ c. P c k root) b.on (subst (λ c. P w.context.now c root) b.by (subst (P w.context.now w.config) b.from h))

  given_after : (P : Context → WalkConfig → IRNode → Type 0) → P x.context.now x.config x.root → P s k root
  given_after P h =
      given P (subst (λ c. P c w.config w.root) (ap (λ c. c.now) t.on) (subst (λ c. P x.context.now c w.root) t.by (subst (P x.context.now x.config) t.from h)))

  first_is : Lists (nodes s) → q ≡ Some root
  first_is l = first_next all_early (parent (nodes s)) root q (given (λ c e n. NextIn c e n [] q) (t.next [] None (t.begins b.fresh)) l)

  second_child : (l : Lists (nodes s)) → r ≡ first_or (directed_children k (nodes s) l root) None
  second_child l =
      second_next all_early (parent (nodes s)) root r
      (subst (λ z. Next {B = Unit {0}} (parent (nodes s)) (early k) (directed_children k (nodes s) l) root (with_answer z [] Advance) r) (first_is l)
      (given_after (λ c e n. NextIn c e n (with_answer q [] Advance) r) (u.next [] q (t.stands [] None (t.begins b.fresh))) l))

  is_alive : (op_links (nodes s)).held block ≡ true
  is_alive = elim (decide ((op_links (nodes s)).held block)) [ inl e ↦ e | inr e ↦ absurd (alive.0 e) ]

  second_is : (L : BlockPtr → List OpPtr) → Holds (op_links (nodes s)) L → r ≡ option_map node.Operation (first_or (L block) None)
  second_is L h =
      ∥∥₁_elim s.tables.forest.blocklists (node_set _ _) (λ (o : (M : RegionPtr → List BlockPtr) × Holds (block_links (nodes s)) M).
      let l : Lists (nodes s) = record { ops = L; blocks = o.0; ops_hold = h; blocks_hold = o.1 } in
      second_child l ∙ ap (λ z. first_or (cond z (map node.Operation (L block)) []) None) is_alive ∙ first_mapped node.Operation (L block))

  operation_of : (o : Option OpPtr) → operation_in (option_map node.Operation o) ≡ o
  operation_of None = refl
  operation_of (Some op) = refl

  pub is_first : (o : Option OpPtr) → o ≡ operation_in r → IsFirst s block o
  is_first o e L h = e ∙ ap operation_in (second_is L h) ∙ operation_of (first_or (L block) None)
