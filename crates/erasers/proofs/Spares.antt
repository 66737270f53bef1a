-- What an erasure spares: every node that stands in no list, and every region of another operation. Assumes nothing.
use Rattle.std.proofs.Common.{◌≡◌, ℕ, zero, suc, Bool, true, false, cond, List, [], ◌∷◌, map, ◌⊎◌, Some, None, Option, sym, refl, ap, ◌∙◌, subst, inl, inr}
use mathlib.Core.HLevel.{⊥_prop}
use mathlib.Core.Logic.{∥∥₁_elim, ∥∥₁_map}
use Rattle.arena.specs.Pools.{live}
use Rattle.arena.specs.Shelves.{item}
use Rattle.arena.proofs.Shelving.{at_dead, at_some}
use Rattle.linked_list.specs.Links.{Holds, In, View}
use Rattle.linked_list.proofs.Lists.{none_some, run_within, some_same}
use Rattle.orders.specs.Order.{Orders}
use Rattle.orders.specs.Places.{never}
use Rattle.records.specs.declared.basic_block.BasicBlock.{BasicBlock}
use Rattle.records.specs.declared.handles.BlockPtr.{BlockPtr}
use Rattle.records.specs.declared.handles.OpPtr.{OpPtr}
use Rattle.records.specs.declared.handles.RegionPtr.{RegionPtr}
use Rattle.records.specs.declared.ir_node.IRNode.{IRNode}
use Rattle.records.specs.declared.ir_node.IRNode.TheVariants as node
use Rattle.records.specs.declared.operation.Operation.{Operation}
use Rattle.records.specs.declared.region.Region.{Region}
use Rattle.records.specs.Children.{Lists, children, is_live, regions_in}
use Rattle.records.specs.Models.{Model, operation_at, region_at}
use Rattle.records.specs.Nodes.{Belongs, regions_of}
use Rattle.records.specs.Views.{block_links, op_links, part}
use Rattle.records.proofs.Rests.{was}
use Rattle.erasers.specs.Erasings.{Closed, Erased, Loose, Open}
use Rattle.erasers.proofs.Ends.{Fewer, decide, live_outside, no_some, outside_regions, outside_stands, stand, was_live}
use Rattle.erasers.proofs.Sequences.{parent_ends}

pub in_map : {A B : Type 0} (f : A → B) (ks : List A) (x : B) → In x (map f ks) → (k : A) × In k ks × (x ≡ f k)
in_map f [] x i = elim i [ ]
in_map f (k ∷ ks) x (inl e) = (k, inl refl, e)
in_map f (k ∷ ks) x (inr i) = let w = in_map f ks x i in (w.0, inr w.1, w.2)

pub map_in : {A B : Type 0} (f : A → B) (ks : List A) (k : A) → In k ks → In (f k) (map f ks)
map_in f [] k i = elim i [ ]
map_in f (j ∷ ks) k (inl e) = inl (ap f e)
map_in f (j ∷ ks) k (inr i) = inr (map_in f ks k i)

pub item_of : {A : Type 0} (ks : List A) (k : A) → In k ks → (i : ℕ) × (item ks i ≡ Some k)
item_of [] k i = elim i [ ]
item_of (j ∷ ks) k (inl e) = (0, ap Some (sym e))
item_of (j ∷ ks) k (inr i) = let w = item_of ks k i in (suc w.0, w.1)

pub item_in : {A : Type 0} (ks : List A) (i : ℕ) (k : A) → item ks i ≡ Some k → In k ks
item_in [] i k e = absurd (none_some e)
item_in (j ∷ ks) zero k e = inl (sym (some_same e))
item_in (j ∷ ks) (suc i) k e = inr (item_in ks i k e)

-- the node x stands in the node c
abbrev pub Held : Model → IRNode → IRNode → Type 0
Held m c (node.Operation p) = (b : BlockPtr) × (c ≡ node.BasicBlock b) × ((op_links m).within p ≡ Some b)
Held m c (node.BasicBlock b) = (r : RegionPtr) × (c ≡ node.Region r) × ((block_links m).within b ≡ Some r)
Held m c (node.Region r) = (q : OpPtr) × (o : Operation) × (i : ℕ) × (c ≡ node.Operation q) × (operation_at m q ≡ Some o) × (item (regions_of o) i ≡ Some r)

region_held : (m : Model) (q : OpPtr) (x : Option Operation) (r : RegionPtr) → operation_at m q ≡ x → In r (regions_in x) → Held m (node.Operation q) (node.Region r)
region_held m q None r e i = elim i [ ]
region_held m q (Some o) r e i = let w = item_of (regions_of o) r i in (q, o, w.0, refl, e, w.1)

in_live : (b : Bool) (xs : List IRNode) (x : IRNode) → In x (cond b xs []) → (b ≡ true) × In x xs
in_live true xs x i = (refl, i)
in_live false xs x i = elim i [ ]

-- a child of a node stands in it
pub child_held : (m : Model) (l : Lists m) (c x : IRNode) → In x (children m l c) → Held m c x
child_held m l (node.Operation q) x i =
    let w = in_map node.Region (regions_in (operation_at m q)) x i in
    subst (Held m (node.Operation q)) (sym w.2) (region_held m q (operation_at m q) w.0 refl w.1)
child_held m l (node.BasicBlock b) x i =
    let a = in_live (live m.blocks.pool b.handle) (map node.Operation (l.ops b)) x i in
    let w = in_map node.Operation (l.ops b) x a.1 in
    subst (Held m (node.BasicBlock b)) (sym w.2) (b, refl, run_within (op_links m) b None (l.ops b) None (l.ops_hold.chains b a.0).run w.0 w.1)
child_held m l (node.Region r) x i =
    let a = in_live (live m.regions.pool r.handle) (map node.BasicBlock (l.blocks r)) x i in
    let w = in_map node.BasicBlock (l.blocks r) x a.1 in
    subst (Held m (node.Region r)) (sym w.2) (r, refl, run_within (block_links m) r None (l.blocks r) None (l.blocks_hold.chains r a.0).run w.0 w.1)

-- Nothing that stands in no list ends with another node.
module _ (m : Model) (A : List OpPtr) (o : Open m A) (l : Lists m) (n : IRNode) (closed : Closed A n) (ends : List IRNode) (order : Orders never (children m l) (n ∷ []) ends) where
  -- what ends is the node itself, or stands in what ends
  pub ends_held : (x : IRNode) → In x ends → (x ≡ n) ⊎ ((c : IRNode) × In c ends × Held m c x)
  ends_held x i =
      elim (parent_ends (children m l) order x i) [
        | inl j ↦ elim j [ inl e ↦ inl e | inr z ↦ elim z [ ] ]
        | inr w ↦ inr (w.0, w.1, child_held m l w.0 x w.2)
      ]

  loose_op : (p : OpPtr) → (op_links m).within p ≡ None → (node.Operation p ≡ n → ⊥) → In (node.Operation p) ends → ⊥
  loose_op p none ne i = elim (ends_held (node.Operation p) i) [ inl e ↦ ne e | inr w ↦ no_some w.2.0 ((op_links m).within p) none w.2.2 ]

  not_open : (q : OpPtr) → In (node.Operation q) ends → In q A → ⊥
  not_open q i a = loose_op q (o.loose q a) (λ e. subst (Closed A) (sym e) closed a) i

  -- a region that ends with another node belongs to an operation that ends
  pub owner_ends : (r : RegionPtr) → (node.Region r ≡ n → ⊥) → In (node.Region r) ends → (q : OpPtr) × (i : ℕ) × In (node.Operation q) ends × (In q A → ⊥) × Belongs m q i r
  owner_ends r ne i =
      elim (ends_held (node.Region r) i) [
        | inl e ↦ absurd (ne e)
        | inr w ↦
            (let h = w.2 in
            let j : In (node.Operation h.0) ends = subst (λ (c : IRNode). In c ends) h.3 w.1 in
            (h.0, h.2, j, not_open h.0 j, o.belongs h.0 h.1 h.2 r (not_open h.0 j) h.4 h.5))
      ]

  same_region : (r : RegionPtr) (x y : Region) → region_at m r ≡ Some x → region_at m r ≡ Some y → x ≡ y
  same_region r x y e f = some_same (sym e ∙ f)

  pub spared : (x : IRNode) → Loose m A x → (x ≡ n → ⊥) → In x ends → ⊥
  spared (node.Operation p) none ne i = loose_op p none ne i
  spared (node.BasicBlock b) none ne i = elim (ends_held (node.BasicBlock b) i) [ inl e ↦ ne e | inr w ↦ no_some w.2.0 ((block_links m).within b) none w.2.2 ]
  spared (node.Region r) loose ne i =
      let w = owner_ends r ne i in
      let b = w.4 in
      w.3 (subst (λ (q : OpPtr). In q A) (ap (λ (x : Region). x.parent_op) (same_region r loose.0 b.is_live loose.1 b.record_is) ∙ b.operation) loose.2)

  -- a region of an operation that is not being erased, and stays, is spared
  pub region_spared : (p : OpPtr) (i : ℕ) (r : RegionPtr) → Loose m A n → (In p A → ⊥) → (In (node.Operation p) ends → ⊥) → Belongs m p i r → In (node.Region r) ends → ⊥
  region_spared p i r loose not out b j =
      let root : node.Region r ≡ n → ⊥ = λ e. (
      let own : Loose m A (node.Region r) = subst (Loose m A) (sym e) loose in
      not (subst (λ (q : OpPtr). In q A) (ap (λ (x : Region). x.parent_op) (same_region r own.0 b.is_live own.1 b.record_is) ∙ b.operation) own.2)) in
      let w = owner_ends r root j in
      let same : w.0 ≡ p = sym w.4.operation ∙ ap (λ (x : Region). x.parent_op) (same_region r w.4.is_live b.is_live w.4.record_is b.record_is) ∙ b.operation in
      out (subst (λ (q : OpPtr). In (node.Operation q) ends) same w.2)

-- what stands in no list stands in none after links went on to describe the same lists
module _ {N C : Type 0} (v w : View N C) (n : N) (lists : ∥ ((L : C → List N) × Holds v L × Holds w L) ∥₁) (held : (c : C) → w.held c ≡ true → v.held c ≡ true)
    (none : v.within n ≡ None) (dead : w.live n ≡ false → w.within n ≡ None) where
  none_by : (o : Option C) → w.within n ≡ o → w.within n ≡ None
  none_by None e = e
  none_by (Some c) e =
      elim (decide (w.live n)) [
        | inr gone ↦ dead gone
        | inl alive ↦ absurd (∥∥₁_elim lists ⊥_prop (λ l.
            let k = l.2.listed n c alive e in
            no_some c (v.within n) none (run_within v c None (l.0 c) None (l.1.chains c (held c k.0)).run n k.1)))
      ]

  pub none_after : w.within n ≡ None
  none_after = none_by (w.within n) refl

-- the nodes that ended, of an erasure
pub fewer_of : {s t : Model} {n : IRNode} (e : Erased s n t) → Fewer s t e.ends
fewer_of e = record { alive = e.alive; once = e.once; places = e.places }

-- a region that stays stands where it stood
module _ {s t : Model} {ends : List IRNode} (f : Fewer s t ends) where
  pub region_kept : (r : RegionPtr) (x : Region) → region_at s r ≡ Some x → (In (node.Region r) ends → ⊥) → (y : Region) × (region_at t r ≡ Some y) × (y.parent_op ≡ x.parent_op) × (y.index ≡ x.index)
  region_kept r x is out =
      let new = was stand (region_at t r) (region_at s r) x (sym (outside_stands f r out)) is in
      (new.it, new.is, ap (λ (p : OpPtr × ℕ). p.0) new.alike, ap (λ (p : OpPtr × ℕ). p.1) new.alike)

  pub belongs_kept : (p : OpPtr) (i : ℕ) (r : RegionPtr) → Belongs s p i r → (In (node.Region r) ends → ⊥) → Belongs t p i r
  belongs_kept p i r b out =
      let y = region_kept r b.is_live b.record_is out in
      record { is_live = y.0; record_is = y.1; operation = y.2 ∙ b.operation; place = y.3 ∙ b.place }

module _ (s t : Model) (A : List OpPtr) (o : Open s A) (lists : ∥ Lists s ∥₁) (n : IRNode) (loose : Loose s A n) (closed : Closed A n) (e : Erased s n t) where
  op_after : (p : OpPtr) → (op_links s).within p ≡ None → (op_links t).within p ≡ None
  op_after p none =
      none_after (op_links s) (op_links t) p (∥∥₁_map lists (λ l. (l.ops, l.ops_hold, (e.lists l).0))) (λ c k. was_live (fewer_of e) (node.BasicBlock c) k) none
      (λ d. ap (part (λ (x : Operation). x.container)) (at_dead t.operations p.handle d))

  block_after : (b : BlockPtr) → (block_links s).within b ≡ None → (block_links t).within b ≡ None
  block_after b none =
      none_after (block_links s) (block_links t) b (∥∥₁_map lists (λ l. (l.blocks, l.blocks_hold, (e.lists l).1))) (λ c k. was_live (fewer_of e) (node.Region c) k) none
      (λ d. ap (part (λ (x : BasicBlock). x.container)) (at_dead t.blocks b.handle d))

  pub loose_after : (x : IRNode) → Loose s A x → is_live t x ≡ true → Loose t A x
  loose_after (node.Operation p) none a = op_after p none
  loose_after (node.BasicBlock b) none a = block_after b none
  loose_after (node.Region r) w a =
      let y = region_kept (fewer_of e) r w.0 w.1 (live_outside (fewer_of e) (node.Region r) a) in
      (y.0, y.1, subst (λ (q : OpPtr). In q A) (sym y.2) w.2)

  pub open_after : Open t A
  open_after = record {
    loose = λ p a. op_after p (o.loose p a);
    belongs = λ p x i r not is listed.
        let out = live_outside (fewer_of e) (node.Operation p) (at_some t.operations p.handle x (sym is)) in
        let old = was regions_of (operation_at s p) (operation_at t p) x (outside_regions (fewer_of e) p out) is in
        let b = o.belongs p old.it i r not old.is (ap (λ (rs : List RegionPtr). item rs i) old.alike ∙ listed) in
        belongs_kept (fewer_of e) p i r b (λ j. ∥∥₁_elim lists ⊥_prop (λ l. region_spared s A o l n closed e.ends (e.order l) p i r loose not out b j));
  }

  -- what stands in no list is spared
  pub spared_by : (x : IRNode) → Loose s A x → (x ≡ n → ⊥) → In x e.ends → ⊥
  spared_by x w ne i = ∥∥₁_elim lists ⊥_prop (λ l. spared s A o l n closed e.ends (e.order l) x w ne i)
