-- An erasure in the store of nodes: exactly the node and what lies below it ends, and what always holds of the store still does.
-- Assumes nothing.
use Rattle.std.proofs.Common.{◌≡◌, ℕ, true, List, [], ◌∷◌, ◌++◌, ◌⊎◌, Some, None, Option, sym, refl, ap, ◌∙◌, subst, inl, inr, ⊎_elim}
use mathlib.Core.HLevel.{⊥_prop}
use mathlib.Core.Logic.{∥∥₁_elim, ∥∥₁_map}
use mathlib.Core.Path.{fun_ext}
use Rattle.std.specs.Option.{option_map}
use Rattle.arena.specs.Pools.{live}
use Rattle.arena.specs.Shelves.{item}
use Rattle.arena.proofs.Shelving.{at_dead, at_some}
use Rattle.linked_list.specs.Edits.{Others, Removes, Takes}
use Rattle.linked_list.specs.Links.{At, Holds, In, Sound, View}
use Rattle.linked_list.proofs.Laws.{laws}
use Rattle.linked_list.proofs.Lists.{none_some, run_within, some_same}
use Rattle.linked_list.proofs.Relist.{put, relist}
use Rattle.linked_list.proofs.Spots.{cut}
use Rattle.trees.specs.Climbs.{Acyclic, Ends, Within, below, child, root, self}
use Rattle.trees.proofs.Climbing.{not_itself, option_set}
use Rattle.records.specs.declared.basic_block.BasicBlock.{BasicBlock}
use Rattle.records.specs.declared.handles.BlockPtr.{BlockPtr}
use Rattle.records.specs.declared.handles.OpPtr.{OpPtr}
use Rattle.records.specs.declared.handles.RegionPtr.{RegionPtr}
use Rattle.records.specs.declared.ir_node.IRNode.{IRNode}
use Rattle.records.specs.declared.ir_node.IRNode.TheVariants as node
use Rattle.records.specs.declared.operation.Operation.{Operation}
use Rattle.records.specs.declared.region.Region.{Region}
use Rattle.records.specs.Children.{Lists, children, is_live, regions_in}
use Rattle.records.specs.Endings.{but_links, without_all}
use Rattle.records.specs.Models.{Model, operation_at, region_at}
use Rattle.records.specs.Nodes.{Has, Owned, owner, parent, regions_of}
use Rattle.records.specs.Views.{block_links, but_block_links, but_op_links, op_links, part}
use Rattle.records.specs.Writes.{block_same, region_same}
use Rattle.records.proofs.Rests.{block_edit_core, block_edit_links, op_edit_core, op_edit_links, was}
use Rattle.erasers.specs.Erasings.{Closed, Erasable, Erased, Loose, Open}
use Rattle.erasers.proofs.Ends.{Fewer, clash, decide, inside_dead, live_outside, no_some, outside_live, outside_regions, outside_stands, stand, was_live}
use Rattle.erasers.proofs.Sequences.{children_end, order_same, roots_end, roots_hold}
use Rattle.erasers.proofs.Spares.{Held, child_held, fewer_of, item_in, loose_after, map_in, open_after}
use Rattle.erasers.proofs.Takes.{at_true, none_ended}
use Rattle.erasers.proofs.Turns.{Alike, children_alike}
use Rattle.forest.specs.Erasings.{Ended, TakenOut}
use Rattle.forest.proofs.Above.{node_same, node_set}
use Rattle.forest.proofs.Climbs.{dead_parent}

in_or_not : (x : IRNode) (xs : List IRNode) → In x xs ⊎ (In x xs → ⊥)
in_or_not x [] = inr (λ z. z)
in_or_not x (y ∷ ys) =
    ⊎_elim (λ e. inl (inl e)) (λ ne. ⊎_elim (λ i. inl (inr i)) (λ out. inr (⊎_elim ne out)) (in_or_not x ys)) (node_same x y)

-- what is there is the image of something
some_of : {A B : Type 0} (f : A → B) (o : Option A) (k : B) → option_map f o ≡ Some k → (a : A) × (o ≡ Some a) × (k ≡ f a)
some_of f None k e = absurd (none_some e)
some_of f (Some a) k e = (a, refl, sym (some_same e))

pub open_owned : (u : Model) → Owned u → Open u []
open_owned u w = record { loose = λ p i. elim i [ ]; belongs = λ p o i r not. w.belongs p o i r }

pub erasable_op : (u : Model) (p : OpPtr) → ∥ Owned u ∥₁ → (op_links u).within p ≡ None → Erasable u (node.Operation p)
erasable_op u p own none = ∥∥₁_map own (λ w. ([], open_owned u w, none, (λ z. z)))

pub erasable_block : (u : Model) (b : BlockPtr) → ∥ Owned u ∥₁ → (block_links u).within b ≡ None → Erasable u (node.BasicBlock b)
erasable_block u b own none = ∥∥₁_map own (λ w. ([], open_owned u w, none, tt))

owner_same : (x y : Option Region) → option_map stand x ≡ option_map stand y → option_map (λ (z : Region). z.parent_op) x ≡ option_map (λ (z : Region). z.parent_op) y
owner_same None None e = refl
owner_same None (Some y) e = absurd (none_some e)
owner_same (Some x) None e = absurd (none_some (sym e))
owner_same (Some x) (Some y) e = ap Some (ap (λ (p : OpPtr × ℕ). p.0) (some_same e))

-- operations with the same regions have the same region at an index
listed_as : (a b : Operation) (i : ℕ) (r : RegionPtr) → regions_of a ≡ regions_of b → item (regions_of b) i ≡ Some r → item (regions_of a) i ≡ Some r
listed_as a b i r e f = ap (λ (rs : List RegionPtr). item rs i) e ∙ f

-- The node n, which stands in no list, is erased.
module _ (u t : Model) (n : IRNode) (lists : ∥ Lists u ∥₁) (own : ∥ Owned u ∥₁) (loose : Loose u [] n) (closed : Closed [] n) (e : Erased u n t) where
  held_parent : (c x : IRNode) → Held u c x → parent u x ≡ Some c
  held_parent c (node.Operation p) w = ap (option_map node.BasicBlock) w.2 ∙ ap Some (sym w.1)
  held_parent c (node.BasicBlock b) w = ap (option_map node.Region) w.2 ∙ ap Some (sym w.1)
  held_parent c (node.Region r) w =
      ∥∥₁_elim own (node_set _ _) (λ o.
      let b = o.belongs w.0 w.1 w.2 r w.4 w.5 in
      ap (λ (z : Option Region). option_map node.Operation (option_map (λ (y : Region). y.parent_op) z)) b.record_is ∙ ap (λ (q : OpPtr). Some (node.Operation q)) b.operation ∙ ap Some (sym w.3))

  -- what ends lies within n
  pub ends_below : (l : Lists u) (x : IRNode) → In x e.ends → Within (parent u) n x
  ends_below l x i =
      let w = roots_hold (children u l) (parent u) (λ c y j. held_parent c y (child_held u l c y j)) (e.order l) x i in
      ⊎_elim (λ z. subst (λ (r : IRNode). Within (parent u) r x) z w.2) (λ z. absurd z) w.1

  -- a node is among the children of its parent
  parent_child : (l : Lists u) (x k : IRNode) → parent u x ≡ Some k → (In x (children u l k) → ⊥) → ⊥
  parent_child l (node.Operation p) k f not =
      let w = some_of node.BasicBlock ((op_links u).within p) k f in
      elim (decide (live u.operations.pool p.handle)) [
        | inr dead ↦ no_some w.0 ((op_links u).within p) (ap (part (λ (o : Operation). o.container)) (at_dead u.operations p.handle dead)) w.1
        | inl alive ↦
            (let h = l.ops_hold.listed p w.0 alive w.1 in
            not (subst (λ (c : IRNode). In (node.Operation p) (children u l c)) (sym w.2) (subst (In (node.Operation p)) (sym (at_true _ _ h.0)) (map_in node.Operation (l.ops w.0) p h.1))))
      ]
  parent_child l (node.BasicBlock b) k f not =
      let w = some_of node.Region ((block_links u).within b) k f in
      elim (decide (live u.blocks.pool b.handle)) [
        | inr dead ↦ no_some w.0 ((block_links u).within b) (ap (part (λ (y : BasicBlock). y.container)) (at_dead u.blocks b.handle dead)) w.1
        | inl alive ↦
            (let h = l.blocks_hold.listed b w.0 alive w.1 in
            not (subst (λ (c : IRNode). In (node.BasicBlock b) (children u l c)) (sym w.2) (subst (In (node.BasicBlock b)) (sym (at_true _ _ h.0)) (map_in node.BasicBlock (l.blocks w.0) b h.1))))
      ]
  parent_child l (node.Region r) k f not =
      let w = some_of node.Operation (owner u r) k f in
      let y = some_of (λ (z : Region). z.parent_op) (region_at u r) w.0 w.1 in
      ∥∥₁_elim own ⊥_prop (λ o.
      let h = o.has r y.0 y.1 in
      let i : In r (regions_in (operation_at u y.0.parent_op)) = subst (λ (z : Option Operation). In r (regions_in z)) (sym h.record_is) (item_in (regions_of h.is_live) y.0.index r h.listed) in
      not (subst (λ (c : IRNode). In (node.Region r) (children u l c)) (sym (w.2 ∙ ap node.Operation y.2)) (map_in node.Region (regions_in (operation_at u y.0.parent_op)) r i)))

  all_not : (l : Lists u) (x : IRNode) → Within (parent u) n x → (In x e.ends → ⊥) → ⊥
  all_not l x (self z) out = out (subst (λ (y : IRNode). In y e.ends) (sym z) (roots_end (children u l) (e.order l) n (inl refl)))
  all_not l x (below k f w) out = all_not l k w (λ i. parent_child l x k f (λ j. out (children_end (children u l) (e.order l) k x i j)))

  -- all that lies within n ends
  pub all_end : (x : IRNode) → Within (parent u) n x → In x e.ends
  all_end x w = elim (in_or_not x e.ends) [ inl i ↦ i | inr out ↦ absurd (∥∥₁_elim lists ⊥_prop (λ l. all_not l x w out)) ]

  -- what stands in a node that ends, ends
  child_ends : (c x : IRNode) → ((l : Lists u) → In x (children u l c)) → is_live t x ≡ true → In c e.ends → ⊥
  child_ends c x i a j = ∥∥₁_elim lists ⊥_prop (λ l. live_outside (fewer_of e) x a (children_end (children u l) (e.order l) c x j (i l)))

  pub erased_owned : ∥ Owned t ∥₁
  erased_owned = ∥∥₁_map own (λ o. record {
    belongs = λ p x i r. (open_after u t [] (open_owned u o) lists n loose closed e).belongs p x i r (λ z. z);
    has = λ r y is.
        let alive = at_some t.regions r.handle y (sym is) in
        let old = was stand (region_at u r) (region_at t r) y (outside_stands (fewer_of e) r (live_outside (fewer_of e) (node.Region r) alive)) is in
        let h = o.has r old.it old.is in
        let listed : (l : Lists u) → In (node.Region r) (children u l (node.Operation old.it.parent_op))
        = λ l. map_in node.Region (regions_in (operation_at u old.it.parent_op)) r (subst (λ (z : Option Operation). In r (regions_in z)) (sym h.record_is) (item_in (regions_of h.is_live) old.it.index r h.listed)) in
        let new = was regions_of (operation_at t old.it.parent_op) (operation_at u old.it.parent_op) h.is_live
        (sym (outside_regions (fewer_of e) old.it.parent_op (child_ends (node.Operation old.it.parent_op) (node.Region r) listed alive))) h.record_is in
        let there : Has t old.it.parent_op old.it.index r
        = record { is_live = new.it; record_is = new.is; listed = listed_as new.it h.is_live old.it.index r new.alike h.listed } in
        subst (λ (p : OpPtr × ℕ). Has t p.0 p.1 r) old.alike there;
  })

  -- what stays stands where it stood
  op_stays : (p : OpPtr) (o : Option BlockPtr) → (op_links u).within p ≡ o → is_live t (node.Operation p) ≡ true → (op_links t).within p ≡ o
  op_stays p None w a = ∥∥₁_elim own (option_set block_same _ _) (λ o. loose_after u t [] (open_owned u o) lists n loose closed e (node.Operation p) w a)
  op_stays p (Some b) w a =
      ∥∥₁_elim lists (option_set block_same _ _) (λ l.
      let h = l.ops_hold.listed p b (was_live (fewer_of e) (node.Operation p) a) w in
      let i : In (node.Operation p) (children u l (node.BasicBlock b)) = subst (In (node.Operation p)) (sym (at_true _ _ h.0)) (map_in node.Operation (l.ops b) p h.1) in
      let there : is_live t (node.BasicBlock b) ≡ true
      = outside_live (fewer_of e) (node.BasicBlock b) (λ j. live_outside (fewer_of e) (node.Operation p) a (children_end (children u l) (e.order l) (node.BasicBlock b) (node.Operation p) j i)) ∙ h.0 in
      run_within (op_links t) b None (l.ops b) None ((e.lists l).0.chains b there).run p h.1)

  block_stays : (b : BlockPtr) (o : Option RegionPtr) → (block_links u).within b ≡ o → is_live t (node.BasicBlock b) ≡ true → (block_links t).within b ≡ o
  block_stays b None w a = ∥∥₁_elim own (option_set region_same _ _) (λ o. loose_after u t [] (open_owned u o) lists n loose closed e (node.BasicBlock b) w a)
  block_stays b (Some r) w a =
      ∥∥₁_elim lists (option_set region_same _ _) (λ l.
      let h = l.blocks_hold.listed b r (was_live (fewer_of e) (node.BasicBlock b) a) w in
      let i : In (node.BasicBlock b) (children u l (node.Region r)) = subst (In (node.BasicBlock b)) (sym (at_true _ _ h.0)) (map_in node.BasicBlock (l.blocks r) b h.1) in
      let there : is_live t (node.Region r) ≡ true
      = outside_live (fewer_of e) (node.Region r) (λ j. live_outside (fewer_of e) (node.BasicBlock b) a (children_end (children u l) (e.order l) (node.Region r) (node.BasicBlock b) j i)) ∙ h.0 in
      run_within (block_links t) r None (l.blocks r) None ((e.lists l).1.chains r there).run b h.1)

  same_parent : (x : IRNode) → is_live t x ≡ true → parent t x ≡ parent u x
  same_parent (node.Operation p) a = ap (option_map node.BasicBlock) (op_stays p ((op_links u).within p) refl a)
  same_parent (node.BasicBlock b) a = ap (option_map node.Region) (block_stays b ((block_links u).within b) refl a)
  same_parent (node.Region r) a =
      ap (option_map node.Operation) (owner_same (region_at t r) (region_at u r) (outside_stands (fewer_of e) r (live_outside (fewer_of e) (node.Region r) a)))

  by_life : (x : IRNode) → (parent t x ≡ parent u x → Ends (parent t) x) → Ends (parent t) x
  by_life x f = elim (decide (is_live t x)) [ inl a ↦ f (same_parent x a) | inr d ↦ root (dead_parent t x d) ]

  old_ends : (x : IRNode) → Ends (parent u) x → Ends (parent t) x
  old_ends x (root f) = by_life x (λ s. root (s ∙ f))
  old_ends x (child k f w) = let up = old_ends k w in by_life x (λ s. child k (s ∙ f) up)

  pub erased_acyclic : Acyclic (parent u) → Acyclic (parent t)
  erased_acyclic a = ∥∥₁_map a (λ f x. old_ends x (f x))

  pub erased_ops : Sound (op_links t)
  erased_ops = ∥∥₁_map lists (λ l. (l.ops, (e.lists l).0))

  pub erased_blocks : Sound (block_links t)
  erased_blocks = ∥∥₁_map lists (λ l. (l.blocks, (e.lists l).1))

  -- the same, told of the store m before the node was unlinked
  module _ (m : Model) (core : but_links u ≡ but_links m) (other : (y : IRNode) → (y ≡ n → ⊥) → parent u y ≡ parent m y) (gone : parent u n ≡ None) where
    pub to_before : (x : IRNode) → Within (parent u) n x → Within (parent m) n x
    to_before x (self z) = self z
    to_before x (below k f w) = below k (sym (other x (λ z. none_some (sym gone ∙ ap (parent u) (sym z) ∙ f))) ∙ f) (to_before k w)

    from_before : (x : IRNode) → Within (parent m) n x → Within (parent u) n x
    from_before x (self z) = self z
    from_before x (below k f w) = let up = from_before k w in elim (node_same x n) [ inl z ↦ self z | inr ne ↦ below k (other x ne ∙ f) up ]

    pub ended : ((l : Lists m) → (k : Lists u) × ((x : IRNode) → In x e.ends → children u k x ≡ children m l x)) → Ended m n t
    ended before = record {
      ends = e.ends;
      alive = λ x i. was_live (none_ended m u core) x (e.alive x i);
      whole = λ l. let k = before l in record {
        order = order_same (children u k.0) (children m l) (e.order k.0) (λ x i. sym (k.1 x i));
        once = e.once;
        below = λ x i. to_before x (ends_below k.0 x i);
        all = λ x w. all_end x (from_before x w);
      };
      gone = λ x w. inside_dead (fewer_of e) x (all_end x (from_before x w));
      stays = λ x out. outside_live (fewer_of e) x (λ i. ∥∥₁_elim lists ⊥_prop (λ l. out (to_before x (ends_below l x i)))) ∙ outside_live (none_ended m u core) x (λ z. z);
      places = e.places ∙ ap (without_all e.ends) core;
      parents = λ x a. same_parent x a ∙ other x (λ z. clash (sym a ∙ ap (is_live t) z ∙ inside_dead (fewer_of e) n (all_end n (self refl))));
    }

-- Lists without a node, from the lists with it.
module _ {N C : Type 0} (same : (a b : C) → (a ≡ b) ⊎ (a ≡ b → ⊥)) (v : View N C) (n : N) where
  less_by : (L : C → List N) → Holds v L → v.live n ≡ true → (o : Option C) → v.within n ≡ o → (M : C → List N) × TakenOut v n L M
  less_by L h a None e = (L, record { linked = λ c f. absurd (none_some (sym e ∙ f)); loose = λ f c. refl })
  less_by L h a (Some c) e =
      let p = cut n (L c) (h.listed n c a e).1 in
      let re = relist same L c (p.0 ++ p.1.0) in (
        put same L c (p.0 ++ p.1.0),
        record {
          linked = λ d f. subst (λ (z : C). Takes n (L z) (put same L c (p.0 ++ p.1.0) z) × Others L (put same L c (p.0 ++ p.1.0)) z) (some_same (sym e ∙ f)) ((p.0, p.1.0, p.1.1, re.0), re.1);
          loose = λ f. absurd (none_some (sym f ∙ e));
        },
      )

  pub less_of : (L : C → List N) → Holds v L → v.live n ≡ true → (M : C → List N) × TakenOut v n L M
  less_of L h a = less_by L h a (v.within n) refl

module _ {N C : Type 0} (v : View N C) (n : N) where
  less_other : (L M : C → List N) → TakenOut v n L M → (d : C) → (v.within n ≡ Some d → ⊥) → (o : Option C) → v.within n ≡ o → M d ≡ L d
  less_other L M less d ne None e = less.loose e d
  less_other L M less d ne (Some c) e = (less.linked c e).1 d (λ z. ne (e ∙ ap Some (sym z)))

  pub less_away : (L M : C → List N) → TakenOut v n L M → (d : C) → (v.within n ≡ Some d → ⊥) → M d ≡ L d
  less_away L M less d ne = less_other L M less d ne (v.within n) refl

-- An unlinking, list by list.
module _ {N C : Type 0} (v w : View N C) (n : N) (unlinked : v.within n ≡ None → w ≡ v) (removes : (c : C) → v.within n ≡ Some c → Removes v w n c) where
  pub moved : At v.within w.within n None
  moved = (laws.removed_kept v w n unlinked removes).2

  holds_by : (L M : C → List N) → TakenOut v n L M → Holds v L → (o : Option C) → v.within n ≡ o → Holds w M
  holds_by L M less h None e =
      subst (λ (z : View N C). Holds z M) (sym (unlinked e)) (subst (Holds v) (fun_ext (λ c. sym (less.loose e c))) h)
  holds_by L M less h (Some c) e = let r = less.linked c e in (removes c e).lists L M h r.0 r.1

  pub less_holds : (L M : C → List N) → TakenOut v n L M → Holds v L → Holds w M
  less_holds L M less h = holds_by L M less h (v.within n) refl

-- an operation unlinked and erased
pub op_moved : (m u : Model) (op : OpPtr) → ((op_links m).within op ≡ None → op_links u ≡ op_links m) → ((c : BlockPtr) → (op_links m).within op ≡ Some c → Removes (op_links m) (op_links u) op c)
    → At (op_links m).within (op_links u).within op None
op_moved m u op = moved (op_links m) (op_links u) op

module _ (m u : Model) (op : OpPtr) (live : is_live m (node.Operation op) ≡ true) (rest : but_op_links u ≡ but_op_links m)
    (unlinked : (op_links m).within op ≡ None → op_links u ≡ op_links m) (removes : (c : BlockPtr) → (op_links m).within op ≡ Some c → Removes (op_links m) (op_links u) op c) where
  abbrev pub op_lists : (l : Lists m) (ops : BlockPtr → List OpPtr) → TakenOut (op_links m) op l.ops ops → Lists u
  op_lists l ops less = record {
    ops = ops;
    blocks = l.blocks;
    ops_hold = less_holds (op_links m) (op_links u) op unlinked removes l.ops ops less l.ops_hold;
    blocks_hold = subst (λ (v : View BlockPtr RegionPtr). Holds v l.blocks) (sym (op_edit_links m u rest)) l.blocks_hold;
  }

  op_alike : (l : Lists m) (ops : BlockPtr → List OpPtr) (less : TakenOut (op_links m) op l.ops ops) (x : IRNode) → (parent m (node.Operation op) ≡ Some x → ⊥) → Alike x l (op_lists l ops less)
  op_alike l ops less (node.Operation p) ne = tt
  op_alike l ops less (node.BasicBlock b) ne = less_away (op_links m) op l.ops ops less b (λ z. ne (ap (option_map node.BasicBlock) z))
  op_alike l ops less (node.Region r) ne = refl

  pub op_before : (ends : List IRNode) → ((x : IRNode) → In x ends → parent m (node.Operation op) ≡ Some x → ⊥) → (l : Lists m) → (k : Lists u) × ((x : IRNode) → In x ends → children u k x ≡ children m l x)
  op_before ends out l =
      let w = less_of block_same (op_links m) op l.ops l.ops_hold live in
      let k = op_lists l w.0 w.1 in
      (k, λ x i. children_alike (none_ended m u (op_edit_core m u rest)) l k x (λ z. z) (op_alike l w.0 w.1 x (out x i)))

-- a block unlinked and erased
pub block_moved : (m u : Model) (b : BlockPtr) → ((block_links m).within b ≡ None → block_links u ≡ block_links m) → ((c : RegionPtr) → (block_links m).within b ≡ Some c → Removes (block_links m) (block_links u) b c)
    → At (block_links m).within (block_links u).within b None
block_moved m u b = moved (block_links m) (block_links u) b

module _ (m u : Model) (b : BlockPtr) (live : is_live m (node.BasicBlock b) ≡ true) (rest : but_block_links u ≡ but_block_links m)
    (unlinked : (block_links m).within b ≡ None → block_links u ≡ block_links m) (removes : (c : RegionPtr) → (block_links m).within b ≡ Some c → Removes (block_links m) (block_links u) b c) where
  abbrev pub block_lists : (l : Lists m) (blocks : RegionPtr → List BlockPtr) → TakenOut (block_links m) b l.blocks blocks → Lists u
  block_lists l blocks less = record {
    ops = l.ops;
    blocks = blocks;
    ops_hold = subst (λ (v : View OpPtr BlockPtr). Holds v l.ops) (sym (block_edit_links m u rest)) l.ops_hold;
    blocks_hold = less_holds (block_links m) (block_links u) b unlinked removes l.blocks blocks less l.blocks_hold;
  }

  block_alike : (l : Lists m) (blocks : RegionPtr → List BlockPtr) (less : TakenOut (block_links m) b l.blocks blocks) (x : IRNode) → (parent m (node.BasicBlock b) ≡ Some x → ⊥) → Alike x l (block_lists l blocks less)
  block_alike l blocks less (node.Operation p) ne = tt
  block_alike l blocks less (node.BasicBlock c) ne = refl
  block_alike l blocks less (node.Region r) ne = less_away (block_links m) b l.blocks blocks less r (λ z. ne (ap (option_map node.Region) z))

  pub block_before : (ends : List IRNode) → ((x : IRNode) → In x ends → parent m (node.BasicBlock b) ≡ Some x → ⊥) → (l : Lists m) → (k : Lists u) × ((x : IRNode) → In x ends → children u k x ≡ children m l x)
  block_before ends out l =
      let w = less_of region_same (block_links m) b l.blocks l.blocks_hold live in
      let k = block_lists l w.0 w.1 in
      (k, λ x i. children_alike (none_ended m u (block_edit_core m u rest)) l k x (λ z. z) (block_alike l w.0 w.1 x (out x i)))

-- u is m with the node n unlinked
pub record Unlinked (m u : Model) (n : IRNode) : Type 0 where
  pub core : but_links u ≡ but_links m
  pub other : (y : IRNode) → (y ≡ n → ⊥) → parent u y ≡ parent m y
  pub gone : parent u n ≡ None
  pub lists : ∥ Lists u ∥₁
  pub own : ∥ Owned u ∥₁
  pub loose : Loose u [] n

module _ (m u t : Model) (n : IRNode) (w : Unlinked m u n) (closed : Closed [] n) (a : Acyclic (parent m)) (e : Erased u n t) where
  -- no node that ends is the parent of the node that is erased
  not_above : (x : IRNode) → In x e.ends → parent m n ≡ Some x → ⊥
  not_above x i f =
      ∥∥₁_elim w.lists ⊥_prop (λ l.
      not_itself (parent m) a n (record { above = x; parent = f; inside = to_before u t n w.lists w.own w.loose closed e m w.core w.other w.gone x (ends_below u t n w.lists w.own w.loose closed e l x i) }))

  pub ended_by : ((ends : List IRNode) → ((x : IRNode) → In x ends → parent m n ≡ Some x → ⊥) → (l : Lists m) → (k : Lists u) × ((x : IRNode) → In x ends → children u k x ≡ children m l x)) → Ended m n t
  ended_by before = ended u t n w.lists w.own w.loose closed e m w.core w.other w.gone (before e.ends not_above)

-- the nodes that ended, links aside: what stays of every other node
pub fewer_ended : {m t : Model} {n : IRNode} (e : Ended m n t) → Lists m → Fewer m t e.ends
fewer_ended e l = record { alive = e.alive; once = (e.whole l).once; places = e.places }
