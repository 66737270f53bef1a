-- An erasure, child by child: what has ended so far, and what is left. Assumes nothing.
use Rattle.std.proofs.Common.{◌≡◌, ℕ, zero, suc, ◌+◌, ◌<◌, ◌≤◌, Bool, true, cond, List, [], ◌∷◌, ◌++◌, map, length, take, get_or, Some, None, Option, sym, refl, ap, ◌∙◌, subst, inl, inr, ⊎_elim, append_assoc, append-nil, add-one, arith, rules}
use mathlib.Core.Bool.{Bool-set}
use mathlib.Core.HLevel.{⊥_prop}
use mathlib.Core.Logic.{∥∥₁_elim, ∥∥₁_map, ∥∥₁_prop}
use Rattle.std.specs.Option.{IsSome, option_map}
use Rattle.arena.specs.declared.arena.Arena.{Arena}
use Rattle.arena.specs.declared.handle.Handle.{Handle}
use Rattle.arena.specs.Pools.{live}
use Rattle.arena.specs.Recorded.{shelf}
use Rattle.arena.specs.Shelves.{Shelf, at, item}
use Rattle.arena.proofs.Shelving.{at_none, at_some, shelf_long}
use Rattle.linked_list.specs.Links.{Holds, In, Sound}
use Rattle.linked_list.proofs.Lists.{apart_join, in_parts, none_some, some_same}
use Rattle.orders.specs.Order.{Orders, none, last}
use Rattle.orders.specs.Places.{never}
use Rattle.trees.proofs.Climbing.{option_set}
use Rattle.records.specs.declared.basic_block.BasicBlock.{BasicBlock}
use Rattle.records.specs.declared.handles.BlockPtr.{BlockPtr}
use Rattle.records.specs.declared.handles.OpPtr.{OpPtr}
use Rattle.records.specs.declared.handles.RegionPtr.{RegionPtr}
use Rattle.records.specs.declared.ir_node.IRNode.{IRNode}
use Rattle.records.specs.declared.ir_node.IRNode.TheVariants as node
use Rattle.records.specs.declared.operation.Operation.{Operation}
use Rattle.records.specs.declared.region.Region.{Region}
use Rattle.records.specs.Children.{Lists, children, is_live, regions_in}
use Rattle.records.specs.Endings.{but_links, without, without_all}
use Rattle.records.specs.Models.{Model, operation_at, region_at}
use Rattle.records.specs.Nodes.{Belongs, regions_of}
use Rattle.records.specs.Views.{block_links, op_links}
use Rattle.records.specs.Writes.{block_same, region_same}
use Rattle.erasers.specs.Erasings.{Closed, Erasable, Erased, Loose, Open, in_lists}
use Rattle.erasers.proofs.Counts.{ended_fewer}
use Rattle.erasers.proofs.Ends.{Fewer, clash, core_without, inside_dead, live_outside, outside_live, outside_regions, was_live, without_join, without_last}
use Rattle.erasers.proofs.Frees.{region_inj, region_op}
use Rattle.erasers.proofs.Sequences.{order_join, order_same}
use Rattle.erasers.proofs.Spares.{belongs_kept, fewer_of, loose_after, open_after, spared_by}
use Rattle.erasers.proofs.Takes.{But, Taken, at_true, head_node, head_none, none_ended}

-- two lists of each kind, out of their truncations
pub lists_of : (m : Model) → Sound (op_links m) → Sound (block_links m) → ∥ Lists m ∥₁
lists_of m p q = ∥∥₁_elim p ∥∥₁_prop (λ a. ∥∥₁_map q (λ b. record { ops = a.0; blocks = b.0; ops_hold = a.1; blocks_hold = b.1 }))

pub ops_sound : (m : Model) → ∥ Lists m ∥₁ → Sound (op_links m)
ops_sound m q = ∥∥₁_map q (λ l. (l.ops, l.ops_hold))

pub blocks_sound : (m : Model) → ∥ Lists m ∥₁ → Sound (block_links m)
blocks_sound m q = ∥∥₁_map q (λ l. (l.blocks, l.blocks_hold))

-- the same lists, in another store
abbrev pub carried : {s t : Model} (l : Lists s) → Holds (op_links t) l.ops × Holds (block_links t) l.blocks → Lists t
carried l h = record { ops = l.ops; blocks = l.blocks; ops_hold = h.0; blocks_hold = h.1 }

-- the lists of one node are the same
abbrev pub Alike : {s t : Model} → IRNode → Lists s → Lists t → Type 0
Alike (node.Operation p) l k = Unit {0}
Alike (node.BasicBlock b) l k = k.ops b ≡ l.ops b
Alike (node.Region r) l k = k.blocks r ≡ l.blocks r

alike : {s t : Model} (n : IRNode) (l : Lists s) (k : Lists t) → But n l k → (x : IRNode) → (x ≡ n → ⊥) → Alike x l k
alike n l k but (node.Operation p) ne = tt
alike n l k but (node.BasicBlock b) ne = but.ops b ne
alike n l k but (node.Region r) ne = but.blocks r ne

pub alike_self : {s t : Model} (l : Lists s) (k : Lists t) → k.ops ≡ l.ops → k.blocks ≡ l.blocks → (x : IRNode) → Alike x l k
alike_self l k e f (node.Operation p) = tt
alike_self l k e f (node.BasicBlock b) = ap (λ (g : BlockPtr → List OpPtr). g b) e
alike_self l k e f (node.Region r) = ap (λ (g : RegionPtr → List BlockPtr). g r) f

regions_same : (x y : Option Operation) → option_map regions_of x ≡ option_map regions_of y → regions_in x ≡ regions_in y
regions_same None None e = refl
regions_same None (Some o) e = absurd (none_some e)
regions_same (Some o) None e = absurd (none_some (sym e))
regions_same (Some o) (Some p) e = some_same e

-- a node that stays has the same children where its lists are the same
pub children_alike : {s t : Model} {ends : List IRNode} (f : Fewer s t ends) (l : Lists s) (k : Lists t) (x : IRNode) → (In x ends → ⊥) → Alike x l k → children t k x ≡ children s l x
children_alike {s} {t} f l k (node.Operation p) out e = ap (map node.Region) (regions_same (operation_at t p) (operation_at s p) (outside_regions f p out))
children_alike {s} {t} f l k (node.BasicBlock b) out e =
    ap (λ (z : Bool). cond z (map node.Operation (k.ops b)) []) (outside_live f (node.BasicBlock b) out)
    ∙ ap (λ (ns : List OpPtr). cond (live s.blocks.pool b.handle) (map node.Operation ns) []) e
children_alike {s} {t} f l k (node.Region r) out e =
    ap (λ (z : Bool). cond z (map node.BasicBlock (k.blocks r)) []) (outside_live f (node.Region r) out)
    ∙ ap (λ (ns : List BlockPtr). cond (live s.regions.pool r.handle) (map node.BasicBlock ns) []) e

-- nodes that ended one after another, in two parts
fewer_join : {s t v : Model} {xs ys : List IRNode} → Fewer s t xs → Fewer t v ys → Fewer s v (xs ++ ys)
fewer_join {s} {t} {v} {xs} {ys} f g = record {
  alive = λ x i. ⊎_elim (f.alive x) (λ j. was_live f x (g.alive x j)) (in_parts x xs ys i);
  once = apart_join xs ys f.once g.once (λ x i j. clash (sym (g.alive x j) ∙ inside_dead f x i));
  places = g.places ∙ ap (without_all ys) f.places ∙ sym (without_join xs ys (but_links s));
}

fewer_last : {s t : Model} {xs : List IRNode} (n : IRNode) → Fewer s t xs → is_live t n ≡ true → (v : Model) → v ≡ without n t → Fewer s v (xs ++ (n ∷ []))
fewer_last {s} {t} {xs} n f live v e = record {
  alive = λ x i. ⊎_elim (f.alive x) (⊎_elim (λ z. ap (is_live s) z ∙ was_live f n live) (λ z. absurd z)) (in_parts x xs (n ∷ []) i);
  once = apart_join xs (n ∷ []) f.once ((λ z. z), tt) (λ x i. ⊎_elim (λ z. live_outside f n live (subst (λ (y : IRNode). In y xs) z i)) (λ z. z));
  places = ap but_links e ∙ core_without n t ∙ ap (without n) f.places ∙ sym (without_last xs n (but_links s));
}

-- Of the children of n, those in gone ended with all below them, and those in left are still there.
pub record Going (s : Model) (n : IRNode) (l : Lists s) (done : List IRNode) (t : Model) : Type 0 where
  pub gone : List IRNode
  pub left : List IRNode
  pub parts : children s l n ≡ gone ++ left
  pub order : Orders never (children s l) gone done
  pub lists : Lists t
  pub but : But n l lists
  pub left_is : children t lists n ≡ left

-- some children of n are gone
pub record Turn (s t : Model) (n : IRNode) : Type 0 where
  pub done : List IRNode
  pub fewer : Fewer s t done
  pub live : is_live t n ≡ true
  pub going : (l : Lists s) → Going s n l done t
  pub opens : (A : List OpPtr) → Open s A → Loose s A n → Closed A n → Open t A × Loose t A n
  pub count : in_lists t ≤ in_lists s

pub begin : (s : Model) (n : IRNode) → is_live s n ≡ true → Turn s s n
begin s n e = record {
  done = [];
  fewer = none_ended s s refl;
  live = e;
  going = λ l. record { gone = []; left = children s l n; parts = refl; order = none; lists = l; but = record { ops = λ b ne. refl; blocks = λ r ne. refl }; left_is = refl };
  opens = λ A o w c. (o, w);
  count = omega arith;
}

pub lists_now : {s t : Model} {n : IRNode} → Turn s t n → ∥ Lists s ∥₁ → ∥ Lists t ∥₁
lists_now u q = ∥∥₁_map q (λ l. (u.going l).lists)

module _ {s t u : Model} {n c : IRNode} (w : Turn s t n) (q : ∥ Lists s ∥₁) (taken : Taken t u n c) (opened : (A : List OpPtr) → Open t A → Open u A) (ready : Erasable s n) where
  pub lists_cut : ∥ Lists u ∥₁
  lists_cut = ∥∥₁_map q (λ l. (taken.cut (w.going l).lists).lists)

  pub child_live : is_live u c ≡ true
  child_live = outside_live (none_ended t u taken.core) c (λ z. z) ∙ taken.alive

  pub child_ready : Erasable u c
  child_ready = ∥∥₁_map ready (λ a. let o = w.opens a.0 a.1 a.2 a.3 in (a.0, opened a.0 o.0, taken.alone a.0, taken.closed a.0 o.0))

  module _ (v : Model) (ne : n ≡ c → ⊥) (e : Erased u c v) where
    spared_n : In n e.ends → ⊥
    spared_n i =
        ∥∥₁_elim ready ⊥_prop (λ a.
        let o = w.opens a.0 a.1 a.2 a.3 in
        spared_by u v a.0 (opened a.0 o.0) lists_cut c (taken.alone a.0) (taken.closed a.0 o.0) e n (taken.others a.0 n o.1) ne i)

    live_n : is_live v n ≡ true
    live_n = outside_live (fewer_of e) n spared_n ∙ outside_live (none_ended t u taken.core) n (λ z. z) ∙ w.live

    -- from the first store to the one in which the child was taken out
    to_cut : Fewer s u w.done
    to_cut = record { alive = w.fewer.alive; once = w.fewer.once; places = taken.core ∙ w.fewer.places }

    go_on : (l : Lists s) → Going s n l (w.done ++ e.ends) v
    go_on l =
        let g = w.going l in
        let cut = taken.cut g.lists in
        let k : Lists v = carried cut.lists (e.lists cut.lists) in
        let but : But n l cut.lists = record { ops = λ b x. cut.but.ops b x ∙ g.but.ops b x; blocks = λ r x. cut.but.blocks r x ∙ g.but.blocks r x } in
        let rest = children_alike (fewer_of e) cut.lists k n spared_n (alike_self cut.lists k refl refl n) in
        record {
          gone = g.gone ++ (c ∷ []);
          left = children v k n;
          parts = g.parts ∙ ap (λ (ns : List IRNode). g.gone ++ ns) (sym g.left_is ∙ cut.parts ∙ ap (λ (ns : List IRNode). c ∷ ns) (sym rest)) ∙ sym (append_assoc g.gone (c ∷ []) (children v k n));
          order = order_join (children s l) g.order
              (order_same (children u cut.lists) (children s l) (e.order cut.lists) (λ x i.
              sym (children_alike to_cut l cut.lists x (live_outside to_cut x (e.alive x i)) (alike n l cut.lists but x (λ z. spared_n (subst (λ (y : IRNode). In y e.ends) z i))))));
          lists = k;
          but = record { ops = but.ops; blocks = but.blocks };
          left_is = refl;
        }

    pub again : in_lists v ≤ in_lists u → Turn s v n
    again le = record {
      done = w.done ++ e.ends;
      fewer = fewer_join to_cut (fewer_of e);
      live = live_n;
      going = go_on;
      opens = λ A o x y.
          let p = w.opens A o x y in
          let r = opened A p.0 in (
            open_after u v A r lists_cut c (taken.alone A) (taken.closed A p.0) e,
            loose_after u v A r lists_cut c (taken.alone A) (taken.closed A p.0) e n (taken.others A n p.1) live_n,
          );
      count = omega (arith, le, taken.fewer, w.count);
    }

-- all children of n are gone, and n ends
pub finish : {s t : Model} {n : IRNode} (w : Turn s t n) (v : Model) → v ≡ without n t → ((k : Lists t) → children t k n ≡ [])
    → ((l : Lists s) (k : Lists t) → But n l k → children t k n ≡ [] → Holds (op_links (without n t)) l.ops × Holds (block_links (without n t)) l.blocks) → Erased s n v
finish {s} {t} {n} w v e empty freed =
    let f = fewer_last n w.fewer w.live v e in
    record {
      ends = w.done ++ (n ∷ []);
      order = λ l.
          let g = w.going l in
          let all : children s l n ≡ g.gone = g.parts ∙ ap (λ (ns : List IRNode). g.gone ++ ns) (sym g.left_is ∙ empty g.lists) ∙ append-nil g.gone in
          last refl (subst (λ (ns : List IRNode). Orders never (children s l) ns w.done) (sym all) g.order) none;
      alive = f.alive;
      once = f.once;
      places = f.places;
      lists = λ l. let g = w.going l in subst (λ (m : Model). Holds (op_links m) l.ops × Holds (block_links m) l.blocks) (sym e) (freed l g.lists g.but (empty g.lists));
    }

-- The regions of an operation.

pub item_at : {A : Type 0} (xs : List A) (i : ℕ) (d : A) → i < length xs → item xs i ≡ Some (get_or xs i d)
item_at [] i d h = absurd (omega arith)
item_at (x ∷ xs) zero d h = refl
item_at (x ∷ xs) (suc i) d h = item_at xs i d (omega arith)

take_next : {A : Type 0} (xs : List A) (i : ℕ) (d : A) → i < length xs → take (suc i) xs ≡ take i xs ++ (get_or xs i d ∷ [])
take_next [] i d h = absurd (omega arith)
take_next (x ∷ xs) zero d h = refl
take_next (x ∷ xs) (suc i) d h = ap (λ (ys : List _). x ∷ ys) (take_next xs i d (omega arith))

take_whole : {A : Type 0} (xs : List A) (i : ℕ) → length xs ≤ i → take i xs ≡ xs
take_whole [] zero h = refl
take_whole [] (suc i) h = refl
take_whole (x ∷ xs) zero h = absurd (omega arith)
take_whole (x ∷ xs) (suc i) h = ap (λ (ys : List _). x ∷ ys) (take_whole xs i (omega arith))

map_join : {A B : Type 0} (f : A → B) (xs ys : List A) → map f (xs ++ ys) ≡ map f xs ++ map f ys
map_join f [] ys = refl
map_join f (x ∷ xs) ys = ap (λ (zs : List _). f x ∷ zs) (map_join f xs ys)

-- the first i of the regions rs of p are gone
pub record OpTurn (s t : Model) (p : OpPtr) (rs : List RegionPtr) (i : ℕ) : Type 0 where
  pub done : List IRNode
  pub fewer : Fewer s t done
  pub live : is_live t (node.Operation p) ≡ true
  pub order : (l : Lists s) → Orders never (children s l) (map node.Region (take i rs)) done
  pub lists : (l : Lists s) → Holds (op_links t) l.ops × Holds (block_links t) l.blocks
  pub ready : (A : List OpPtr) → Open s A → (op_links s).within p ≡ None → (In p A → ⊥) → Open t (p ∷ A)
  pub left : (A : List OpPtr) → Open s A → (In p A → ⊥) → (j : ℕ) (r : RegionPtr) → i ≤ j → item rs j ≡ Some r → Belongs t p j r
  pub count : in_lists t ≤ in_lists s

open_more : (m : Model) (p : OpPtr) (A : List OpPtr) → Open m A → (op_links m).within p ≡ None → Open m (p ∷ A)
open_more m p A o alone = record {
  loose = λ q. ⊎_elim (λ z. ap (op_links m).within z ∙ alone) (o.loose q);
  belongs = λ q x i r not. o.belongs q x i r (λ a. not (inr a));
}

pub begin_op : (s : Model) (p : OpPtr) (o : Operation) → is_live s (node.Operation p) ≡ true → operation_at s p ≡ Some o → OpTurn s s p (regions_of o) 0
begin_op s p o e is = record {
  done = [];
  fewer = none_ended s s refl;
  live = e;
  order = λ l. none;
  lists = λ l. (l.ops_hold, l.blocks_hold);
  ready = λ A a loose not. open_more s p A a loose;
  left = λ A a not j r le listed. a.belongs p o j r not is listed;
  count = omega arith;
}

module _ {s t : Model} {p : OpPtr} {rs : List RegionPtr} {i : ℕ} (w : OpTurn s t p rs i) (q : ∥ Lists s ∥₁) (ready : Erasable s (node.Operation p)) where
  pub lists_left : ∥ Lists t ∥₁
  lists_left = ∥∥₁_map q (λ l. carried l (w.lists l))

  module _ (r : RegionPtr) (listed : item rs i ≡ Some r) where
    belongs_now : (A : List OpPtr) → Open s A → (In p A → ⊥) → Belongs t p i r
    belongs_now A o not = w.left A o not i r (omega arith) listed

    -- a region that is left belongs to the operation that is being erased
    region_loose : (A : List OpPtr) (j : ℕ) (x : RegionPtr) → Belongs t p j x → Loose t (p ∷ A) (node.Region x)
    region_loose A j x b = (b.is_live, b.record_is, inl b.operation)

    pub region_live : is_live t (node.Region r) ≡ true
    region_live = ∥∥₁_elim ready (Bool-set _ true) (λ a. let b = belongs_now a.0 a.1 a.3 in at_some t.regions r.handle b.is_live (sym b.record_is))

    pub region_ready : Erasable t (node.Region r)
    region_ready = ∥∥₁_map ready (λ a. (p ∷ a.0, w.ready a.0 a.1 a.2 a.3, region_loose a.0 i r (belongs_now a.0 a.1 a.3), tt))

    module _ (v : Model) (e : Erased t (node.Region r) v) where
      spared_p : In (node.Operation p) e.ends → ⊥
      spared_p j =
          ∥∥₁_elim ready ⊥_prop (λ a.
          let o = w.ready a.0 a.1 a.2 a.3 in
          spared_by t v (p ∷ a.0) o lists_left (node.Region r) (region_loose a.0 i r (belongs_now a.0 a.1 a.3)) tt e (node.Operation p) (o.loose p (inl refl)) (λ z. region_op r p (sym z)) j)

      apart : (j : ℕ) (x : RegionPtr) → i + 1 ≤ j → Belongs t p i r → Belongs t p j x → node.Region x ≡ node.Region r → ⊥
      apart j x le b c z =
          let same : region_at t x ≡ region_at t r = ap (region_at t) (region_inj x r z) in
          let k : c.is_live.index ≡ b.is_live.index = ap (λ (y : Region). y.index) (some_same (sym c.record_is ∙ same ∙ b.record_is)) in
          omega (arith, k, b.place, c.place, le)

      pub again_op : in_lists v ≤ in_lists t → take (i + 1) rs ≡ take i rs ++ (r ∷ []) → OpTurn s v p rs (i + 1)
      again_op le next = record {
        done = w.done ++ e.ends;
        fewer = fewer_join w.fewer (fewer_of e);
        live = outside_live (fewer_of e) (node.Operation p) spared_p ∙ w.live;
        order = λ l.
            let k : Lists t = carried l (w.lists l) in
            subst (λ (ns : List IRNode). Orders never (children s l) ns (w.done ++ e.ends)) (sym (ap (map node.Region) next ∙ map_join node.Region (take i rs) (r ∷ [])))
            (order_join (children s l) (w.order l)
            (order_same (children t k) (children s l) (e.order k) (λ x j. sym (children_alike w.fewer l k x (live_outside w.fewer x (e.alive x j)) (alike_self l k refl refl x)))));
        lists = λ l. e.lists (carried l (w.lists l));
        ready = λ A o alone not. open_after t v (p ∷ A) (w.ready A o alone not) lists_left (node.Region r) (region_loose A i r (belongs_now A o not)) tt e;
        left = λ A o not j x le' is.
            let b = w.left A o not j x (omega arith) is in
            belongs_kept (fewer_of e) p j x b (λ y.
            ∥∥₁_elim ready ⊥_prop (λ a.
            spared_by t v (p ∷ a.0) (w.ready a.0 a.1 a.2 a.3) lists_left (node.Region r) (region_loose a.0 i r (belongs_now a.0 a.1 a.3)) tt e
            (node.Region x) (region_loose a.0 j x b) (apart j x le' (belongs_now a.0 a.1 a.3) b) y));
        count = omega (arith, le, w.count);
      }

pub take_more : {A : Type 0} (xs : List A) (i : ℕ) (d : A) → i < length xs → take (i + 1) xs ≡ take i xs ++ (get_or xs i d ∷ [])
take_more xs i d h = ap (λ (n : ℕ). take n xs) (add-one i) ∙ take_next xs i d h

-- all regions of p are gone, and p ends
pub finish_op : {s t : Model} {p : OpPtr} {i : ℕ} (o : Operation) (w : OpTurn s t p (regions_of o) i) (v : Model) → operation_at s p ≡ Some o → length (regions_of o) ≤ i → v ≡ without (node.Operation p) t
    → ((l : Lists s) (k : Lists t) → But (node.Operation p) l k → Holds (op_links (without (node.Operation p) t)) l.ops × Holds (block_links (without (node.Operation p) t)) l.blocks) → Erased s (node.Operation p) v
finish_op {s} {t} {p} {i} o w v is long e freed =
    let f = fewer_last (node.Operation p) w.fewer w.live v e in
    record {
      ends = w.done ++ (node.Operation p ∷ []);
      order = λ l.
          let all : children s l (node.Operation p) ≡ map node.Region (take i (regions_of o)) = ap (λ (x : Option Operation). map node.Region (regions_in x)) is ∙ ap (map node.Region) (sym (take_whole (regions_of o) i long)) in
          last refl (subst (λ (ns : List IRNode). Orders never (children s l) ns w.done) (sym all) (w.order l)) none;
      alive = f.alive;
      once = f.once;
      places = f.places;
      lists = λ l.
          subst (λ (m : Model). Holds (op_links m) l.ops × Holds (block_links m) l.blocks) (sym e)
          (freed l (carried l (w.lists l)) (record { ops = λ b ne. refl; blocks = λ r ne. refl }));
    }

-- an end does not raise the number of nodes in lists
pub ended_count : (n : IRNode) (t v : Model) → is_live t n ≡ true → v ≡ without n t → in_lists v ≤ in_lists t
ended_count (node.Operation p) t v e is =
    subst (λ (m : Model). in_lists m ≤ in_lists t) (sym is) (let h = ended_fewer (λ (o : Operation). o.container) t.operations p.handle e in omega arith)
ended_count (node.BasicBlock b) t v e is =
    subst (λ (m : Model). in_lists m ≤ in_lists t) (sym is) (let h = ended_fewer (λ (y : BasicBlock). y.container) t.blocks b.handle e in omega arith)
ended_count (node.Region r) t v e is = subst (λ (m : Model). in_lists m ≤ in_lists t) (sym is) (omega arith)

-- the block, or the operation, that is being erased stands in no list
pub block_alone : {s t : Model} {b : BlockPtr} → Turn s t (node.BasicBlock b) → Erasable s (node.BasicBlock b) → (block_links t).within b ≡ None
block_alone w q = ∥∥₁_elim q (option_set region_same _ _) (λ a. (w.opens a.0 a.1 a.2 a.3).1)

pub op_alone : {s t : Model} {p : OpPtr} {rs : List RegionPtr} {i : ℕ} → OpTurn s t p rs i → Erasable s (node.Operation p) → (op_links t).within p ≡ None
op_alone {p = p} w q = ∥∥₁_elim q (option_set block_same _ _) (λ a. (w.ready a.0 a.1 a.2 a.3).loose p (inl refl))

-- where nothing is first, no child is left
pub no_op_left : (t : Model) (b : BlockPtr) → (op_links t).held b ≡ true → (op_links t).head b ≡ None → (k : Lists t) → children t k (node.BasicBlock b) ≡ []
no_op_left t b held empty k = at_true _ _ held ∙ ap (map node.Operation) (head_none (op_links t) k.ops k.ops_hold b held empty)

pub no_block_left : (t : Model) (r : RegionPtr) → (block_links t).held r ≡ true → (block_links t).head r ≡ None → (k : Lists t) → children t k (node.Region r) ≡ []
no_block_left t r held empty k = at_true _ _ held ∙ ap (map node.BasicBlock) (head_none (block_links t) k.blocks k.blocks_hold r held empty)

-- what is first is live
pub first_op : (t : Model) (b : BlockPtr) (p : OpPtr) → ∥ Lists t ∥₁ → (op_links t).held b ≡ true → (op_links t).head b ≡ Some p → (op_links t).live p ≡ true
first_op t b p q held head = ∥∥₁_elim q (Bool-set _ true) (λ l. (head_node (op_links t) l.ops l.ops_hold b held p head).0)

pub first_block : (t : Model) (r : RegionPtr) (b : BlockPtr) → ∥ Lists t ∥₁ → (block_links t).held r ≡ true → (block_links t).head r ≡ Some b → (block_links t).live b ≡ true
first_block t r b q held head = ∥∥₁_elim q (Bool-set _ true) (λ l. (head_node (block_links t) l.blocks l.blocks_hold r held b head).0)

-- a live handle names a record
named : {T : Type 0} (a : Shelf T) (h : Handle) (o : Option T) → at a h ≡ o → length a.records ≡ length a.pool.slots → live a.pool h ≡ true → IsSome o
named a h None e l t = absurd (clash (sym t ∙ at_none a h l (sym e)))
named a h (Some x) e l t = search rules

pub live_named : {T : Type 0} (a : Arena T) (h : Handle) (o : Option T) → o ≡ at (shelf a) h → live (shelf a).pool h ≡ true → IsSome o
live_named a h o e t = named (shelf a) h o (sym e) (shelf_long a) t
