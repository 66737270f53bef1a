-- A node ends that stands in no list and has no list of its own: the links go on to describe the other lists. Assumes nothing.
use Rattle.std.proofs.Common.{◌≡◌, ℕ, Bool, true, false, cond, List, [], ◌∷◌, map, None, Option, sym, refl, ap, ◌∙◌, subst, arith}
use mathlib.Core.Path.{fun_ext}
use Rattle.arena.specs.declared.handle.Handle.{Handle}
use Rattle.arena.specs.Pools.{live}
use Rattle.arena.specs.Shelves.{Shelf, at, ended}
use Rattle.arena.proofs.Shelving.{end_only, free_dead, free_live_other}
use Rattle.linked_list.specs.Links.{Chain, Holds, In, View}
use Rattle.linked_list.proofs.Lists.{keep, run_within}
use Rattle.records.specs.declared.basic_block.BasicBlock.{BasicBlock}
use Rattle.records.specs.declared.handles.BlockPtr.{BlockPtr}
use Rattle.records.specs.declared.handles.OpPtr.{OpPtr}
use Rattle.records.specs.declared.handles.RegionPtr.{RegionPtr}
use Rattle.records.specs.declared.ir_node.IRNode.{IRNode}
use Rattle.records.specs.declared.ir_node.IRNode.TheVariants as node
use Rattle.records.specs.declared.operation.Operation.{Operation}
use Rattle.records.specs.declared.region.Region.{Region}
use Rattle.records.specs.Children.{Lists, children, is_live}
use Rattle.records.specs.Endings.{without}
use Rattle.records.specs.Models.{Model}
use Rattle.records.specs.Views.{block_links, op_links, part}
use Rattle.records.specs.Writes.{same_blockptr, same_opptr, same_regionptr}
use Rattle.erasers.proofs.Ends.{clash, no_some}
use Rattle.erasers.proofs.Takes.{But}

module _ {N C : Type 0} (v w : View N C) where
  -- a node that stands in no container is gone
  pub record NodeGone (n : N) : Type 0 where
    pub dead : w.live n ≡ false
    pub live : (x : N) → (x ≡ n → ⊥) → w.live x ≡ v.live x
    pub next : (x : N) → (x ≡ n → ⊥) → w.next x ≡ v.next x
    pub prev : (x : N) → (x ≡ n → ⊥) → w.prev x ≡ v.prev x
    pub within : (x : N) → (x ≡ n → ⊥) → w.within x ≡ v.within x
    pub held : (c : C) → w.held c ≡ v.held c
    pub head : (c : C) → w.head c ≡ v.head c
    pub tail : (c : C) → w.tail c ≡ v.tail c

  module _ (n : N) (g : NodeGone n) (none : v.within n ≡ None) (L M : C → List N) (same : (c : C) → M c ≡ L c) (h : Holds v L) where
    not_it : (x : N) → w.live x ≡ true → x ≡ n → ⊥
    not_it x a z = clash (sym a ∙ ap w.live z ∙ g.dead)

    node_chain : (c : C) → w.held c ≡ true → Chain w c (M c)
    node_chain c k =
        let ch = h.chains c (sym (g.held c) ∙ k) in
        let ne : (x : N) → In x (L c) → x ≡ n → ⊥ = λ x i z. no_some c (v.within n) none (ap v.within (sym z) ∙ run_within v c None (L c) None ch.run x i) in
        subst (Chain w c) (sym (same c))
        (record {
          head = g.head c ∙ ch.head;
          tail = g.tail c ∙ ch.tail;
          run = keep v w c None (L c) None (λ x i. record { within = g.within x (ne x i); live = g.live x (ne x i) }) (λ x i. g.next x (ne x i)) (λ x i. g.prev x (ne x i)) ch.run;
          apart = ch.apart;
        })

    pub node_gone : Holds w M
    node_gone = record {
      chains = node_chain;
      listed = λ x c a i.
          let k = h.listed x c (sym (g.live x (not_it x a)) ∙ a) (sym (g.within x (not_it x a)) ∙ i) in
          (g.held c ∙ k.0, subst (In x) (sym (same c)) k.1);
      loose = λ x a i.
          let k = h.loose x (sym (g.live x (not_it x a)) ∙ a) (sym (g.within x (not_it x a)) ∙ i) in
          (g.next x (not_it x a) ∙ k.0, g.prev x (not_it x a) ∙ k.1);
    }

  -- a container whose list is empty is gone
  pub record HolderGone (c : C) : Type 0 where
    pub dead : w.held c ≡ false
    pub held : (d : C) → (d ≡ c → ⊥) → w.held d ≡ v.held d
    pub head : (d : C) → (d ≡ c → ⊥) → w.head d ≡ v.head d
    pub tail : (d : C) → (d ≡ c → ⊥) → w.tail d ≡ v.tail d
    pub live : (x : N) → w.live x ≡ v.live x
    pub next : (x : N) → w.next x ≡ v.next x
    pub prev : (x : N) → w.prev x ≡ v.prev x
    pub within : (x : N) → w.within x ≡ v.within x

  module _ (c : C) (g : HolderGone c) (L M : C → List N) (empty : L c ≡ []) (same : (d : C) → (d ≡ c → ⊥) → M d ≡ L d) (h : Holds v L) where
    holder_chain : (d : C) → w.held d ≡ true → Chain w d (M d)
    holder_chain d k =
        let ne : d ≡ c → ⊥ = λ z. clash (sym k ∙ ap w.held z ∙ g.dead) in
        let ch = h.chains d (sym (g.held d ne) ∙ k) in
        subst (Chain w d) (sym (same d ne))
        (record {
          head = g.head d ne ∙ ch.head;
          tail = g.tail d ne ∙ ch.tail;
          run = keep v w d None (L d) None (λ x i. record { within = g.within x; live = g.live x }) (λ x i. g.next x) (λ x i. g.prev x) ch.run;
          apart = ch.apart;
        })

    pub holder_gone : Holds w M
    holder_gone = record {
      chains = holder_chain;
      listed = λ x d a i.
          let k = h.listed x d (sym (g.live x) ∙ a) (sym (g.within x) ∙ i) in
          let ne : d ≡ c → ⊥ = λ z. subst (In x) empty (subst (λ (y : C). In x (L y)) z k.1) in
          (g.held d ne ∙ k.0, subst (In x) (sym (same d ne)) k.1);
      loose = λ x a i.
          let k = h.loose x (sym (g.live x) ∙ a) (sym (g.within x) ∙ i) in
          (g.next x ∙ k.0, g.prev x ∙ k.1);
    }

cons_nil : {x : IRNode} {xs : List IRNode} → x ∷ xs ≡ [] → ⊥
cons_nil z = let y : ◌≡◌ {A = ℕ} 0 1 = cc in omega arith

-- a node without children has an empty list
no_children : {A : Type 0} (f : A → IRNode) (b : Bool) (ns : List A) → b ≡ true → cond b (map f ns) [] ≡ [] → ns ≡ []
no_children f b [] e q = refl
no_children f b (n ∷ ns) e q = absurd (cons_nil (sym (ap (λ (z : Bool). cond z (map f (n ∷ ns)) []) e) ∙ q))

pub region_block : (r : RegionPtr) (b : BlockPtr) → node.Region r ≡ node.BasicBlock b → ⊥
region_block r b z = let y : ◌≡◌ {A = ℕ} 0 1 = cc in omega arith

pub block_op : (b : BlockPtr) (p : OpPtr) → node.BasicBlock b ≡ node.Operation p → ⊥
block_op b p z = let y : ◌≡◌ {A = ℕ} 0 1 = cc in omega arith

pub region_op : (r : RegionPtr) (p : OpPtr) → node.Region r ≡ node.Operation p → ⊥
region_op r p z = let y : ◌≡◌ {A = ℕ} 0 1 = cc in omega arith

block_inj : (a b : BlockPtr) → node.BasicBlock a ≡ node.BasicBlock b → a ≡ b
block_inj a b e = cc

pub region_inj : (a b : RegionPtr) → node.Region a ≡ node.Region b → a ≡ b
region_inj a b e = cc

-- what is read at any other handle stays
kept_at : {T B : Type 0} (f : Option T → B) (a : Shelf T) (h k : Handle) → live a.pool h ≡ true → (k ≡ h → ⊥) → f (at (ended h a) k) ≡ f (at a k)
kept_at f a h k e ne = ap f ((end_only a h e).others k ne)

module _ (s t : Model) (l : Lists s) (k : Lists t) where
  -- after the end of an operation
  pub freed_op : (p : OpPtr) → is_live t (node.Operation p) ≡ true → (op_links t).within p ≡ None → But (node.Operation p) l k
      → Holds (op_links (without (node.Operation p) t)) l.ops × Holds (block_links (without (node.Operation p) t)) l.blocks
  freed_op p e none but = (
    node_gone (op_links t) (op_links (without (node.Operation p) t)) p
        (record {
          dead = free_dead p.handle p.handle t.operations.pool e refl;
          live = λ x ne. free_live_other p.handle x.handle t.operations.pool e (λ z. ne (same_opptr x p z));
          next = λ x ne. kept_at (part (λ (o : Operation). o.next)) t.operations p.handle x.handle e (λ z. ne (same_opptr x p z));
          prev = λ x ne. kept_at (part (λ (o : Operation). o.prev)) t.operations p.handle x.handle e (λ z. ne (same_opptr x p z));
          within = λ x ne. kept_at (part (λ (o : Operation). o.container)) t.operations p.handle x.handle e (λ z. ne (same_opptr x p z));
          held = λ c. refl;
          head = λ c. refl;
          tail = λ c. refl;
        }) none k.ops l.ops (λ c. sym (but.ops c (block_op c p))) k.ops_hold,
    subst (Holds (block_links t)) (fun_ext (λ (r : RegionPtr). but.blocks r (region_op r p))) k.blocks_hold,
  )

  -- after the end of a block
  pub freed_block : (b : BlockPtr) → is_live t (node.BasicBlock b) ≡ true → (block_links t).within b ≡ None → But (node.BasicBlock b) l k → children t k (node.BasicBlock b) ≡ []
      → Holds (op_links (without (node.BasicBlock b) t)) l.ops × Holds (block_links (without (node.BasicBlock b) t)) l.blocks
  freed_block b e none but empty =
      let dead = free_dead b.handle b.handle t.blocks.pool e refl in
      let alive : (x : BlockPtr) → (x ≡ b → ⊥) → is_live (without (node.BasicBlock b) t) (node.BasicBlock x) ≡ is_live t (node.BasicBlock x)
      = λ x ne. free_live_other b.handle x.handle t.blocks.pool e (λ z. ne (same_blockptr x b z)) in (
        holder_gone (op_links t) (op_links (without (node.BasicBlock b) t)) b
            (record {
              dead = dead;
              held = alive;
              head = λ d ne. kept_at (part (λ (y : BasicBlock). y.head)) t.blocks b.handle d.handle e (λ z. ne (same_blockptr d b z));
              tail = λ d ne. kept_at (part (λ (y : BasicBlock). y.tail)) t.blocks b.handle d.handle e (λ z. ne (same_blockptr d b z));
              live = λ x. refl;
              next = λ x. refl;
              prev = λ x. refl;
              within = λ x. refl;
            }) k.ops l.ops (no_children node.Operation _ (k.ops b) e empty) (λ d ne. sym (but.ops d (λ z. ne (block_inj d b z)))) k.ops_hold,
        node_gone (block_links t) (block_links (without (node.BasicBlock b) t)) b
            (record {
              dead = dead;
              live = alive;
              next = λ x ne. kept_at (part (λ (y : BasicBlock). y.next)) t.blocks b.handle x.handle e (λ z. ne (same_blockptr x b z));
              prev = λ x ne. kept_at (part (λ (y : BasicBlock). y.prev)) t.blocks b.handle x.handle e (λ z. ne (same_blockptr x b z));
              within = λ x ne. kept_at (part (λ (y : BasicBlock). y.container)) t.blocks b.handle x.handle e (λ z. ne (same_blockptr x b z));
              held = λ c. refl;
              head = λ c. refl;
              tail = λ c. refl;
            }) none k.blocks l.blocks (λ r. sym (but.blocks r (region_block r b))) k.blocks_hold,
      )

  -- after the end of a region
  pub freed_region : (r : RegionPtr) → is_live t (node.Region r) ≡ true → But (node.Region r) l k → children t k (node.Region r) ≡ []
      → Holds (op_links (without (node.Region r) t)) l.ops × Holds (block_links (without (node.Region r) t)) l.blocks
  freed_region r e but empty = (
    subst (Holds (op_links t)) (fun_ext (λ (b : BlockPtr). but.ops b (λ z. region_block r b (sym z)))) k.ops_hold,
    holder_gone (block_links t) (block_links (without (node.Region r) t)) r
        (record {
          dead = free_dead r.handle r.handle t.regions.pool e refl;
          held = λ x ne. free_live_other r.handle x.handle t.regions.pool e (λ z. ne (same_regionptr x r z));
          head = λ d ne. kept_at (part (λ (y : Region). y.head)) t.regions r.handle d.handle e (λ z. ne (same_regionptr d r z));
          tail = λ d ne. kept_at (part (λ (y : Region). y.tail)) t.regions r.handle d.handle e (λ z. ne (same_regionptr d r z));
          live = λ x. refl;
          next = λ x. refl;
          prev = λ x. refl;
          within = λ x. refl;
        }) k.blocks l.blocks (no_children node.BasicBlock _ (k.blocks r) e empty) (λ d ne. sym (but.blocks d (λ z. ne (region_inj d r z)))) k.blocks_hold,
  )
