-- Makings keep the links as lists: what is new stands in no list, but for a table's body, the one block of its region.
-- Assumes nothing.
use Rattle.std.proofs.Common.{◌≡◌, ℕ, zero, suc, ◌<◌, ◌≤◌, Bool, true, false, cond, ◌⊎◌, List, [], length, Some, None, Option, sym, refl, ap, ◌∙◌, subst, inl, inr, ⊎_elim, arith}
use Rattle.std.proofs.lemmas.List.{length-set}
use Rattle.arena.specs.declared.handle.Handle.{Handle}
use Rattle.arena.specs.Pools.{live, next, room, Sound}
use Rattle.arena.specs.Shelves.{Shelf, at, entered}
use Rattle.arena.proofs.Shelving.{enter_keeps, enter_live, enter_only, take_live_other, take_long}
use Rattle.linked_list.specs.Links.{Chain, Holds}
use Rattle.linked_list.proofs.Grows.{Grows, Placed, grows_holds}
use Rattle.records.specs.declared.basic_block.BasicBlock.{BasicBlock}
use Rattle.records.specs.declared.handles.BlockPtr.{BlockPtr}
use Rattle.records.specs.declared.handles.OpPtr.{OpPtr}
use Rattle.records.specs.declared.handles.RegionPtr.{RegionPtr}
use Rattle.records.specs.declared.operation.Operation.{Operation}
use Rattle.records.specs.declared.region.Region.{Region}
use Rattle.records.specs.Makings.{new_region, with_regions}
use Rattle.records.specs.Models.{Model}
use Rattle.records.specs.Views.{block_links, op_links, part}
use Rattle.records.proofs.Regions.{regions_grown}
pub use Rattle.erasers.proofs.Ends.{clash, decide, no_some}
use Rattle.forest.proofs.Tables.{Even}
use Rattle.records.specs.Writes.{handles}

-- Tables that grew.

-- what was live stays as it was, and what is live and was not is new
pub record More {T : Type 0} (a b : Shelf T) (New : Handle → T → Type 0) : Type 0 where
  pub still : (k : Handle) → live a.pool k ≡ true → live b.pool k ≡ true
  pub keeps : (k : Handle) → live a.pool k ≡ true → at b k ≡ at a k
  pub new : (k : Handle) → live b.pool k ≡ true → (live a.pool k ≡ true) ⊎ ((y : T) × (at b k ≡ Some y) × New k y)

module _ {T : Type 0} where
  pub more_none : (a : Shelf T) → More a a (λ k y. ⊥)
  more_none a = record { still = λ k e. e; keeps = λ k e. refl; new = λ k e. inl e }

  -- one making
  abbrev pub Made : Shelf T → T → Handle → T → Type 0
  Made a x k y = (k ≡ next a.pool) × (y ≡ x)

  pub more_one : (a : Shelf T) (x : T) → Sound a.pool → 0 < room a.pool → length a.records ≡ length a.pool.slots → More a (entered x a) (Made a x)
  more_one a x s h l = record {
    still = enter_live a x s h;
    keeps = enter_keeps a x s h;
    new = λ k e.
        elim (handles k (next a.pool)) [
          | inl z ↦ inr (x, ap (at (entered x a)) z ∙ (enter_only a x s h l).here, (z, refl))
          | inr ne ↦ inl (sym (take_live_other a.pool k s h ne) ∙ e)
        ];
  }

even_more : {T : Type 0} (a : Shelf T) (x : T) → Even a → Even (entered x a)
even_more a x l = length-set a.records _ x ∙ l ∙ sym (take_long a.pool)

-- the regions of an operation
module _ (op : OpPtr) (body : Option BlockPtr) (a : Shelf Region) (s : Sound a.pool) (l : Even a) where
  abbrev pub MadeRegion : ℕ → Handle → Region → Type 0
  MadeRegion n k y = (i : ℕ) × (i < n) × (k ≡ next (with_regions op body i a).pool) × (y ≡ new_region op body i)

  pub regions_even : (n : ℕ) → Even (with_regions op body n a)
  unfolding with_regions
  regions_even zero = l
  regions_even (suc n) = even_more (with_regions op body n a) (new_region op body n) (regions_even n)

  grown_new : (n : ℕ) (b : Shelf Region) → b ≡ with_regions op body n a → More a b (MadeRegion n) → (More b (entered (new_region op body n) b) (Made b (new_region op body n)))
      → (k : Handle) → live (entered (new_region op body n) b).pool k ≡ true → (live a.pool k ≡ true) ⊎ ((y : Region) × (at (entered (new_region op body n) b) k ≡ Some y) × MadeRegion (suc n) k y)
  grown_new n b z old one k e =
      ⊎_elim
      (λ (h : live b.pool k ≡ true).
      ⊎_elim
      (λ (w : live a.pool k ≡ true). inl w)
      (λ (w : (y : Region) × (at b k ≡ Some y) × MadeRegion n k y).
      let i = w.2 in
      let lt = i.1 in
      inr (w.0, one.keeps k h ∙ w.1, (i.0, omega arith, i.2, i.3)))
      (old.new k h))
      (λ (h : (y : Region) × (at (entered (new_region op body n) b) k ≡ Some y) × Made b (new_region op body n) k y).
      inr (h.0, h.1, (n, omega arith, h.2.0 ∙ ap (λ (c : Shelf Region). next c.pool) z, h.2.1)))
      (one.new k e)

  pub more_regions : (n : ℕ) → n ≤ room a.pool → More a (with_regions op body n a) (MadeRegion n)
  unfolding with_regions
  more_regions zero h = record { still = λ k e. e; keeps = λ k e. refl; new = λ k e. inl e }
  more_regions (suc n) h =
      let g = regions_grown op body a n s (omega arith) in
      let r = g.rooms in
      let some : 0 < room (with_regions op body n a).pool = omega arith in
      let old = more_regions n (omega arith) in
      let one = more_one (with_regions op body n a) (new_region op body n) g.sound some (regions_even n) in
      record {
        still = λ k e. one.still k (old.still k e);
        keeps = λ k e. one.keeps k (old.still k e) ∙ old.keeps k e;
        new = grown_new n (with_regions op body n a) refl old one;
      }

-- the lists of a table's containers that were there, and else of new ones
abbrev pub with_lists : {C N : Type 0} → (C → Bool) → (C → List N) → (C → List N) → C → List N
with_lists held old new c = cond (held c) (old c) (new c)

was_held : {C N : Type 0} (held : C → Bool) (old new : C → List N) (c : C) → held c ≡ true → with_lists held old new c ≡ old c
was_held held old new c e = ap (λ (b : Bool). cond b (old c) (new c)) e

pub not_held : {C N : Type 0} (held : C → Bool) (old new : C → List N) (c : C) → held c ≡ false → with_lists held old new c ≡ new c
not_held held old new c e = ap (λ (b : Bool). cond b (old c) (new c)) e

-- Operations in blocks: a new operation stands in no block, and a new block is empty.
module _ (m n : Model) (NewOp : Handle → Operation → Type 0) (NewBlock : Handle → BasicBlock → Type 0)
    (ops : More m.operations n.operations NewOp) (blocks : More m.blocks n.blocks NewBlock)
    (loose : (k : Handle) (o : Operation) → NewOp k o → (o.next ≡ None) × (o.prev ≡ None) × (o.container ≡ None))
    (empty : (k : Handle) (b : BasicBlock) → NewBlock k b → (b.head ≡ None) × (b.tail ≡ None)) (L : BlockPtr → List OpPtr) where
  abbrev op_lists : BlockPtr → List OpPtr
  op_lists = with_lists (op_links m).held L (λ c. [])

  new_op : (p : OpPtr) → (op_links n).live p ≡ true → ((op_links m).live p ≡ true) ⊎ Placed (op_links n) op_lists p
  new_op p e =
      ⊎_elim
      (λ (old : live m.operations.pool p.handle ≡ true). inl old)
      (λ (h : (o : Operation) × (at n.operations p.handle ≡ Some o) × NewOp p.handle o).
      let free = loose p.handle h.0 h.2 in
      inr (record {
        loose = λ i. (ap (part (λ (o : Operation). o.next)) h.1 ∙ free.0, ap (part (λ (o : Operation). o.prev)) h.1 ∙ free.1);
        listed = λ c i. absurd (no_some c ((op_links n).within p) (ap (part (λ (o : Operation). o.container)) h.1 ∙ free.2) i);
      }))
      (ops.new p.handle e)

  new_list : (c : BlockPtr) → (op_links n).held c ≡ true → ((op_links m).held c ≡ true) ⊎ Chain (op_links n) c (op_lists c)
  new_list c e =
      elim (decide ((op_links m).held c)) [
        | inl old ↦ inl old
        | inr gone ↦
            ⊎_elim
            (λ (old : live m.blocks.pool c.handle ≡ true). inl old)
            (λ (h : (b : BasicBlock) × (at n.blocks c.handle ≡ Some b) × NewBlock c.handle b).
            let ends = empty c.handle h.0 h.2 in
            inr (subst (λ (ns : List OpPtr). Chain (op_links n) c ns) (sym (not_held (op_links m).held L (λ d. []) c gone))
            (record {
              head = ap (part (λ (b : BasicBlock). b.head)) h.1 ∙ ends.0;
              tail = ap (part (λ (b : BasicBlock). b.tail)) h.1 ∙ ends.1;
              run = tt;
              apart = tt;
            })))
            (blocks.new c.handle e)
      ]

  op_grows : Grows (op_links m) (op_links n) L op_lists
  op_grows = record {
    nodes = λ p e. let k = ops.keeps p.handle e in record {
      live = ops.still p.handle e;
      next = ap (part (λ (o : Operation). o.next)) k;
      prev = ap (part (λ (o : Operation). o.prev)) k;
      within = ap (part (λ (o : Operation). o.container)) k;
    };
    containers = λ c e. let k = blocks.keeps c.handle e in record {
      held = blocks.still c.handle e;
      head = ap (part (λ (b : BasicBlock). b.head)) k;
      tail = ap (part (λ (b : BasicBlock). b.tail)) k;
      list = was_held (op_links m).held L (λ d. []) c e;
    };
    new_nodes = new_op;
    new_containers = new_list;
  }

  pub ops_hold : Holds (op_links m) L → Holds (op_links n) op_lists
  ops_hold h = grows_holds (op_links m) (op_links n) L op_lists h op_grows

-- Blocks in regions: new regions have the lists that are given.
module _ (m n : Model) (NewBlock : Handle → BasicBlock → Type 0) (NewRegion : Handle → Region → Type 0)
    (blocks : More m.blocks n.blocks NewBlock) (regions : More m.regions n.regions NewRegion)
    (B : RegionPtr → List BlockPtr) (L : RegionPtr → List BlockPtr) where
  abbrev pub block_lists : RegionPtr → List BlockPtr
  block_lists = with_lists (block_links m).held L B

  -- what is new describes these lists
  pub record NewLists : Type 0 where
    pub chain : (c : RegionPtr) → (block_links m).held c ≡ false → (r : Region) → at n.regions c.handle ≡ Some r → NewRegion c.handle r → Chain (block_links n) c (B c)
    pub placed : (p : BlockPtr) (b : BasicBlock) → at n.blocks p.handle ≡ Some b → NewBlock p.handle b → Placed (block_links n) block_lists p

  block_grows : NewLists → Grows (block_links m) (block_links n) L block_lists
  block_grows new = record {
    nodes = λ p e. let k = blocks.keeps p.handle e in record {
      live = blocks.still p.handle e;
      next = ap (part (λ (b : BasicBlock). b.next)) k;
      prev = ap (part (λ (b : BasicBlock). b.prev)) k;
      within = ap (part (λ (b : BasicBlock). b.container)) k;
    };
    containers = λ c e. let k = regions.keeps c.handle e in record {
      held = regions.still c.handle e;
      head = ap (part (λ (r : Region). r.head)) k;
      tail = ap (part (λ (r : Region). r.tail)) k;
      list = was_held (block_links m).held L B c e;
    };
    new_nodes = λ p e.
        ⊎_elim
        (λ (old : live m.blocks.pool p.handle ≡ true). inl old)
        (λ (h : (b : BasicBlock) × (at n.blocks p.handle ≡ Some b) × NewBlock p.handle b). inr (new.placed p h.0 h.1 h.2))
        (blocks.new p.handle e);
    new_containers = λ c e.
        elim (decide ((block_links m).held c)) [
          | inl old ↦ inl old
          | inr gone ↦
              ⊎_elim
              (λ (old : live m.regions.pool c.handle ≡ true). inl old)
              (λ (h : (r : Region) × (at n.regions c.handle ≡ Some r) × NewRegion c.handle r).
              inr (subst (λ (ns : List BlockPtr). Chain (block_links n) c ns) (sym (not_held (block_links m).held L B c gone)) (new.chain c gone h.0 h.1 h.2)))
              (regions.new c.handle e)
        ];
  }

  pub blocks_hold : NewLists → Holds (block_links m) L → Holds (block_links n) block_lists
  blocks_hold new h = grows_holds (block_links m) (block_links n) L block_lists h (block_grows new)
