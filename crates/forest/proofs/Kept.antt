-- Each making leaves links that describe lists. Assumes nothing.
use Rattle.std.proofs.Common.{◌≡◌, ℕ, ◌<◌, ◌≤◌, Bool, true, false, cond, List, [], ◌∷◌, Some, None, Option, sym, ap, ◌∙◌, subst, inl, arith}
use mathlib.Core.Logic.{∥∥₁_elim, ∥∥₁_prop}
use Rattle.std.specs.Option.{option_to_list}
use Rattle.arena.specs.declared.handle.Handle.{Handle}
use Rattle.arena.specs.Pools.{live, next, room}
use Rattle.arena.specs.Shelves.{Shelf, at}
use Rattle.arena.specs.declared.slot.Slot.{Slot}
use Rattle.arena.specs.Pools.{Pool, live_slot, unused_pool}
use Rattle.arena.proofs.Pooling.{unused_at}
use Rattle.arena.proofs.Shelving.{enter_only, live_made, next_dead}
use Rattle.linked_list.specs.Links.{Chain, Holds, In, Sound, View}
use Rattle.linked_list.proofs.Grows.{Placed}
use Rattle.records.specs.declared.basic_block.BasicBlock.{BasicBlock}
use Rattle.records.specs.declared.handles.BlockPtr.{BlockPtr}
use Rattle.records.specs.declared.handles.OpPtr.{OpPtr}
use Rattle.records.specs.declared.handles.RegionPtr.{RegionPtr}
use Rattle.records.specs.declared.kind.Kind.{Kind}
use Rattle.records.specs.declared.operation.Operation.{Operation}
use Rattle.records.specs.declared.region.Region.{Region}
use Rattle.records.specs.Makings.{Roomy, blocks_needed, body_of, new_block, new_operation, regions_made, with_block, with_body, with_operation, with_regions}
use Rattle.records.specs.Models.{Model, next_block, next_op, next_region}
use Rattle.records.specs.Views.{block_links, op_links, part}
use Rattle.forest.proofs.Listed.{Made, MadeRegion, More, NewLists, block_lists, blocks_hold, more_none, more_one, more_regions, clash, no_some, ops_hold, with_lists}
use Rattle.records.specs.Writes.{same_blockptr, same_regionptr}
use Rattle.forest.proofs.Tables.{Tables}

-- the body of a table
abbrev pub NewBody : Bool → Model → Handle → BasicBlock → Type 0
NewBody true m k y = Made m.blocks (new_block (Some (next_region m))) k y
NewBody false m k y = ⊥

pub body_more : (b : Bool) (m : Model) → Tables m → blocks_needed b ≤ room m.blocks.pool → More m.blocks (with_body b m) (NewBody b m)
body_more true m t h = more_one m.blocks (new_block (Some (next_region m))) t.block_places h t.blocks_even
body_more false m t h = more_none m.blocks

body_empty : (b : Bool) (m : Model) (k : Handle) (y : BasicBlock) → NewBody b m k y → (y.head ≡ None) × (y.tail ≡ None)
body_empty true m k y e = (ap (λ (z : BasicBlock). z.head) e.1, ap (λ (z : BasicBlock). z.tail) e.1)
body_empty false m k y e = absurd e

-- the lists of new regions: a table's has its body
abbrev pub bodies : Bool → Model → RegionPtr → List BlockPtr
bodies b m c = option_to_list (body_of b m)

same_some : {X : Type 0} (x y : X) (o : Option X) → o ≡ Some x → o ≡ Some y → x ≡ y
same_some x y o p q = cc

module _ (m : Model) (t : Tables m) (op : OpPtr) (operations : Shelf Operation) where
  -- the tables after the regions and the body of an operation were made
  abbrev pub after : Bool → ℕ → Model
  after b count = record { operations = operations; blocks = with_body b m; regions = with_regions op (body_of b m) count m.regions }

  first_region : (body : Option BlockPtr) (i : ℕ) → i ≡ 0 → next (with_regions op body i m.regions).pool ≡ next m.regions.pool
  unfolding with_regions
  first_region body i e = ap (λ (j : ℕ). next (with_regions op body j m.regions).pool) e

  region_live : (body : Option BlockPtr) (count : ℕ) → count ≡ 1 → 0 < room m.regions.pool → live (with_regions op body count m.regions).pool (next m.regions.pool) ≡ true
  unfolding with_regions
  region_live body count e h =
      ap (λ (j : ℕ). live (with_regions op body j m.regions).pool (next m.regions.pool)) e ∙ live_made m.regions.pool t.region_places h

  module _ (L : RegionPtr → List BlockPtr) (count : ℕ) (fits : count ≤ room m.regions.pool) where
    -- an operation that is no table
    plain_lists : (need : blocks_needed false ≤ room m.blocks.pool) → NewLists m (after false count) (NewBody false m) (MadeRegion op None m.regions t.region_places t.regions_even count)
        (body_more false m t need) (more_regions op None m.regions t.region_places t.regions_even count fits) (bodies false m) L
    plain_lists need = record {
      chain = λ c gone r e new. record {
        head = ap (part (λ (z : Region). z.head)) e ∙ ap (λ (z : Region). z.head) new.3;
        tail = ap (part (λ (z : Region). z.tail)) e ∙ ap (λ (z : Region). z.tail) new.3;
        run = tt;
        apart = tt;
      };
      placed = λ p b e new. absurd new;
    }

    module _ (one : count ≡ 1) (need : blocks_needed true ≤ room m.blocks.pool) where
      some : 0 < room m.regions.pool
      some = omega arith

      body_at : at (after true count).blocks (next m.blocks.pool) ≡ Some (new_block (Some (next_region m)))
      body_at = (enter_only m.blocks (new_block (Some (next_region m))) t.block_places need t.blocks_even).here

      body_chain : (c : RegionPtr) (r : Region) → at (after true count).regions c.handle ≡ Some r → c ≡ next_region m → r.head ≡ Some (next_block m) → r.tail ≡ Some (next_block m)
          → Chain (block_links (after true count)) c (next_block m ∷ [])
      body_chain c r e is h l = record {
        head = ap (part (λ (z : Region). z.head)) e ∙ h;
        tail = ap (part (λ (z : Region). z.tail)) e ∙ l;
        run = (
          record {
            prev = ap (part (λ (z : BasicBlock). z.prev)) body_at;
            next = ap (part (λ (z : BasicBlock). z.next)) body_at;
            within = ap (part (λ (z : BasicBlock). z.container)) body_at ∙ ap Some (sym is);
            live = live_made m.blocks.pool t.block_places need;
          },
          tt,
        );
        apart = ((λ z. z), tt);
      }

      regions_more : More m.regions (after true count).regions (MadeRegion op (Some (next_block m)) m.regions t.region_places t.regions_even count)
      regions_more = more_regions op (Some (next_block m)) m.regions t.region_places t.regions_even count fits

      body_placed : (p : BlockPtr) (b : BasicBlock) → at (after true count).blocks p.handle ≡ Some b → NewBody true m p.handle b
          → Placed (block_links (after true count)) (block_lists m (after true count) (NewBody true m) (MadeRegion op (Some (next_block m)) m.regions t.region_places t.regions_even count) (body_more true m t need) regions_more (bodies true m) L) p
      body_placed p b e new =
          let in-region : (block_links (after true count)).within p ≡ Some (next_region m)
          = ap (part (λ (z : BasicBlock). z.container)) e ∙ ap (λ (z : BasicBlock). z.container) new.1 in
          record {
            loose = λ i. absurd (no_some (next_region m) ((block_links (after true count)).within p) i in-region);
            listed = λ c i.
                let is : next_region m ≡ c = same_some (next_region m) c ((block_links (after true count)).within p) in-region i in
                let dead : live m.regions.pool (next m.regions.pool) ≡ false = next_dead m.regions.pool t.region_places some in
                subst (λ (d : RegionPtr). ((block_links (after true count)).held d ≡ true) × In p (cond ((block_links m).held d) (L d) (next_block m ∷ []))) is (
                  region_live (Some (next_block m)) count one some,
                  subst (In p) (sym (ap (λ (x : Bool). cond x (L (next_region m)) (next_block m ∷ [])) dead)) (inl (same_blockptr p (next_block m) new.0)),
                );
          }

      -- a table
      table_lists : NewLists m (after true count) (NewBody true m) (MadeRegion op (Some (next_block m)) m.regions t.region_places t.regions_even count)
          (body_more true m t need) regions_more (bodies true m) L
      table_lists = record {
        chain = λ c gone r e new.
            let lt = new.1 in
            let z : new.0 ≡ 0 = omega arith in
            body_chain c r e (same_regionptr c (next_region m) (new.2 ∙ first_region (Some (next_block m)) new.0 z)) (ap (λ (y : Region). y.head) new.3) (ap (λ (y : Region). y.tail) new.3);
        placed = body_placed;
      }

-- links that describe lists, out of their truncation and into it again
through : {A B : Type 0} → ∥ A ∥₁ → (A → B) → ∥ B ∥₁
through a f = ∥∥₁_elim a ∥∥₁_prop (λ x. ∣ f x ∣₁)

bodies_hold : (m : Model) (t : Tables m) (op : OpPtr) (operations : Shelf Operation) (b : Bool) (count : ℕ) → cond b count 1 ≡ 1 → blocks_needed b ≤ room m.blocks.pool → count ≤ room m.regions.pool
    → (L : RegionPtr → List BlockPtr) → Holds (block_links m) L → Holds (block_links (after m t op operations b count)) (with_lists (block_links m).held L (bodies b m))
bodies_hold m t op operations true count one need fits L h = blocks_hold m (after m t op operations true count) _ _ _ _ (bodies true m) L (table_lists m t op operations L count fits one need) h
bodies_hold m t op operations false count one need fits L h = blocks_hold m (after m t op operations false count) _ _ _ _ (bodies false m) L (plain_lists m t op operations L count fits need) h

body_sound : (m : Model) (t : Tables m) (op : OpPtr) (operations : Shelf Operation) (b : Bool) (count : ℕ) → cond b count 1 ≡ 1 → blocks_needed b ≤ room m.blocks.pool → count ≤ room m.regions.pool
    → Sound (block_links m) → Sound (block_links (after m t op operations b count))
body_sound m t op operations b count one need fits h = through h (λ s. (_, bodies_hold m t op operations b count one need fits s.0 s.1))

pub loose_new : (a : Shelf Operation) (kind : Kind) (name : Option ℕ) (regions : List RegionPtr) (k : Handle) (o : Operation) → Made a (new_operation kind name regions) k o
    → (o.next ≡ None) × (o.prev ≡ None) × (o.container ≡ None)
loose_new a kind name regions k o e = (ap (λ (z : Operation). z.next) e.1, ap (λ (z : Operation). z.prev) e.1, ap (λ (z : Operation). z.container) e.1)

module _ (m : Model) (t : Tables m) where
  -- after the making of an operation: the lists that were there, and those of what is new
  pub made_ops_hold : (kind : Kind) (name : Option ℕ) (count : ℕ) → Roomy kind count m → (L : BlockPtr → List OpPtr) → Holds (op_links m) L
      → Holds (op_links (with_operation kind name count m)) (with_lists (op_links m).held L (λ c. []))
  made_ops_hold kind name count r L h =
      let new = new_operation kind name (regions_made kind count m) in
      ops_hold m (with_operation kind name count m) _ _ (more_one m.operations new t.op_places r.operations t.ops_even) (body_more kind.table m t r.blocks)
      (loose_new m.operations kind name (regions_made kind count m)) (body_empty kind.table m) L h

  pub made_op_lists : (kind : Kind) (name : Option ℕ) (count : ℕ) → Roomy kind count m → Sound (op_links m) → Sound (op_links (with_operation kind name count m))
  made_op_lists kind name count r h = through h (λ s. (_, made_ops_hold kind name count r s.0 s.1))

  pub made_blocks_hold : (kind : Kind) (name : Option ℕ) (count : ℕ) → cond kind.table count 1 ≡ 1 → Roomy kind count m → (L : RegionPtr → List BlockPtr) → Holds (block_links m) L
      → Holds (block_links (with_operation kind name count m)) (with_lists (block_links m).held L (bodies kind.table m))
  made_blocks_hold kind name count one r = bodies_hold m t (next_op m) (with_operation kind name count m).operations kind.table count one r.blocks r.regions

  pub made_block_lists : (kind : Kind) (name : Option ℕ) (count : ℕ) → cond kind.table count 1 ≡ 1 → Roomy kind count m → Sound (block_links m) → Sound (block_links (with_operation kind name count m))
  made_block_lists kind name count one r h =
      body_sound m t (next_op m) (with_operation kind name count m).operations kind.table count one r.blocks r.regions h

  -- after the making of a block
  pub block_more : 0 < room m.blocks.pool → More m.blocks (with_block m).blocks (Made m.blocks (new_block None))
  block_more h = more_one m.blocks (new_block None) t.block_places h t.blocks_even

  pub block_ops_hold : 0 < room m.blocks.pool → (L : BlockPtr → List OpPtr) → Holds (op_links m) L → Holds (op_links (with_block m)) (with_lists (op_links m).held L (λ c. []))
  block_ops_hold h L hs =
      ops_hold m (with_block m) _ _ (more_none m.operations) (block_more h) (λ k o e. absurd e)
      (λ k y e. (ap (λ (z : BasicBlock). z.head) e.1, ap (λ (z : BasicBlock). z.tail) e.1)) L hs

  pub block_op_lists : 0 < room m.blocks.pool → Sound (op_links m) → Sound (op_links (with_block m))
  block_op_lists h hs = through hs (λ s. (_, block_ops_hold h s.0 s.1))

  pub block_blocks_hold : 0 < room m.blocks.pool → (L : RegionPtr → List BlockPtr) → Holds (block_links m) L → Holds (block_links (with_block m)) (with_lists (block_links m).held L (λ c. []))
  block_blocks_hold h L hs =
      blocks_hold m (with_block m) _ _ (block_more h) (more_none m.regions) (λ c. []) L
      (record {
        chain = λ c gone r e new. absurd new;
        placed = λ p b e new.
            let none : (block_links (with_block m)).within p ≡ None = ap (part (λ (z : BasicBlock). z.container)) e ∙ ap (λ (z : BasicBlock). z.container) new.1 in
            record {
              loose = λ i. (ap (part (λ (z : BasicBlock). z.next)) e ∙ ap (λ (z : BasicBlock). z.next) new.1, ap (part (λ (z : BasicBlock). z.prev)) e ∙ ap (λ (z : BasicBlock). z.prev) new.1);
              listed = λ c i. absurd (no_some c ((block_links (with_block m)).within p) none i);
            };
      }) hs

  pub block_block_lists : 0 < room m.blocks.pool → Sound (block_links m) → Sound (block_links (with_block m))
  block_block_lists h hs = through hs (λ s. (_, block_blocks_hold h s.0 s.1))

-- where nothing is live there is no list
pub nothing_listed : {N C : Type 0} (v : View N C) → ((n : N) → v.live n ≡ false) → ((c : C) → v.held c ≡ false) → Sound v
nothing_listed v dead none = ∣ (
  (λ c. []),
  record {
    chains = λ c k. absurd (clash (sym k ∙ none c));
    listed = λ n c l i. absurd (clash (sym l ∙ dead n));
    loose = λ n l i. absurd (clash (sym l ∙ dead n));
  },
) ∣₁

-- no handle is live where no place was ever taken
pub unused_dead : (p : Pool) (n : ℕ) (k : Handle) → p ≡ unused_pool n → live p k ≡ false
unused_dead p n k e = ap (λ (q : Pool). live q k) e ∙ ap (λ (x : Slot). live_slot x k.version) (unused_at n k.place)
