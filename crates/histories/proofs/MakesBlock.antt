-- Making a block keeps the store as the ledger says. Assumes nothing.
use Rattle.std.proofs.Common.{◌≡◌, ℕ, ◌<◌, Bool, true, false, cond, List, [], is_some, None, sym, ap, ◌∙◌, subst, ⊎_elim}
use Rattle.std.specs.Option.{option_map}
use Rattle.arena.specs.Pools.{live, room}
use Rattle.arena.proofs.Shelving.{live_made, next_dead, take_live_other}
use Rattle.linked_list.specs.Links.{Holds}
use Rattle.records.specs.declared.handles.BlockPtr.{BlockPtr}
use Rattle.records.specs.Makings.{with_block}
use Rattle.records.specs.Models.{Model, next_block, operation_at}
use Rattle.records.specs.Views.{block_links, op_links}
use Rattle.records.specs.Writes.{block_same, same_blockptr}
use Rattle.forest.proofs.Kept.{block_blocks_hold, block_ops_hold}
use Rattle.forest.proofs.Listed.{with_lists}
use Rattle.forest.proofs.Tables.{tables_of}
use Rattle.ir.specs.declared.context.Context.{Context}
use Rattle.ir.specs.Calls.{NewBlock}
use Rattle.ir.specs.Stores.{names, nodes}
use Rattle.histories.specs.Feeding.{BlockEnters}
use Rattle.histories.specs.Ledgers.{Ledger, blocks_in, listed, ops_in}
use Rattle.histories.specs.Represents.{Represents, entry}
use Rattle.histories.proofs.Nodes.{dead_block}
use Rattle.histories.proofs.Held.{holds_same, were_there}

module _ (s t : Context) (l : Ledger) (r : Represents s l) (block : BlockPtr) (d : NewBlock s block t) where
  abbrev a : Model
  a = nodes s

  some : 0 < room a.blocks.pool
  some = d.made.roomy

  after : nodes t ≡ with_block a
  after = d.made.after

  is_next : block ≡ next_block a
  is_next = d.made.answer

  new_dead : live a.blocks.pool block.handle ≡ false
  new_dead = ap (λ (b : BlockPtr). live a.blocks.pool b.handle) is_next ∙ next_dead a.blocks.pool (tables_of s.tables.forest.records).block_places some

  new_live : live (with_block a).blocks.pool block.handle ≡ true
  new_live = ap (λ (b : BlockPtr). live (with_block a).blocks.pool b.handle) is_next ∙ live_made a.blocks.pool (tables_of s.tables.forest.records).block_places some

  -- what is made was not written down
  pub is_new : l.block block ≡ None
  is_new = dead_block s l r block new_dead

  module _ (m : Ledger) (w : BlockEnters l block m) where
    lives : (b : BlockPtr) → is_some (m.block b) ≡ live (with_block a).blocks.pool b.handle
    lives b =
        ⊎_elim
        (λ (e : b ≡ block). ap (λ (c : BlockPtr). is_some (m.block c)) e ∙ ap is_some w.blocks.here ∙ sym (ap (λ (c : BlockPtr). live (with_block a).blocks.pool c.handle) e ∙ new_live))
        (λ (ne : b ≡ block → ⊥).
        ap is_some (w.blocks.other b ne) ∙ r.blocks b
        ∙ sym (take_live_other a.blocks.pool b.handle (tables_of s.tables.forest.records).block_places some (λ h. ne (same_blockptr b (next_block a) h ∙ sym is_next))))
        (block_same b block)

    op_lists : (b : BlockPtr) → with_lists (op_links a).held (ops_in l) (λ c. []) b ≡ ops_in m b
    op_lists b =
        ⊎_elim
        (λ (e : b ≡ block).
        ap (λ (x : Bool). cond x (ops_in l b) []) (ap (λ (c : BlockPtr). live a.blocks.pool c.handle) e ∙ new_dead) ∙ sym (ap (ops_in m) e ∙ ap listed w.blocks.here))
        (λ (ne : b ≡ block → ⊥). were_there (op_links a).held l.block r.blocks b ∙ sym (ap listed (w.blocks.other b ne)))
        (block_same b block)

    pub represents : Represents t m
    represents = record {
      operations = λ op.
          w.operations op ∙ r.operations op ∙ ap (λ (h : List (List ℕ)). option_map (entry h) (operation_at a op)) (sym d.held)
          ∙ ap (λ (z : Model). option_map (entry (names t)) (operation_at z op)) (sym after);
      blocks = λ b. lives b ∙ ap (λ (z : Model). live z.blocks.pool b.handle) (sym after);
      regions = λ x. ap is_some (w.regions x) ∙ r.regions x ∙ ap (λ (z : Model). live z.regions.pool x.handle) (sym after);
      ops_hold = subst (λ (z : Model). Holds (op_links z) (ops_in m)) (sym after)
          (holds_same (op_links (with_block a)) _ (ops_in m) (block_ops_hold a (tables_of s.tables.forest.records) some (ops_in l) r.ops_hold) (λ b k. op_lists b));
      blocks_hold = subst (λ (z : Model). Holds (block_links z) (blocks_in m)) (sym after)
          (holds_same (block_links (with_block a)) _ (blocks_in m) (block_blocks_hold a (tables_of s.tables.forest.records) some (blocks_in l) r.blocks_hold)
          (λ x k. were_there (block_links a).held l.region r.regions x ∙ sym (ap listed (w.regions x))));
    }
