-- Erasing keeps what always holds of tables where it takes no symbol and no body out of a table that stays. Assumes nothing.
use Rattle.std.proofs.Common.{◌≡◌, ℕ, Bool, true, false, ◌&&◌, [], ◌∷◌, is_some, Some, None, Ok, Err, Option, Result, sym, refl, ap, ◌∙◌, subst, inl, inr}
use mathlib.Core.Logic.{∥∥₁_map}
use Rattle.std.proofs.lemmas.Bool.{true_from_ne_false}
use Rattle.std.specs.Option.{option_map}
use Rattle.arena.proofs.Shelving.{at_dead}
use Rattle.linked_list.specs.Links.{Chain, In}
use Rattle.trees.specs.Climbs.{Within}
use Rattle.trees.proofs.Climbing.{inside_up}
use Rattle.records.specs.declared.handles.BlockPtr.{BlockPtr}
use Rattle.records.specs.declared.handles.OpPtr.{OpPtr}
use Rattle.records.specs.declared.handles.RegionPtr.{RegionPtr}
use Rattle.records.specs.declared.ir_node.IRNode.{IRNode}
use Rattle.records.specs.declared.ir_node.IRNode.TheVariants as node
use Rattle.records.specs.declared.operation.Operation.{Operation}
use Rattle.records.specs.declared.region.Region.{Region}
use Rattle.records.specs.Children.{Lists, is_live}
use Rattle.records.specs.Models.{Model, operation_at, region_at}
use Rattle.records.specs.Nodes.{Owned, is, is_body, is_symbol, is_table, owner, parent, table_bound}
use Rattle.records.specs.Views.{block_links, endless_region, loose_op, op_links, part}
use Rattle.records.specs.Writes.{block_same, region_same}
use Rattle.records.proofs.Rests.{mapped_all}
use Rattle.result.specs.declared.refusal.Refusal.{Refusal}
use Rattle.result.specs.Rows.{NoRow, Uppermost}
use Rattle.erasers.proofs.Ends.{Fewer, live_outside, outside_op, outside_region, was_live}
use Rattle.erasers.proofs.Frees.{block_op, region_block, region_op}
use Rattle.forest.specs.declared.forest.Forest.{Forest}
use Rattle.forest.specs.Erasings.{BlockErased, Ended, OpErased, erase_block_rows, erase_op_rows}
use Rattle.forest.specs.Forests.{model}
use Rattle.forest.proofs.Listed.{clash, decide}
use Rattle.forest.proofs.Subtrees.{fewer_ended, less_of}
use Rattle.mappings.specs.declared.mappings.Mappings.{Mappings}
use Rattle.mappings.specs.Edits.{Retained}
use Rattle.mappings.specs.Held.{mapped}
use Rattle.symbol_table.specs.declared.symbol_tables.SymbolTables.{SymbolTables}
use Rattle.symbol_table.specs.Bodies.{Body, Bodied, Follows, Named, Stands, block_parent}
use Rattle.symbol_table.specs.Carried.{nodes}
use Rattle.symbol_table.specs.Erasing.{Erases, ErasesOpIn}
use Rattle.symbol_table.specs.Inserting.{Removed, remove_rows}
use Rattle.symbol_table.proofs.Carrying.{Whole, into, named_of, whole_of}
use Rattle.symbol_table.proofs.Faces.{face, name_at, regions_at, symbol_at, table_at}
use Rattle.symbol_table.proofs.Fewer.{Less, all_less, stands_still, stood, taken_less}
use Rattle.symbol_table.proofs.Findings.{follows_in}
use Rattle.symbol_table.proofs.Following.{bound, in_body, none_some}
use Rattle.symbol_table.proofs.Growing.{is_live_op, part_some}
use Rattle.symbol_table.proofs.Ones.{all_alike, one_list, only_that}
use Rattle.symbol_table.proofs.Putting.{stands_live}
use Rattle.symbol_table.proofs.Regioning.{body_held, body_owner}

-- The node x ended with all that lies below it; it is no region, no body of a table, and no symbol that stands in one.
module _ (m n : Model) (x : IRNode) (l : Lists m) (k : Lists n) (own : Owned m) (e : Ended m x n)
    (ops : Less (λ o. node.Operation o ≡ x) l.ops k.ops) (blocks : Less (λ b. node.BasicBlock b ≡ x) l.blocks k.blocks)
    (no_region : (r : RegionPtr) → node.Region r ≡ x → ⊥) (no_body : (b : BlockPtr) → is_body m b ≡ true → node.BasicBlock b ≡ x → ⊥)
    (no_symbol : (t o : OpPtr) (i : ℕ) → Stands m t i o → node.Operation o ≡ x → ⊥) where
  fewer : Fewer m n e.ends
  fewer = fewer_ended e l

  -- what is live lies outside
  outside : (y : IRNode) → is_live n y ≡ true → Within (parent m) x y → ⊥
  outside y a w = clash (sym a ∙ e.gone y w)

  lives : (y : IRNode) → (Within (parent m) x y → ⊥) → is_live m y ≡ true → is_live n y ≡ true
  lives y out a = e.stays y out ∙ a

  same_face : (p : OpPtr) → is_live n (node.Operation p) ≡ true → option_map face (operation_at n p) ≡ option_map face (operation_at m p)
  same_face p a =
      sym (mapped_all loose_op face (λ o. refl) (operation_at n p))
      ∙ ap (option_map face) (outside_op fewer p (live_outside fewer (node.Operation p) a))
      ∙ mapped_all loose_op face (λ o. refl) (operation_at m p)

  same_owner : (r : RegionPtr) → is_live n (node.Region r) ≡ true → owner n r ≡ owner m r
  same_owner r a =
      sym (mapped_all endless_region (λ (z : Region). z.parent_op) (λ z. refl) (region_at n r))
      ∙ ap (option_map (λ (z : Region). z.parent_op)) (outside_region fewer r (live_outside fewer (node.Region r) a))
      ∙ mapped_all endless_region (λ (z : Region). z.parent_op) (λ z. refl) (region_at m r)

  -- The regions, blocks and operations in a table that stays.
  region_out : (t : OpPtr) (r : RegionPtr) → owner m r ≡ Some t → (Within (parent m) x (node.Operation t) → ⊥) → Within (parent m) x (node.Region r) → ⊥
  region_out t r o out w = out (inside_up (parent m) x (node.Region r) (node.Operation t) (ap (option_map node.Operation) o) (no_region r) w)

  block_out : (r : RegionPtr) (b : BlockPtr) → (block_links m).within b ≡ Some r → (node.BasicBlock b ≡ x → ⊥) → (Within (parent m) x (node.Region r) → ⊥) → Within (parent m) x (node.BasicBlock b) → ⊥
  block_out r b i ne out w = out (inside_up (parent m) x (node.BasicBlock b) (node.Region r) (ap (option_map node.Region) i) ne w)

  op_out : (b : BlockPtr) (o : OpPtr) → (op_links m).within o ≡ Some b → (node.Operation o ≡ x → ⊥) → (Within (parent m) x (node.BasicBlock b) → ⊥) → Within (parent m) x (node.Operation o) → ⊥
  op_out b o i ne out w = out (inside_up (parent m) x (node.Operation o) (node.BasicBlock b) (ap (option_map node.BasicBlock) i) ne w)

  -- what stands in a table that stays, stays there
  stays : (t o : OpPtr) (i : ℕ) → is_live n (node.Operation t) ≡ true → Stands m t i o → Stands n t i o
  stays t o i a s =
      let b = part_some (block_parent m) ((op_links m).within o) t s.parent in
      let r = part_some (owner m) ((block_links m).within b.it) t b.part in
      let ne_block = no_body b.it (in_body m t b.it b.part s.table) in
      let ne_op = no_symbol t o i s in
      let out_region = region_out t r.it r.part (outside (node.Operation t) a) in
      let out_block = block_out r.it b.it r.is ne_block out_region in
      let out_op = op_out b.it o b.is ne_op out_block in
      let live_op = stands_live m t o s.parent in
      let live_block = (l.ops_hold.listed o b.it live_op b.is).0 in
      let live_region = (l.blocks_hold.listed b.it r.it live_block r.is).0 in
      let there = lives (node.Region r.it) out_region live_region in
      let in_block = stands_still (op_links m) (op_links n) (λ o. node.Operation o ≡ x) l.ops k.ops l.ops_hold k.ops_hold ops o b.it ne_op (lives (node.BasicBlock b.it) out_block live_block) live_op b.is in
      let in_region = stands_still (block_links m) (block_links n) (λ b. node.BasicBlock b ≡ x) l.blocks k.blocks l.blocks_hold k.blocks_hold blocks b.it r.it ne_block there live_block r.is in
      record {
        parent = ap (part (block_parent n)) in_block ∙ ap (part (owner n)) in_region ∙ same_owner r.it there ∙ r.part;
        table = table_at m n t (same_face t a) ∙ s.table;
        name = name_at m n o (same_face o (lives (node.Operation o) out_op live_op)) ∙ s.name;
      }

  table_live : (t : OpPtr) → is_table n t ≡ true → is_live n (node.Operation t) ≡ true
  table_live t i = is_live_op n (λ (o : Operation). o.kind.table) t i

  -- what stands in a table stood there
  stood_there : (t o : OpPtr) (i : ℕ) → Stands n t i o → Stands m t i o
  stood_there t o i s =
      let b = part_some (block_parent n) ((op_links n).within o) t s.parent in
      let r = part_some (owner n) ((block_links n).within b.it) t b.part in
      let live_op = stands_live n t o s.parent in
      let live_block = (k.ops_hold.listed o b.it live_op b.is).0 in
      let live_region = (k.blocks_hold.listed b.it r.it live_block r.is).0 in
      let in_block = stood (op_links m) (op_links n) (λ o. node.Operation o ≡ x) l.ops k.ops l.ops_hold k.ops_hold ops o b.it (was_live fewer (node.BasicBlock b.it) live_block) live_op b.is in
      let in_region = stood (block_links m) (block_links n) (λ b. node.BasicBlock b ≡ x) l.blocks k.blocks l.blocks_hold k.blocks_hold blocks b.it r.it (was_live fewer (node.Region r.it) live_region) live_block r.is in
      record {
        parent = ap (part (block_parent m)) in_block ∙ ap (part (owner m)) in_region ∙ sym (same_owner r.it live_region) ∙ r.part;
        table = sym (table_at m n t (same_face t (table_live t s.table))) ∙ s.table;
        name = sym (name_at m n o (same_face o live_op)) ∙ s.name;
      }

  pub erased_follows : (f g : OpPtr → ℕ → Option OpPtr) → ((t : OpPtr) (i : ℕ) → is_live n (node.Operation t) ≡ true → g t i ≡ f t i) → ((t : OpPtr) (i : ℕ) → is_live n (node.Operation t) ≡ false → g t i ≡ None)
      → Follows m f → Follows n g
  erased_follows f g kept gone h = record {
    found = λ t i o q. elim (decide (is_live n (node.Operation t))) [
      | inl a ↦ stays t o i a (h.found t i o (sym (kept t i a) ∙ q))
      | inr d ↦ absurd (none_some (sym (gone t i d) ∙ q))
    ];
    kept = λ t i o s. kept t i (table_live t s.table) ∙ h.kept t i o (stood_there t o i s);
  }

  pub erased_named : Named m → Named n
  erased_named h = record {
    symbols = λ p. elim (decide (is_live n (node.Operation p))) [
      | inl a ↦ symbol_at m n p (same_face p a) ∙ h.symbols p ∙ sym (ap is_some (name_at m n p (same_face p a)))
      | inr d ↦
          (let none = at_dead n.operations p.handle d in
          ap (is (λ (o : Operation). o.kind.symbol)) none ∙ sym (ap (λ (o : Option Operation). is_some (part (λ (y : Operation). y.name) o)) none))
    ];
  }

  body_stays : (t : OpPtr) → is_live n (node.Operation t) ≡ true → is_table m t ≡ true → (b : Body m t) → Chain (block_links n) b.region (b.block ∷ [])
  body_stays t a i b =
      let up : block_parent m b.block ≡ Some t = ap (part (owner m)) b.blocks.run.0.within ∙ body_owner m own t b in
      let was_held = body_held m t b in
      let there = lives (node.Region b.region) (region_out t b.region (body_owner m own t b) (outside (node.Operation t) a)) was_held in
      let now = k.blocks_hold.chains b.region there in
      let was : l.blocks b.region ≡ b.block ∷ [] = one_list (block_links m) b.region b.block (l.blocks b.region) b.blocks (l.blocks_hold.chains b.region was_held) in
      let has : In b.block (k.blocks b.region) = blocks.still b.region b.block (no_body b.block (in_body m t b.block up i)) (l.blocks_hold.listed b.block b.region b.blocks.run.0.live b.blocks.run.0.within).1 in
      subst (Chain (block_links n) b.region)
      (all_alike b.block (k.blocks b.region) now.apart has (λ y j. only_that b.block y (subst (In y) was (blocks.was b.region y j))))
      now

  pub erased_bodied : Bodied m → Bodied n
  erased_bodied h = record {
    body = λ t i.
        let a = table_live t i in
        let was = sym (table_at m n t (same_face t a)) ∙ i in
        let b = h.body t was in
        record { region = b.region; block = b.block; regions = regions_at m n t (same_face t a) ∙ b.regions; blocks = body_stays t a was b };
  }

-- An operation or a block was erased, by what erasing it does, and the names of the tables that ended were taken away.
module _ (s : SymbolTables) (f : Forest) (g : Mappings) (r : Retained (op_links (model f)).live s.mappings g) where
  -- the store after, from its lists and those before
  after : (x : IRNode) → Ended (nodes s) x (model f) → (l : Lists (nodes s)) (k : Lists (model f)) → Less (λ o. node.Operation o ≡ x) l.ops k.ops → Less (λ b. node.BasicBlock b ≡ x) l.blocks k.blocks
      → ((r : RegionPtr) → node.Region r ≡ x → ⊥) → ((b : BlockPtr) → is_body (nodes s) b ≡ true → node.BasicBlock b ≡ x → ⊥) → ((t o : OpPtr) (i : ℕ) → Stands (nodes s) t i o → node.Operation o ≡ x → ⊥)
      → Bodied (nodes s) → Owned (nodes s) → Whole (model f) (mapped g)
  after x e l k ops blocks no_region no_body no_symbol bodied own = record {
    bodied = ∣ erased_bodied (nodes s) (model f) x l k own e ops blocks no_region no_body no_symbol bodied ∣₁;
    named = ∣ erased_named (nodes s) (model f) x l k own e ops blocks no_region no_body no_symbol (named_of (nodes s) s.named) ∣₁;
    follows = ∣ erased_follows (nodes s) (model f) x l k own e ops blocks no_region no_body no_symbol (mapped s.mappings) (mapped g) r.kept r.gone (follows_in s) ∣₁;
  }

  -- what is known out of the truncations
  known : ((l : Lists (nodes s)) → Bodied (nodes s) → Owned (nodes s) → Whole (model f) (mapped g)) → Whole (model f) (mapped g)
  known w =
      whole_of (into s.forest.oplists (λ ops. into s.forest.blocklists (λ blocks. into s.bodied (λ bodied. ∥∥₁_map s.forest.owned
      (w (record { ops = ops.0; blocks = blocks.0; ops_hold = ops.1; blocks_hold = blocks.1 }) bodied)))))

  -- a symbol that stands in a table is bound to its body
  bound_there : (t o : OpPtr) (i : ℕ) → Stands (nodes s) t i o → table_bound (nodes s) o ((op_links (nodes s)).within o) ≡ true
  bound_there t o i z =
      let m = nodes s in
      let b = part_some (block_parent m) ((op_links m).within o) t z.parent in
      ap (table_bound m o) b.is ∙ bound m (named_of m s.named) o i t b.it z.name b.part z.table

  pub op_whole : (op : OpPtr) → NoRow (erase_op_rows (nodes s) op) → OpErased (nodes s) op (model f) → Whole (model f) (mapped g)
  op_whole op free e =
      known (λ l bodied own.
      let m = nodes s in
      let less = less_of block_same (op_links m) op l.ops l.ops_hold (true_from_ne_false ((op_links m).live op) free.0) in
      let holds = e.lists l less.0 less.1 in
      let k : Lists (model f) = record { ops = less.0; blocks = l.blocks; ops_hold = holds.0; blocks_hold = holds.1 } in
      let taken = taken_less block_same (op_links m) op l.ops less.0 less.1 in
      after (node.Operation op) e.ended l k
      (record { was = taken.was; still = λ c y ne. taken.still c y (λ z. ne (ap node.Operation z)) })
      (all_less (λ b. node.BasicBlock b ≡ node.Operation op) l.blocks)
      (λ q. region_op q op)
      (λ b h. block_op b op)
      (λ t o i z same. let is : o ≡ op = cc in free.1.0 (subst (λ (p : OpPtr). table_bound m p ((op_links m).within p) ≡ true) is (bound_there t o i z)))
      bodied own)

  pub block_whole : (block : BlockPtr) → NoRow (erase_block_rows (nodes s) block) → BlockErased (nodes s) block (model f) → Whole (model f) (mapped g)
  block_whole block free e =
      known (λ l bodied own.
      let m = nodes s in
      let less = less_of region_same (block_links m) block l.blocks l.blocks_hold (true_from_ne_false ((block_links m).live block) free.0) in
      let holds = e.lists l less.0 less.1 in
      let k : Lists (model f) = record { ops = l.ops; blocks = less.0; ops_hold = holds.0; blocks_hold = holds.1 } in
      let taken = taken_less region_same (block_links m) block l.blocks less.0 less.1 in
      after (node.BasicBlock block) e.ended l k
      (all_less (λ o. node.Operation o ≡ node.BasicBlock block) l.ops)
      (record { was = taken.was; still = λ c y ne. taken.still c y (λ z. ne (ap node.BasicBlock z)) })
      (λ q. region_block q block)
      (λ b h same. let is : b ≡ block = cc in free.1.0 (subst (λ (c : BlockPtr). is_body m c ≡ true) is h))
      (λ t o i z same. block_op block o (sym same))
      bodied own)

-- A symbol that was taken out of a table is live and stands in no block, so no row refuses to erase it.
pub not_refused : {X : Type 0} (s u : SymbolTables) (t op : OpPtr) → NoRow (remove_rows (nodes s) t op) → Removed s t op u → (e : Refusal) → Uppermost (erase_op_rows (nodes u) op) e → X
not_refused s u t op free r e (inl d) = absurd (free.0 (inr (sym (ap (λ (live : OpPtr → Bool). live op) r.unlinked.removes.live) ∙ d.1)))
not_refused s u t op free r e (inr (l, inl d)) = absurd (none_bound (is_symbol (nodes u) op) (sym (ap (table_bound (nodes u) op) r.unlinked.removes.moves.here) ∙ d.1))
  where
    none_bound : (b : Bool) → (b && false) ≡ true → ⊥
    none_bound true z = clash (sym z)
    none_bound false z = clash (sym z)
not_refused s u t op free r e (inr (l, inr (k, v))) = absurd v

-- what taking out and erasing do together
pub both_done : (s u v : SymbolTables) (t op : OpPtr) → NoRow (remove_rows (nodes s) t op) × Removed s t op u → (r : Result (Unit {0}) Refusal) → ErasesOpIn u op r v → Erases s t op r v
both_done s u v t op a (Ok x) b = (a.0, record { between = u; removed = a.1; erased = b.1 })
both_done s u v t op a (Err e) b = not_refused s u t op a.0 a.1 e b.0
