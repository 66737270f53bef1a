-- Where a store is as a ledger says, it is read so. Assumes nothing.
use Rattle.std.proofs.Common.{◌≡◌, ℕ, Bool, true, false, List, [], ◌∷◌, length, is_some, Decides, Some, None, Ok, Err, Option, Result, sym, refl, ap, ◌∙◌, ⊎_elim}
use Rattle.std.specs.Option.{option_map}
use Rattle.arena.specs.Pools.{live}
use Rattle.arena.specs.Shelves.{item}
use Rattle.linked_list.proofs.Lists.{none_some, some_same}
use Rattle.records.specs.declared.handles.BlockPtr.{BlockPtr}
use Rattle.records.specs.declared.handles.OpPtr.{OpPtr}
use Rattle.records.specs.declared.handles.RegionPtr.{RegionPtr}
use Rattle.records.specs.declared.operation.Operation.{Operation}
use Rattle.records.specs.Models.{operation_at}
use Rattle.records.specs.Nodes.{regions_of}
use Rattle.records.specs.Views.{block_links, op_links}
use Rattle.forest.specs.declared.iter.BlockIter.{BlockIter}
use Rattle.forest.specs.declared.iter.OpIter.{OpIter}
use Rattle.forest.proofs.Listed.{clash, decide}
use Rattle.forest.specs.Iters.{Starts, iter_rows}
use Rattle.forest.specs.Iters.{blocks_in as block_links_of, ops_in as op_links_of}
use Rattle.identifier.specs.Identifiers.{text}
use Rattle.result.specs.declared.refusal.Refusal.{Refusal}
use Rattle.result.specs.declared.refusal.Refusal.TheVariants.{Dangling}
use Rattle.result.specs.Rows.{Answered}
use Rattle.ir.specs.declared.context.Context.{Context}
use Rattle.ir.specs.Calls.{operation_rows, region_nth}
use Rattle.ir.specs.Iterating.{IterBlocksCall, IterOpsCall}
use Rattle.ir.specs.Linkings.{BlockIsLinked, OpIsLinked}
use Rattle.ir.specs.Stores.{name_of, names, nodes}
use Rattle.records.specs.Children.{regions_in as record_regions}
use Rattle.histories.specs.Calls.{Standing}
use Rattle.histories.specs.Ledgers.{Ledger, OpEntry, blocks_in, ops_in}
use Rattle.histories.specs.Represents.{Represents, entry}
use Rattle.histories.specs.Telling.{BlockTold, OpTold, Tells}
use Rattle.histories.proofs.Iterating.{still_to_come}
use Rattle.histories.proofs.Judging.{Alike, answered, judged}
use Rattle.histories.proofs.Nodes as the
use Rattle.histories.proofs.Standing as standing

-- a part of an entry that is one of the record
of_record : {X : Type 0} (held : List (List ℕ)) (f : OpEntry → X) (g : Operation → X) → ((o : Operation) → f (entry held o) ≡ g o) → (o : Option Operation) → option_map f (option_map (entry held) o) ≡ option_map g o
of_record held f g same None = refl
of_record held f g same (Some o) = ap (λ x. Some x) (same o)

-- a part of an operation's regions
of_regions : {X : Type 0} (f : List RegionPtr → X) (o : Option Operation) (x : X) → option_map (λ (z : Operation). f (regions_of z)) o ≡ Some x → x ≡ f (record_regions o)
of_regions f None x e = absurd (none_some e)
of_regions f (Some o) x e = sym (some_same e)

linked_so : {P : Type 0} (b c : Bool) → b ≡ c → (c ≡ true → P) → (P → c ≡ true) → Decides b P
linked_so b c e f g = ((λ t. f (sym e ∙ t)), (λ p. e ∙ g p))

module _ (t : Context) (l : Ledger) (r : Represents t l) where
  op_told : {X : Type 0} (op : OpPtr) (done : X → Context → Type 0) (told : X → Type 0) → ((x : X) → done x t → told x) → (q : Result X Refusal) → Answered (operation_rows t op) done t q t → OpTold l op told t q
  op_told op done told f q h =
      let a : Alike (operation_rows t op) ((Dangling, l.operation op ≡ None) ∷ []) = (refl, the.op_none t l r op, the.none_op t l r op, tt) in
      answered (operation_rows t op) ((Dangling, l.operation op ≡ None) ∷ []) done (λ x u. told x) t q t a f h

  op_said : (op : OpPtr) (q : Result Bool Refusal) → OpIsLinked t op q → OpTold l op (λ b. Decides b (Standing (ops_in l) op)) t q
  op_said op q h =
      let v = op_links (nodes t) in
      let a : Alike ((Dangling, v.live op ≡ false) ∷ []) ((Dangling, l.operation op ≡ None) ∷ []) = (refl, the.dead_op t l r op, the.op_dead t l r op, tt) in
      answered ((Dangling, v.live op ≡ false) ∷ []) ((Dangling, l.operation op ≡ None) ∷ []) (λ x u. x ≡ is_some (v.within op)) (λ b u. Decides b (Standing (ops_in l) op)) t q t a
      (λ b e. linked_so b (is_some (v.within op)) e (standing.stands v l.block r.blocks r.ops_hold (the.loose_op t l r) op) (standing.stood v l.block r.blocks r.ops_hold (the.loose_op t l r) op)) h

  block_said : (block : BlockPtr) (q : Result Bool Refusal) → BlockIsLinked t block q → BlockTold l block (λ b. Decides b (Standing (blocks_in l) block)) t q
  block_said block q h =
      let v = block_links (nodes t) in
      let a : Alike ((Dangling, v.live block ≡ false) ∷ []) ((Dangling, l.block block ≡ None) ∷ []) = (refl, the.dead_block t l r block, the.block_dead t l r block, tt) in
      answered ((Dangling, v.live block ≡ false) ∷ []) ((Dangling, l.block block ≡ None) ∷ []) (λ x u. x ≡ is_some (v.within block)) (λ b u. Decides b (Standing (blocks_in l) block)) t q t a
      (λ b e. linked_so b (is_some (v.within block)) e (standing.stands v l.region r.regions r.blocks_hold (the.loose_block t l r) block) (standing.stood v l.region r.regions r.blocks_hold (the.loose_block t l r) block)) h

  -- what beginning to go through children answers, as any call's answer
  op_iter_answered : (block : BlockPtr) (q : Result OpIter Refusal) → IterOpsCall t block q
      → Answered (iter_rows (op_links (nodes t)) block) (λ (it : OpIter) (u : Context). Starts op_links_of t.tables.forest block it.forest.now it.left) t q t
  op_iter_answered block (Ok it) h = h
  op_iter_answered block (Err e) h = (h, refl)

  block_iter_answered : (region : RegionPtr) (q : Result BlockIter Refusal) → IterBlocksCall t region q
      → Answered (iter_rows (block_links (nodes t)) region) (λ (it : BlockIter) (u : Context). Starts block_links_of t.tables.forest region it.forest.now it.left) t q t
  block_iter_answered region (Ok it) h = h
  block_iter_answered region (Err e) h = (h, refl)

  op_lives : (op : OpPtr) → live (nodes t).operations.pool op.handle ≡ is_some (l.operation op)
  op_lives op =
      ⊎_elim
      (λ (k : live (nodes t).operations.pool op.handle ≡ true).
      k ∙ sym (⊎_elim (λ e. e) (λ (d : is_some (l.operation op) ≡ false). absurd (clash (sym k ∙ the.op_dead t l r op (standing.none_is (l.operation op) d)))) (decide (is_some (l.operation op)))))
      (λ (d : live (nodes t).operations.pool op.handle ≡ false). d ∙ sym (ap is_some (the.dead_op t l r op d)))
      (decide (live (nodes t).operations.pool op.handle))

  pub tells : Tells t l
  tells = record {
    op_lives = op_lives;
    block_lives = λ block. sym (r.blocks block);
    region_lives = λ region. sym (r.regions region);
    parent = λ n p. (the.parent_has t l r n p, the.has_parent t l r n p);
    kind = λ op q h.
        op_told op (λ k u. option_map (λ (o : Operation). o.kind) (operation_at (nodes t) op) ≡ Some k) _
        (λ k e. ap (option_map (λ (x : OpEntry). x.kind)) (r.operations op) ∙ of_record (names t) (λ (x : OpEntry). x.kind) (λ (o : Operation). o.kind) (λ o. refl) (operation_at (nodes t) op) ∙ e) q h;
    name = λ op q h.
        op_told op (λ x u. option_map (name_of (names t)) (operation_at (nodes t) op) ≡ Some (option_map text x)) _
        (λ x e. ap (option_map (λ (y : OpEntry). y.name)) (r.operations op) ∙ of_record (names t) (λ (y : OpEntry). y.name) (name_of (names t)) (λ o. refl) (operation_at (nodes t) op) ∙ e) q h;
    num_regions = λ op q h.
        op_told op (λ n u. option_map (λ (o : Operation). length (regions_of o)) (operation_at (nodes t) op) ≡ Some n) _
        (λ n e. of_regions (λ xs. length xs) (operation_at (nodes t) op) n e ∙ sym (ap (λ xs. length xs) (the.regions_are t l r op))) q h;
    region = λ op i q h.
        op_told op (λ x u. option_map (region_nth i) (operation_at (nodes t) op) ≡ Some x) _
        (λ x e. of_regions (λ xs. item xs i) (operation_at (nodes t) op) x e ∙ sym (ap (λ xs. item xs i) (the.regions_are t l r op))) q h;
    op_linked = op_said;
    block_linked = block_said;
    ops_judged = λ block q h.
        judged (iter_rows (op_links (nodes t)) block) ((Dangling, l.block block ≡ None) ∷ []) (λ (it : OpIter) (u : Context). Starts op_links_of t.tables.forest block it.forest.now it.left) t q t
        (refl, the.dead_block t l r block, the.block_dead t l r block, tt) (op_iter_answered block q h);
    ops = λ block g left front back w. still_to_come op_links_of t.tables.forest block (ops_in l) r.ops_hold g left front back w;
    blocks_judged = λ region q h.
        judged (iter_rows (block_links (nodes t)) region) ((Dangling, l.region region ≡ None) ∷ []) (λ (it : BlockIter) (u : Context). Starts block_links_of t.tables.forest region it.forest.now it.left) t q t
        (refl, the.dead_region t l r region, the.region_dead t l r region, tt) (block_iter_answered region q h);
    blocks = λ region g left front back w. still_to_come block_links_of t.tables.forest region (blocks_in l) r.blocks_hold g left front back w;
  }
