-- What a field does to the store keeps the numbers of live nodes found.
use Rattle.std.proofs.Common.{◌≡◌, ℕ, ◌<◌, ◌≤◌, true, false, Bool, List, [], ◌∷◌, ◌++◌, length, vec_len, Option, MatchOption, Ok, Err, Result, vec_items, slice_get, sym, refl, ap, ◌∙◌, subst, ⊎_elim, append-nil, arith}
use mathlib.Core.HLevel.{is_prop→PathP}
use mathlib.Core.Logic.{∥∥₁_map, ∥∥₁_prop}
use Rattle.std.proofs.lemmas.Bool.{cases_lt}
use Rattle.arena.specs.declared.handle.Handle.{Handle}
use Rattle.arena.specs.Pools.{Pool, next, room, take_place, unused_pool}
use Rattle.arena.proofs.Filling.{long}
use Rattle.arena.proofs.Shelving.{sound_shelf}
use Rattle.records.specs.declared.handles.BlockPtr.{BlockPtr}
use Rattle.records.specs.declared.handles.OpPtr.{OpPtr}
use Rattle.records.specs.declared.handles.RegionPtr.{RegionPtr}
use Rattle.records.specs.declared.making.MadeOperation.{MadeOperation}
use Rattle.records.specs.Makings.{Roomy, blocks_needed, body_of, regions_made, with_block, with_body, with_regions}
use Rattle.records.specs.Models.{Model, next_block, next_op}
use Rattle.records.specs.declared.ir_node.IRNode.{IRNode}
use Rattle.records.specs.declared.ir_node.IRNode.TheVariants as node
use Rattle.records.specs.Children.{is_live}
use Rattle.records.specs.Views.{but_block_links, but_op_links}
use Rattle.ir.specs.declared.context.Context.{Context}
use Rattle.result.specs.declared.refusal.Refusal.{Refusal}
use Rattle.linked_list.specs.declared.spot.Spot.{Spot}
use Rattle.ir.specs.Linkings.{InsertBlockCall, InsertOpCall, UnlinkBlockCall, UnlinkOpCall}
use Rattle.ir.specs.Erasings.{EraseBlockCall, EraseOpCall}
use Rattle.forest.specs.Erasings.{Ended}
use Rattle.ir.specs.Calls.{MakeBlockCall, MakeOperationCall}
use Rattle.ir.specs.Tables.{EraseSymbolCall, InsertSymbolCall, RemoveSymbolCall}
use Rattle.symbol_table.specs.Carried.{nodes as table_nodes}
use Rattle.symbol_table.specs.declared.op_insertion_point.OpInsertionPoint.{OpInsertionPoint}
use Rattle.ir.specs.Stores.{Built, nodes}
use Rattle.forest.proofs.Kept.{unused_dead}
use Rattle.forest.proofs.Listed.{clash}
use Rattle.linked_list.proofs.Lists.{none_some}
use Rattle.script.specs.declared.node.Node.{Node}
use Rattle.script.specs.declared.node.Node.TheVariants.{Operation, Block, Region}
use Rattle.script.specs.declared.numbers.Numbers.{Numbers}
use Rattle.script.specs.declared.state.State.{State}
use Rattle.script.specs.Found.{AllFound, Found}
use Rattle.script.specs.Numbers.{Numbered, latest_from}
use Rattle.script.proofs.Finding.{block_inj, found_regions, found_taken, op_inj}

-- the tables of a store have so many places
pub ops_long : (s : Context) → length (nodes s).operations.pool.slots ≡ 512
ops_long s = sym (long s.tables.forest.records.operations) ∙ s.tables.forest.records.ops

pub blocks_long : (s : Context) → length (nodes s).blocks.pool.slots ≡ 256
blocks_long s = sym (long s.tables.forest.records.blocks) ∙ s.tables.forest.records.blks

pub regions_long : (s : Context) → length (nodes s).regions.pool.slots ≡ 256
regions_long s = sym (long s.tables.forest.records.regions) ∙ s.tables.forest.records.rgns

-- what a list of numbers tells, once it is read
module _ {T : Type 0} (handle : T → Handle) (kind : ℕ → Node) (p : Pool) (a b : Numbers T) (ns ms : List Node) where
  abbrev place : T → ℕ
  place x = (handle x).place

  numbered_found : (new : List T) → Numbered kind place new a b ns ms
      → Found handle p (vec_items a.handles ++ new) (latest_from place (length (vec_items a.handles)) new (vec_items a.latest))
      → Found handle p (vec_items b.handles) (vec_items b.latest)
  numbered_found new n f = subst (λ (l : List ℕ). Found handle p (vec_items b.handles) l) (sym n.latest) (subst (λ (l : List T). Found handle p l (latest_from place (vec_len a.handles) new (vec_items a.latest))) (sym n.items) (subst (λ k. Found handle p (vec_items a.handles ++ new) (latest_from place k new (vec_items a.latest))) (sym a.handles.ok.0) f))

-- the same places of each kind are in use
record SamePlaces (m n : Model) : Type 0 where
  operations_same : m.operations.pool ≡ n.operations.pool
  blocks_same : m.blocks.pool ≡ n.blocks.pool
  regions_same : m.regions.pool ≡ n.regions.pool

op_places : (m n : Model) → but_op_links m ≡ but_op_links n → SamePlaces m n
op_places m n e = record {
  operations_same = ap (λ (l : Model). l.operations.pool) e;
  blocks_same = ap (λ (l : Model). l.blocks.pool) e;
  regions_same = ap (λ (l : Model). l.regions.pool) e;
}

block_places : (m n : Model) → but_block_links m ≡ but_block_links n → SamePlaces m n
block_places m n e = record {
  operations_same = ap (λ (l : Model). l.operations.pool) e;
  blocks_same = ap (λ (l : Model). l.blocks.pool) e;
  regions_same = ap (λ (l : Model). l.regions.pool) e;
}

-- the numbers of live nodes are found among these nodes
abbrev FoundIn : State → Model → Type 0
FoundIn s m = ∥ AllFound m s.operations s.blocks s.regions ∥₁

abbrev FoundAfter : State → Context → Type 0
FoundAfter s t = FoundIn s (nodes t)

same_found : (s : State) (m n : Model) → SamePlaces n m → FoundIn s m → FoundIn s n
same_found s m n e w = ∥∥₁_map w (λ (f : AllFound m s.operations s.blocks s.regions). record {
  operations_found = subst (λ (p : Pool). Found (λ (x : OpPtr). x.handle) p (vec_items s.operations.handles) (vec_items s.operations.latest)) (sym e.operations_same) f.operations_found;
  blocks_found = subst (λ (p : Pool). Found (λ (x : BlockPtr). x.handle) p (vec_items s.blocks.handles) (vec_items s.blocks.latest)) (sym e.blocks_same) f.blocks_found;
  regions_found = subst (λ (p : Pool). Found (λ (x : RegionPtr). x.handle) p (vec_items s.regions.handles) (vec_items s.regions.latest)) (sym e.regions_same) f.regions_found;
})

found_same : (s : State) (t : Context) → SamePlaces (nodes t) (nodes s.context) → FoundAfter s t
found_same s t e = same_found s (nodes s.context) (nodes t) e s.found

-- a call that is refused leaves the store as it was
pub found_refused : (s : State) (t : Context) → t ≡ s.context → FoundAfter s t
found_refused s t e = subst (λ (u : Context). ∥ AllFound (nodes u) s.operations s.blocks s.regions ∥₁) (sym e) s.found

-- linking and unlinking free and take no places
pub found_op_inserted : (s : State) (op : OpPtr) (spot : Spot OpPtr BlockPtr) (r : Result (Unit {0}) Refusal) (t : Context) → InsertOpCall s.context op spot r t → FoundAfter s t
found_op_inserted s op spot (Ok x) t h = found_same s t (op_places _ _ h.1.linked.rests)
found_op_inserted s op spot (Err e) t h = found_refused s t h.1

pub found_block_inserted : (s : State) (block : BlockPtr) (spot : Spot BlockPtr RegionPtr) (r : Result (Unit {0}) Refusal) (t : Context) → InsertBlockCall s.context block spot r t → FoundAfter s t
found_block_inserted s block spot (Ok x) t h = found_same s t (block_places _ _ h.1.linked.rests)
found_block_inserted s block spot (Err e) t h = found_refused s t h.1

pub found_op_taken : (s : State) (op : OpPtr) (r : Result (Unit {0}) Refusal) (t : Context) → UnlinkOpCall s.context op r t → FoundAfter s t
found_op_taken s op (Ok x) t h = found_same s t (op_places _ _ h.1.unlinked.rests)
found_op_taken s op (Err e) t h = found_refused s t h.1

pub found_block_taken : (s : State) (block : BlockPtr) (r : Result (Unit {0}) Refusal) (t : Context) → UnlinkBlockCall s.context block r t → FoundAfter s t
found_block_taken s block (Ok x) t h = found_same s t (block_places _ _ h.1.unlinked.rests)
found_block_taken s block (Err e) t h = found_refused s t h.1

-- putting a symbol into a table and taking it out link and unlink an operation
pub found_symbol_inserted : (s : State) (table op : OpPtr) (point : Option OpInsertionPoint) (r : Result (Unit {0}) Refusal) (t : Context) → InsertSymbolCall s.context table op point r t → FoundAfter s t
found_symbol_inserted s table op point (Ok x) t h = found_same s t (op_places _ _ h.1.inserted.linked.rests)
found_symbol_inserted s table op point (Err e) t h = found_refused s t h.1

pub found_symbol_removed : (s : State) (table op : OpPtr) (r : Result (Unit {0}) Refusal) (t : Context) → RemoveSymbolCall s.context table op r t → FoundAfter s t
found_symbol_removed s table op (Ok x) t h = found_same s t (op_places _ _ h.1.removed.unlinked.rests)
found_symbol_removed s table op (Err e) t h = found_refused s t h.1

-- erasing makes nothing live: what lies below the erased node is gone, and all else stays as live as it was
ended_found : (s : State) (m k : Model) (n : IRNode) → Ended m n k → FoundIn s m → FoundIn s k
ended_found s m k n h w = ∥∥₁_map w (λ (f : AllFound m s.operations s.blocks s.regions). record {
  operations_found = record { finds = λ x e. f.operations_found.finds x (was (node.Operation x) e); last = f.operations_found.last };
  blocks_found = record { finds = λ x e. f.blocks_found.finds x (was (node.BasicBlock x) e); last = f.blocks_found.last };
  regions_found = record { finds = λ x e. f.regions_found.finds x (was (node.Region x) e); last = f.regions_found.last };
})
  where
    was : (x : IRNode) → is_live k x ≡ true → is_live m x ≡ true
    was x e = sym (h.stays x (λ w. clash (sym e ∙ h.gone x w))) ∙ e

found_ended : (s : State) (t : Context) (n : IRNode) → Ended (nodes s.context) n (nodes t) → FoundAfter s t
found_ended s t n h = ended_found s (nodes s.context) (nodes t) n h s.found

-- erasing a symbol out of a table takes it out first
pub found_symbol_erased : (s : State) (table op : OpPtr) (r : Result (Unit {0}) Refusal) (t : Context) → EraseSymbolCall s.context table op r t → FoundAfter s t
found_symbol_erased s table op (Ok x) t h =
    let e = h.1.erased in
    let between = table_nodes e.between in
    ended_found s between (nodes t) (node.Operation op) e.erased.erased.ended (same_found s (nodes s.context) between (op_places _ _ e.removed.unlinked.rests) s.found)
found_symbol_erased s table op (Err e) t h = found_refused s t h.1

pub found_op_erased : (s : State) (op : OpPtr) (r : Result (Unit {0}) Refusal) (t : Context) → EraseOpCall s.context op r t → FoundAfter s t
found_op_erased s op (Ok x) t h = found_ended s t (node.Operation op) h.1.erased.erased.ended
found_op_erased s op (Err e) t h = found_refused s t h.1

pub found_block_erased : (s : State) (block : BlockPtr) (r : Result (Unit {0}) Refusal) (t : Context) → EraseBlockCall s.context block r t → FoundAfter s t
found_block_erased s block (Ok x) t h = found_ended s t (node.BasicBlock block) h.1.erased.erased.ended
found_block_erased s block (Err e) t h = found_refused s t h.1

-- a block that was made is found once it has a number
pub found_block : (s : State) (made : BlockPtr) (t : Context) (b : Numbers BlockPtr) (new : List BlockPtr) (ns ms : List Node) → MakeBlockCall s.context (Ok made) t → new ≡ made ∷ []
    → Numbered Block (λ p. p.handle.place) new s.blocks b ns ms → ∥ AllFound (nodes t) s.operations b s.regions ∥₁
found_block s made t b new ns ms h e n =
    let m = nodes s.context in
    let few = blocks_long s.context in
    let all = sym s.blocks.latest.ok.0 ∙ s.blocks.each_place in
    let sound = sound_shelf s.context.tables.forest.records.blocks in
    let free : 0 < room m.blocks.pool = ⊎_elim (λ (lt : 0 < room m.blocks.pool). lt) (λ (ge : room m.blocks.pool ≤ 0). absurd (h.0.0 (omega arith))) (cases_lt 0 (room m.blocks.pool)) in
    let is : made.handle ≡ next m.blocks.pool = ap (λ (p : BlockPtr). p.handle) h.1.made.answer in
    ∥∥₁_map s.found (λ (f : AllFound m s.operations s.blocks s.regions).
    let after : nodes t ≡ with_block m = h.1.made.after in
    let k = found_taken (λ (p : BlockPtr). p.handle) block_inj m.blocks.pool (vec_items s.blocks.handles) (vec_items s.blocks.latest) made sound free (omega arith) all is f.blocks_found in
    subst (λ (l : Model). AllFound l s.operations b s.regions) (sym after)
    (record {
      operations_found = f.operations_found;
      blocks_found = numbered_found (λ (p : BlockPtr). p.handle) Block (take_place m.blocks.pool) s.blocks b ns ms (made ∷ []) (subst (λ (l : List BlockPtr). Numbered Block (λ p. p.handle.place) l s.blocks b ns ms) e n) k;
      regions_found = f.regions_found;
    }))

-- where nothing was made there is nothing to find
none_found : {T : Type 0} (handle : T → Handle) (p : Pool) (n : ℕ) (hs : List T) (ls : List ℕ) → p ≡ unused_pool n → hs ≡ [] → Found handle p hs ls
none_found handle p n hs ls e none = record {
  finds = λ x h. absurd (clash (sym h ∙ unused_dead p n (handle x) e));
  last = λ k x h lt. absurd (none_some (ap (λ l. slice_get l k) (sym none) ∙ h));
}

pub found_none : (t : Context) (a : Numbers OpPtr) (b : Numbers BlockPtr) (c : Numbers RegionPtr) → Built t → vec_items a.handles ≡ [] → vec_items b.handles ≡ [] → vec_items c.handles ≡ [] → ∥ AllFound (nodes t) a b c ∥₁
found_none t a b c built o p q = ∣ (record {
  operations_found = none_found (λ (x : OpPtr). x.handle) (nodes t).operations.pool 512 (vec_items a.handles) (vec_items a.latest) built.fresh.operations o;
  blocks_found = none_found (λ (x : BlockPtr). x.handle) (nodes t).blocks.pool 256 (vec_items b.handles) (vec_items b.latest) built.fresh.blocks p;
  regions_found = none_found (λ (x : RegionPtr). x.handle) (nodes t).regions.pool 256 (vec_items c.handles) (vec_items c.latest) built.fresh.regions q;
}) ∣₁

-- what a making's rows leave of the records
module _ (s : State) (kind regs : ℕ) (name : List ℕ) (made : MadeOperation) (t : Context) (h : MakeOperationCall s.context kind regs name (Ok made) t) where
  abbrev m : Model
  m = nodes s.context

  enough : (n k : ℕ) → (Roomy h.1.is regs m → n ≤ k) → n ≤ k
  enough n k f =
      ⊎_elim (λ (lt : k < n). absurd (h.0.1.1.1.1.0 (record { is = h.1.is; sum = h.1.sum; lack = λ r. let z = f r in omega arith }))) (λ (ge : n ≤ k). ge) (cases_lt k n)

  op_found : (a : Numbers OpPtr) (ns ms : List Node) → Numbered Operation (λ p. p.handle.place) (made.operation ∷ []) s.operations a ns ms → Found (λ (p : OpPtr). p.handle) m.operations.pool (vec_items s.operations.handles) (vec_items s.operations.latest)
      → Found (λ (p : OpPtr). p.handle) (take_place m.operations.pool) (vec_items a.handles) (vec_items a.latest)
  op_found a ns ms n f =
      let few = ops_long s.context in
      let free = enough 1 (room m.operations.pool) (λ r. r.operations) in
      numbered_found (λ (p : OpPtr). p.handle) Operation (take_place m.operations.pool) s.operations a ns ms (made.operation ∷ []) n
      (found_taken (λ (p : OpPtr). p.handle) op_inj m.operations.pool (vec_items s.operations.handles) (vec_items s.operations.latest) made.operation (sound_shelf s.context.tables.forest.records.operations) (omega arith) (omega arith) (sym s.operations.latest.ok.0 ∙ s.operations.each_place)
      (ap (λ (r : MadeOperation). r.operation.handle) h.1.answer) f)

  body_found : (table : Bool) → made.body ≡ body_of table m → blocks_needed table ≤ room m.blocks.pool → (a : Numbers BlockPtr) (new : List BlockPtr) (ns ms : List Node) → MatchOption made.body (new ≡ []) (λ b. new ≡ b ∷ [])
      → Numbered Block (λ p. p.handle.place) new s.blocks a ns ms → Found (λ (p : BlockPtr). p.handle) m.blocks.pool (vec_items s.blocks.handles) (vec_items s.blocks.latest)
      → Found (λ (p : BlockPtr). p.handle) (with_body table m).pool (vec_items a.handles) (vec_items a.latest)
  body_found true e free a new ns ms is n f =
      let few = blocks_long s.context in
      let new_is : new ≡ next_block m ∷ [] = subst (λ (o : Option BlockPtr). MatchOption o (new ≡ []) (λ b. new ≡ b ∷ [])) e is in
      numbered_found (λ (p : BlockPtr). p.handle) Block (take_place m.blocks.pool) s.blocks a ns ms (next_block m ∷ []) (subst (λ (l : List BlockPtr). Numbered Block (λ p. p.handle.place) l s.blocks a ns ms) new_is n)
      (found_taken (λ (p : BlockPtr). p.handle) block_inj m.blocks.pool (vec_items s.blocks.handles) (vec_items s.blocks.latest) (next_block m) (sound_shelf s.context.tables.forest.records.blocks) (omega arith) (omega arith) (sym s.blocks.latest.ok.0 ∙ s.blocks.each_place) refl f)
  body_found false e free a new ns ms is n f =
      let new_is : new ≡ [] = subst (λ (o : Option BlockPtr). MatchOption o (new ≡ []) (λ b. new ≡ b ∷ [])) e is in
      numbered_found (λ (p : BlockPtr). p.handle) Block m.blocks.pool s.blocks a ns ms [] (subst (λ (l : List BlockPtr). Numbered Block (λ p. p.handle.place) l s.blocks a ns ms) new_is n)
      (subst (λ (l : List BlockPtr). Found (λ (p : BlockPtr). p.handle) m.blocks.pool l (vec_items s.blocks.latest)) (sym (append-nil (vec_items s.blocks.handles))) f)

  own_found : (a : Numbers RegionPtr) (own : List RegionPtr) (ns ms : List Node) → own ≡ made.regions → Numbered Region (λ p. p.handle.place) own s.regions a ns ms
      → Found (λ (p : RegionPtr). p.handle) m.regions.pool (vec_items s.regions.handles) (vec_items s.regions.latest)
      → Found (λ (p : RegionPtr). p.handle) (with_regions (next_op m) (body_of h.1.is.table m) regs m.regions).pool (vec_items a.handles) (vec_items a.latest)
  own_found a own ns ms e n f =
      let few = regions_long s.context in
      let new_is = e ∙ ap (λ (r : MadeOperation). r.regions) h.1.answer in
      numbered_found (λ (p : RegionPtr). p.handle) Region (with_regions (next_op m) (body_of h.1.is.table m) regs m.regions).pool s.regions a ns ms (regions_made h.1.is regs m) (subst (λ (l : List RegionPtr). Numbered Region (λ p. p.handle.place) l s.regions a ns ms) new_is n)
      (found_regions (next_op m) (body_of h.1.is.table m) m.regions (sound_shelf s.context.tables.forest.records.regions) (omega arith) (vec_items s.regions.handles) (vec_items s.regions.latest) (sym s.regions.latest.ok.0 ∙ s.regions.each_place) f regs (enough regs (room m.regions.pool) (λ r. r.regions)))

  -- all that was made is found once it has its numbers
  pub found_operation : (a : Numbers OpPtr) (b : Numbers BlockPtr) (c : Numbers RegionPtr) (own : List RegionPtr) (body : List BlockPtr) (ks ls ms ns : List Node)
      → Numbered Operation (λ p. p.handle.place) (made.operation ∷ []) s.operations a ks ls → own ≡ made.regions → Numbered Region (λ p. p.handle.place) own s.regions c ls ms
      → MatchOption made.body (body ≡ []) (λ b. body ≡ b ∷ []) → Numbered Block (λ p. p.handle.place) body s.blocks b ms ns → ∥ AllFound (nodes t) a b c ∥₁
  found_operation a b c own body ks ls ms ns o e r is k =
      ∥∥₁_map s.found (λ (f : AllFound m s.operations s.blocks s.regions).
      subst (λ (l : Model). AllFound l a b c) (sym h.1.after)
      (record {
        operations_found = op_found a ks ls o f.operations_found;
        blocks_found = body_found h.1.is.table (ap (λ (x : MadeOperation). x.body) h.1.answer) (enough (blocks_needed h.1.is.table) (room m.blocks.pool) (λ y. y.blocks)) b body ms ns is k f.blocks_found;
        regions_found = own_found c own ls ms e r f.regions_found;
      }))

-- sessions with the same fields are the same
pub same_session : (t s : State) → t.context ≡ s.context → t.operations ≡ s.operations → t.blocks ≡ s.blocks → t.regions ≡ s.regions → t ≡ s
same_session t s c o b r = λ i. record {
  context = c i;
  operations = o i;
  blocks = b i;
  regions = r i;
  found = is_prop→PathP (λ j. ∥ AllFound (nodes (c j)) (o j) (b j) (r j) ∥₁) (λ j. ∥∥₁_prop) t.found s.found i;
}
