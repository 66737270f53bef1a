-- Where a store is as a ledger says, the ledger's nodes stand as the store's do. Assumes nothing.
use Rattle.std.proofs.Common.{◌≡◌, ℕ, Bool, true, false, cond, ◌⊎◌, List, [], map, is_some, Some, None, Option, sym, refl, ap, ◌∙◌, subst, ⊎_elim}
use mathlib.Core.Logic.{∥∥₁_elim, ∥∥₁_map}
use mathlib.Core.Path.{fun_ext}
use Rattle.std.specs.Option.{option_map}
use Rattle.arena.specs.Pools.{live}
use Rattle.arena.proofs.Shelving.{at_dead}
use Rattle.linked_list.specs.Links.{Holds, In}
use Rattle.linked_list.proofs.Lists.{none_some, some_same}
use Rattle.trees.specs.Climbs.{Within, self, below}
use Rattle.trees.proofs.Climbing.{option_set}
use Rattle.records.specs.declared.basic_block.BasicBlock.{BasicBlock}
use Rattle.records.specs.declared.handles.BlockPtr.{BlockPtr}
use Rattle.records.specs.declared.handles.OpPtr.{OpPtr}
use Rattle.records.specs.declared.handles.RegionPtr.{RegionPtr}
use Rattle.records.specs.declared.ir_node.IRNode.{IRNode}
use Rattle.records.specs.declared.ir_node.IRNode.TheVariants as node
use Rattle.records.specs.declared.operation.Operation.{Operation}
use Rattle.records.specs.Models.{Model, operation_at}
use Rattle.records.specs.Nodes.{Owned, is, is_body, is_symbol, is_table, of_table, owner, parent}
use Rattle.records.specs.Views.{block_links, op_links, part}
use Rattle.records.specs.Writes.{op_same, region_same}
use Rattle.forest.proofs.Listed.{clash, decide}
use Rattle.ir.specs.declared.context.Context.{Context}
use Rattle.ir.specs.Stores.{names, nodes}
use Rattle.ir.proofs.Dangling.{names_none}
use Rattle.walkers.specs.declared.config.WalkConfig.{WalkConfig}
use Rattle.walkers.specs.Children.{directed}
use Rattle.records.specs.Children.{Lists, is_live}
use Rattle.records.specs.Children.{children as store_children, regions_in as record_regions}
use Rattle.walkers.specs.Configs.{as_parent}
use Rattle.walkers.specs.Links.{region_links}
use Rattle.walkers.proofs.Chains.{in_map, map_in}
use Rattle.walkers.proofs.Regions.{regions_hold}
use Rattle.histories.specs.Ledgers.{Below, itself, child, Body, Gone, Ledger, OfTable, OpEntry, blocks_in, children, directed_children, listed, listed_regions, ops_in, regions_in}
use Rattle.histories.specs.Ledgers.{is_symbol as symbol_in, is_table as table_in}
use Rattle.histories.specs.Represents.{Represents, entry}
use Rattle.histories.proofs.Standing as standing

unmapped : {A B : Type 0} (f : A → B) (o : Option A) → option_map f o ≡ None → o ≡ None
unmapped f None e = refl
unmapped f (Some x) e = absurd (none_some (sym e))

mapped_some : {A B : Type 0} (f : A → B) (o : Option A) (y : B) → option_map f o ≡ Some y → (x : A) × (o ≡ Some x) × (f x ≡ y)
mapped_some f None y e = absurd (none_some e)
mapped_some f (Some x) y e = (x, refl, some_same e)

-- a list that is known to have a node has it
in_out : {X : Type 0} → ((a b : X) → (a ≡ b) ⊎ (a ≡ b → ⊥)) → (x : X) (xs : List X) → ∥ In x xs ∥₁ → In x xs
in_out same x xs t =
    ⊎_elim (λ i. i) (λ out. absurd (∥∥₁_elim t (λ a b. absurd a) (λ i. out i))) (standing.in_or_not same x xs)

pub op_entry : (held : List (List ℕ)) (f : OpEntry → Bool) (g : Operation → Bool) → ((o : Operation) → f (entry held o) ≡ g o) → (o : Option Operation) → is f (option_map (entry held) o) ≡ is g o
op_entry held f g same None = refl
op_entry held f g same (Some o) = same o

of_entry : (held : List (List ℕ)) (o : Option Operation) → listed_regions (option_map (entry held) o) ≡ record_regions o
of_entry held None = refl
of_entry held (Some o) = refl

module _ (s : Context) (l : Ledger) (r : Represents s l) where
  abbrev m : Model
  m = nodes s

  -- Which nodes are live.

  pub dead_op : (op : OpPtr) → live m.operations.pool op.handle ≡ false → l.operation op ≡ None
  dead_op op d = r.operations op ∙ ap (option_map (entry (names s))) (at_dead m.operations op.handle d)

  pub none_op : (op : OpPtr) → l.operation op ≡ None → operation_at m op ≡ None
  none_op op e = unmapped (entry (names s)) (operation_at m op) (sym (r.operations op) ∙ e)

  pub op_none : (op : OpPtr) → operation_at m op ≡ None → l.operation op ≡ None
  op_none op e = r.operations op ∙ ap (option_map (entry (names s))) e

  pub op_dead : (op : OpPtr) → l.operation op ≡ None → live m.operations.pool op.handle ≡ false
  op_dead op e = names_none s.tables.forest.records.operations op.handle (none_op op e)

  pub dead_block : (b : BlockPtr) → live m.blocks.pool b.handle ≡ false → l.block b ≡ None
  dead_block b d = standing.none_is (l.block b) (r.blocks b ∙ d)

  pub block_dead : (b : BlockPtr) → l.block b ≡ None → live m.blocks.pool b.handle ≡ false
  block_dead b e = sym (r.blocks b) ∙ ap is_some e

  pub dead_region : (x : RegionPtr) → live m.regions.pool x.handle ≡ false → l.region x ≡ None
  dead_region x d = standing.none_is (l.region x) (r.regions x ∙ d)

  pub region_dead : (x : RegionPtr) → l.region x ≡ None → live m.regions.pool x.handle ≡ false
  region_dead x e = sym (r.regions x) ∙ ap is_some e

  pub dead_gone : (n : IRNode) → is_live m n ≡ false → Gone l n
  dead_gone (node.Operation op) d = dead_op op d
  dead_gone (node.BasicBlock b) d = dead_block b d
  dead_gone (node.Region x) d = dead_region x d

  pub gone_dead : (n : IRNode) → Gone l n → is_live m n ≡ false
  gone_dead (node.Operation op) d = op_dead op d
  gone_dead (node.BasicBlock b) d = block_dead b d
  gone_dead (node.Region x) d = region_dead x d

  pub loose_op : (op : OpPtr) → (op_links m).live op ≡ false → (op_links m).within op ≡ None
  loose_op op d = ap (part (λ (o : Operation). o.container)) (at_dead m.operations op.handle d)

  pub loose_block : (b : BlockPtr) → (block_links m).live b ≡ false → (block_links m).within b ≡ None
  loose_block b d = ap (part (λ (x : BasicBlock). x.container)) (at_dead m.blocks b.handle d)

  -- In which node each stands.

  pub op_in_block : (op : OpPtr) (b : BlockPtr) → In op (ops_in l b) → (op_links m).within op ≡ Some b
  op_in_block = standing.in_within (op_links m) l.block r.blocks r.ops_hold loose_op

  pub block_has_op : (op : OpPtr) (b : BlockPtr) → (op_links m).within op ≡ Some b → In op (ops_in l b)
  block_has_op = standing.within_in (op_links m) l.block r.blocks r.ops_hold loose_op

  pub block_in_region : (b : BlockPtr) (x : RegionPtr) → In b (blocks_in l x) → (block_links m).within b ≡ Some x
  block_in_region = standing.in_within (block_links m) l.region r.regions r.blocks_hold loose_block

  pub region_has_block : (b : BlockPtr) (x : RegionPtr) → (block_links m).within b ≡ Some x → In b (blocks_in l x)
  region_has_block = standing.within_in (block_links m) l.region r.regions r.blocks_hold loose_block

  -- the regions of an operation are those of its record
  pub regions_are : (op : OpPtr) → regions_in l op ≡ record_regions (operation_at m op)
  regions_are op = ap listed_regions (r.operations op) ∙ of_entry (names s) (operation_at m op)

  held_regions : (op : OpPtr) → is_some (option_map record_regions (option_map Some (operation_at m op))) ≡ (region_links m).held op
  held_regions op =
      ⊎_elim
      (λ (t : live m.operations.pool op.handle ≡ true).
      let w = some_record op t in ap (λ (o : Option Operation). is_some (option_map record_regions (option_map Some o))) w.1 ∙ sym t)
      (λ (d : live m.operations.pool op.handle ≡ false).
      ap (λ (o : Option Operation). is_some (option_map record_regions (option_map Some o))) (at_dead m.operations op.handle d) ∙ sym d)
      (decide (live m.operations.pool op.handle))
    where
      some_record : (p : OpPtr) → live m.operations.pool p.handle ≡ true → (o : Operation) × (operation_at m p ≡ Some o)
      some_record p t =
          ⊎_elim
          (λ h. standing.some_is (operation_at m p) h)
          (λ h. absurd (clash (sym t ∙ names_none s.tables.forest.records.operations p.handle (standing.none_is (operation_at m p) h))))
          (decide (is_some (operation_at m p)))

  abbrev region_lists : OpPtr → Option (List RegionPtr)
  region_lists op = option_map record_regions (option_map Some (operation_at m op))

  lists_are : (o : Option Operation) → listed (option_map record_regions (option_map Some o)) ≡ record_regions o
  lists_are None = refl
  lists_are (Some o) = refl

  loose_region : (x : RegionPtr) → (region_links m).live x ≡ false → (region_links m).within x ≡ None
  loose_region x d = ap (option_map (λ z. z.parent_op)) (at_dead m.regions x.handle d)

  regions_held : Owned m → Holds (region_links m) (λ op. listed (region_lists op))
  regions_held w =
      subst (λ (L : OpPtr → List RegionPtr). Holds (region_links m) L) (fun_ext (λ op. sym (lists_are (operation_at m op)))) (regions_hold m w)

  lists_in : (op : OpPtr) → listed (region_lists op) ≡ regions_in l op
  lists_in op = lists_are (operation_at m op) ∙ sym (regions_are op)

  pub region_in_op : (x : RegionPtr) (op : OpPtr) → In x (regions_in l op) → owner m x ≡ Some op
  region_in_op x op i =
      ∥∥₁_elim s.tables.forest.owned (option_set op_same (owner m x) (Some op)) (λ (w : Owned m).
      standing.in_within (region_links m) region_lists held_regions (regions_held w) loose_region x op (subst (In x) (sym (lists_in op)) i))

  pub op_has_region : (x : RegionPtr) (op : OpPtr) → owner m x ≡ Some op → In x (regions_in l op)
  op_has_region x op e =
      in_out region_same x (regions_in l op)
      (∥∥₁_map s.tables.forest.owned (λ (w : Owned m).
      subst (In x) (lists_in op) (standing.within_in (region_links m) region_lists held_regions (regions_held w) loose_region x op e)))

  -- a node's parent is the node that it is a child of
  pub parent_has : (n p : IRNode) → parent m n ≡ Some p → In n (children l p)
  parent_has (node.Operation op) p e =
      let w = mapped_some node.BasicBlock ((op_links m).within op) p e in
      subst (λ (q : IRNode). In (node.Operation op) (children l q)) w.2 (map_in node.Operation op (ops_in l w.0) (block_has_op op w.0 w.1))
  parent_has (node.BasicBlock b) p e =
      let w = mapped_some node.Region ((block_links m).within b) p e in
      subst (λ (q : IRNode). In (node.BasicBlock b) (children l q)) w.2 (map_in node.BasicBlock b (blocks_in l w.0) (region_has_block b w.0 w.1))
  parent_has (node.Region x) p e =
      let w = mapped_some node.Operation (owner m x) p e in
      subst (λ (q : IRNode). In (node.Region x) (children l q)) w.2 (map_in node.Region x (regions_in l w.0) (op_has_region x w.0 w.1))

  pub has_parent : (n p : IRNode) → In n (children l p) → parent m n ≡ Some p
  has_parent n (node.Operation op) i =
      let w = in_map node.Region n (regions_in l op) i in ap (parent m) w.1 ∙ ap (option_map node.Operation) (region_in_op w.0 op w.2)
  has_parent n (node.BasicBlock b) i =
      let w = in_map node.Operation n (ops_in l b) i in ap (parent m) w.1 ∙ ap (option_map node.BasicBlock) (op_in_block w.0 b w.2)
  has_parent n (node.Region x) i =
      let w = in_map node.BasicBlock n (blocks_in l x) i in ap (parent m) w.1 ∙ ap (option_map node.Region) (block_in_region w.0 x w.2)

  -- what lies within a node lies below it
  pub within_below : {n x : IRNode} → Within (parent m) n x → Below (children l) n x
  within_below {n} (self e) = subst (Below (children l) n) (sym e) itself
  within_below {n} {x} (below k e w) = child (within_below w) (parent_has x k e)

  pub below_within : {n x : IRNode} → Below (children l) n x → Within (parent m) n x
  below_within itself = self refl
  below_within {n} {x} (child {c} w i) = below c (has_parent x c i) (below_within w)

  -- Kinds.

  pub table_is : (op : OpPtr) → table_in l op ≡ is_table m op
  table_is op =
      ap (is (λ (e : OpEntry). e.kind.table)) (r.operations op)
      ∙ op_entry (names s) (λ (e : OpEntry). e.kind.table) (λ (o : Operation). o.kind.table) (λ o. refl) (operation_at m op)

  pub symbol_is : (op : OpPtr) → symbol_in l op ≡ is_symbol m op
  symbol_is op =
      ap (is (λ (e : OpEntry). e.kind.symbol)) (r.operations op)
      ∙ op_entry (names s) (λ (e : OpEntry). e.kind.symbol) (λ (o : Operation). o.kind.symbol) (λ o. refl) (operation_at m op)

  pub to_of_table : (x : RegionPtr) → of_table m x ≡ true → OfTable l x
  to_of_table x e = let w = standing.is_there (is_table m) (owner m x) e in (w.0, op_has_region x w.0 w.1, table_is w.0 ∙ w.2)

  pub from_of_table : (x : RegionPtr) → OfTable l x → of_table m x ≡ true
  from_of_table x w = standing.there_is (is_table m) (owner m x) w.0 (region_in_op x w.0 w.1) (sym (table_is w.0) ∙ w.2)

  pub to_body : (b : BlockPtr) → is_body m b ≡ true → Body l b
  to_body b e = let w = standing.is_there (of_table m) ((block_links m).within b) e in (w.0, region_has_block b w.0 w.1, to_of_table w.0 w.2)

  pub from_body : (b : BlockPtr) → Body l b → is_body m b ≡ true
  from_body b w = standing.there_is (of_table m) ((block_links m).within b) w.0 (block_in_region b w.0 w.1) (from_of_table w.0 w.2)

  -- The children of a node are those that the store's lists give.

  pub lists : Lists m
  lists = record { ops = ops_in l; blocks = blocks_in l; ops_hold = r.ops_hold; blocks_hold = r.blocks_hold }

  there : (b : Bool) (o : Option (List OpPtr)) → is_some o ≡ b → cond b (map node.Operation (listed o)) [] ≡ map node.Operation (listed o)
  there true o e = refl
  there false o e = sym (ap (λ (z : Option (List OpPtr)). map node.Operation (listed z)) (standing.none_is o e))

  there_too : (b : Bool) (o : Option (List BlockPtr)) → is_some o ≡ b → cond b (map node.BasicBlock (listed o)) [] ≡ map node.BasicBlock (listed o)
  there_too true o e = refl
  there_too false o e = sym (ap (λ (z : Option (List BlockPtr)). map node.BasicBlock (listed z)) (standing.none_is o e))

  children_are : (n : IRNode) → store_children m lists n ≡ children l n
  unfolding lists
  children_are (node.Operation op) = sym (ap (map node.Region) (regions_are op))
  children_are (node.BasicBlock b) = there (live m.blocks.pool b.handle) (l.block b) (r.blocks b)
  children_are (node.Region x) = there_too (live m.regions.pool x.handle) (l.region x) (r.regions x)

  pub directed_are : (k : WalkConfig) → Rattle.walkers.specs.Children.directed_children k m lists ≡ directed_children k l
  directed_are k = fun_ext (λ n. ap (directed (as_parent k n).1) (children_are n))
