-- The example trees stand where calls built them. Assumes nothing.
use Rattle.std.proofs.Common.{◌≡◌, ℕ, ◌<◌, ◌≤◌, Bool, true, false, cond, if◌then◌else◌, List, [], ◌∷◌, ◌++◌, length, map, Some, None, Option, sym, refl, ap, ◌∙◌, subst}
use Rattle.std.specs.Prelude.{codes}
use Rattle.std.specs.Option.{option_map}
use Rattle.arena.specs.Pools.{live, next, room}
use Rattle.arena.specs.Shelves.{Shelf, at, item}
use Rattle.arena.specs.declared.handle.Handle.{Handle}
use Rattle.arena.proofs.Shelving.{at_none, enter_only, next_dead}
use Rattle.linked_list.specs.declared.spot.Spot.TheVariants.{AtBack, Before}
use Rattle.linked_list.specs.Edits.{Inserts}
use Rattle.linked_list.specs.Links.{Holds, View, first_or, last_or}
use Rattle.linked_list.proofs.Lists.{none_some, some_same}
use Rattle.result.specs.Rows.{NoRow}
use Rattle.records.specs.declared.basic_block.BasicBlock.{BasicBlock}
use Rattle.records.specs.declared.handles.BlockPtr.{BlockPtr}
use Rattle.records.specs.declared.handles.OpPtr.{OpPtr}
use Rattle.records.specs.declared.handles.RegionPtr.{RegionPtr}
use Rattle.records.specs.declared.ir_node.IRNode.TheVariants as node
use Rattle.records.specs.declared.kind.Kind.{Kind}
use Rattle.records.specs.declared.making.MadeOperation.{MadeOperation}
use Rattle.records.specs.declared.operation.Operation.{Operation}
use Rattle.records.specs.declared.region.Region.{Region}
use Rattle.records.specs.Children.{Lists, children, regions_in}
use Rattle.records.specs.Makings.{AllKept, Keeps, blocks_needed, body_of, new_block, new_region, region_ptrs, regions_made, with_body, with_regions}
use Rattle.records.specs.Models.{Model, block_at, next_block, next_op, next_region, operation_at, region_at}
use Rattle.records.specs.Nodes.{is as is_so, is_table, regions_of}
use Rattle.records.specs.Views.{block_links, loose_op, op_links, part}
use Rattle.records.specs.Writes.{block_same, op_same, region_same}
use Rattle.records.proofs.Rests.{block_edit_links, op_edit_links, same_mapped}
use Rattle.records.proofs.Sums.{one_kind}
use Rattle.forest.proofs.Kept.{bodies, block_blocks_hold, block_ops_hold, made_blocks_hold, made_ops_hold}
use Rattle.forest.proofs.Listed.{clash, with_lists}
use Rattle.forest.proofs.Owning.{named_live}
use Rattle.symbol_table.specs.Bodies.{is_terminator}
use Rattle.symbol_table.specs.Points.{end_before, end_spot}
use Rattle.symbol_table.proofs.Faces.{block_edit_faces, op_edit_faces, same_regions}
use Rattle.symbol_table.proofs.Owned.{has_one_body}
use Rattle.ir.specs.declared.context.Context.{Context}
use Rattle.ir.specs.Calls.{NewBlock, OperationMade, make_operation_rows}
use Rattle.ir.specs.Linkings.{BlockInserted, OpInserted}
use Rattle.ir.specs.Stores.{nodes}
use Rattle.ir.specs.Tables.{SymbolInserted}
use Rattle.edges.specs.Built.{NestedBuilt, TwoBlocksBuilt}
use Rattle.edges.specs.Examples.{Nested, TwoBlocks}
use Rattle.edges.proofs.Lists.{Listing, apart, empty, first_node, listing_before, listing_beside, listing_kept, listing_other, listing_put}
use Rattle.edges.proofs.Makings.{is_there, places_of, roomy}

-- the operations of a block, the blocks of a region and the regions of an operation
abbrev Ops : Context → BlockPtr → List OpPtr → Type 0
Ops s b os = Listing (op_links (nodes s)) b os

abbrev Blocks : Context → RegionPtr → List BlockPtr → Type 0
Blocks s r bs = Listing (block_links (nodes s)) r bs

abbrev Regions : Context → OpPtr → List RegionPtr → Type 0
Regions s o rs = option_map regions_of (operation_at (nodes s) o) ≡ Some rs

-- What stood before stands after.
record Onward (s t : Context) : Type 0 where
  ops : (b : BlockPtr) (os : List OpPtr) → Ops s b os → Ops t b os
  blocks : (r : RegionPtr) (bs : List BlockPtr) → Blocks s r bs → Blocks t r bs
  regions : (o : OpPtr) (rs : List RegionPtr) → Regions s o rs → Regions t o rs

-- an operation with regions is live
with_regions_live : (s : Context) (o : OpPtr) (rs : List RegionPtr) → Regions s o rs → (op_links (nodes s)).live o ≡ true
with_regions_live s o rs e = from (operation_at (nodes s) o) refl e
  where
    from : (x : Option Operation) → operation_at (nodes s) o ≡ x → option_map regions_of x ≡ Some rs → (op_links (nodes s)).live o ≡ true
    from None q h = absurd (none_some h)
    from (Some y) q h = named_live (nodes s).operations o.handle y q

-- What the children of a node are, from these.
module _ (s : Context) (l : Lists (nodes s)) where
  of_block : (b : BlockPtr) (os : List OpPtr) → Ops s b os → children (nodes s) l (node.BasicBlock b) ≡ map node.Operation os
  of_block b os x =
      ap (λ (h : Bool). cond h (map node.Operation (l.ops b)) []) x.held ∙ ap (λ (zs : List OpPtr). map node.Operation zs) (x.list l.ops l.ops_hold)

  of_region : (r : RegionPtr) (bs : List BlockPtr) → Blocks s r bs → children (nodes s) l (node.Region r) ≡ map node.BasicBlock bs
  of_region r bs x =
      ap (λ (h : Bool). cond h (map node.BasicBlock (l.blocks r)) []) x.held ∙ ap (λ (zs : List BlockPtr). map node.BasicBlock zs) (x.list l.blocks l.blocks_hold)

  of_operation : (o : OpPtr) (rs : List RegionPtr) → Regions s o rs → children (nodes s) l (node.Operation o) ≡ map node.Region rs
  of_operation o rs e = from (operation_at (nodes s) o) e
    where
      from : (x : Option Operation) → option_map regions_of x ≡ Some rs → map node.Region (regions_in x) ≡ map node.Region rs
      from None h = absurd (none_some h)
      from (Some y) h = ap (λ (zs : List RegionPtr). map node.Region zs) (some_same h)

-- a live record that is kept is live
still_live : {T : Type 0} (a b : Shelf T) → length a.records ≡ length a.pool.slots → Keeps a b → (k : Handle) → live a.pool k ≡ true → live b.pool k ≡ true
still_live a b even kept k e = from (at a k) refl
  where
    from : (x : Option _) → at a k ≡ x → live b.pool k ≡ true
    from None q = absurd (clash (sym e ∙ at_none a k even (sym q)))
    from (Some y) q = named_live b k y (kept.keeps k e ∙ q)

-- A making leaves what stood.
module _ (s t : Context) (kept : AllKept (nodes s) (nodes t)) (new_ops : BlockPtr → List OpPtr) (new_blocks : RegionPtr → List BlockPtr)
    (grow_ops : (L : BlockPtr → List OpPtr) → Holds (op_links (nodes s)) L → Holds (op_links (nodes t)) (with_lists (op_links (nodes s)).held L new_ops))
    (grow_blocks : (L : RegionPtr → List BlockPtr) → Holds (block_links (nodes s)) L → Holds (block_links (nodes t)) (with_lists (block_links (nodes s)).held L new_blocks)) where
  onward : Onward s t
  onward = record {
    ops = λ b os x.
        listing_kept op_same (op_links (nodes s)) (op_links (nodes t)) s.tables.forest.oplists new_ops grow_ops b os
        (still_live (nodes s).blocks (nodes t).blocks (places_of s).blocks_even kept.blocks b.handle x.held) x;
    blocks = λ r bs x.
        listing_kept block_same (block_links (nodes s)) (block_links (nodes t)) s.tables.forest.blocklists new_blocks grow_blocks r bs
        (still_live (nodes s).regions (nodes t).regions (places_of s).regions_even kept.regions r.handle x.held) x;
    regions = λ o rs e. ap (option_map regions_of) (kept.operations.keeps o.handle (with_regions_live s o rs e)) ∙ e;
  }

-- A block was made.
module _ (s t : Context) (b : BlockPtr) (new : NewBlock s b t) where
  block_onward : Onward s t
  block_onward =
      onward s t new.made.kept (λ c. []) (λ r. [])
      (λ L h. subst (λ (z : Model). Holds (op_links z) (with_lists (op_links (nodes s)).held L (λ c. []))) (sym new.made.after) (block_ops_hold (nodes s) (places_of s) new.made.roomy L h))
      (λ L h. subst (λ (z : Model). Holds (block_links z) (with_lists (block_links (nodes s)).held L (λ c. []))) (sym new.made.after) (block_blocks_hold (nodes s) (places_of s) new.made.roomy L h))

  block_there : block_at (nodes t) b ≡ Some (new_block None)
  block_there =
      ap (block_at (nodes t)) new.made.answer ∙ ap (λ (z : Model). block_at z (next_block (nodes s))) new.made.after
      ∙ (enter_only (nodes s).blocks (new_block None) (places_of s).block_places new.made.roomy (places_of s).blocks_even).here

  new_is_empty : Ops t b []
  new_is_empty = empty (op_links (nodes t)) b (named_live (nodes t).blocks b.handle (new_block None) block_there) (ap (part (λ (x : BasicBlock). x.head)) block_there)

  -- it is none that was there
  new_differs : (c : BlockPtr) (os : List OpPtr) → Ops s c os → b ≡ c → ⊥
  new_differs c os x e =
      clash (sym x.held ∙ ap (op_links (nodes s)).held (sym e ∙ new.made.answer) ∙ next_dead (nodes s).blocks.pool (places_of s).block_places new.made.roomy)

-- An operation was made.
module _ (s t : Context) (kind count : ℕ) (name : List ℕ) (made : MadeOperation) (free : NoRow (make_operation_rows s kind count name)) (o : OperationMade s kind count name made t)
    (is : Kind) (kind_is : o.is ≡ is) (one : cond is.table count 1 ≡ 1) where
  op_onward : Onward s t
  op_onward =
      let m = nodes s in
      let r = roomy s t kind count name made free o in
      onward s t o.kept (λ c. []) (bodies o.is.table m)
      (λ L h. subst (λ (z : Model). Holds (op_links z) (with_lists (op_links m).held L (λ c. []))) (sym o.after) (made_ops_hold m (places_of s) o.is o.number count r L h))
      (λ L h. subst (λ (z : Model). Holds (block_links z) (with_lists (block_links m).held L (bodies o.is.table m))) (sym o.after)
      (made_blocks_hold m (places_of s) o.is o.number count (ap (λ (k : Kind). cond k.table count 1) kind_is ∙ one) r L h))

  new_regions : Regions t made.operation made.regions
  new_regions =
      ap (λ (x : MadeOperation). option_map regions_of (operation_at (nodes t) x.operation)) o.answer
      ∙ ap (option_map regions_of) (is_there s t kind count name made free o)
      ∙ sym (ap (λ (x : MadeOperation). Some x.regions) o.answer)

-- An operation with one region was made.
module _ (s t : Context) (kind : ℕ) (name : List ℕ) (made : MadeOperation) (free : NoRow (make_operation_rows s kind 1 name)) (o : OperationMade s kind 1 name made t) where
  region_is : made.regions ≡ next_region (nodes s) ∷ []
  unfolding region_ptrs with_regions
  region_is = ap (λ (x : MadeOperation). x.regions) o.answer

  region_there : region_at (nodes t) (next_region (nodes s)) ≡ Some (new_region (next_op (nodes s)) (body_of o.is.table (nodes s)) 0)
  unfolding with_regions
  region_there =
      ap (λ (x : Model). region_at x (next_region (nodes s))) o.after
      ∙ (enter_only (nodes s).regions (new_region (next_op (nodes s)) (body_of o.is.table (nodes s)) 0) (places_of s).region_places (roomy s t kind 1 name made free o).regions (places_of s).regions_even).here

  first_of : (r : RegionPtr) → made.regions ≡ r ∷ [] → next_region (nodes s) ≡ r
  first_of r e = some_same (ap (λ (rs : List RegionPtr). first_or rs None) (sym region_is ∙ e))

  region_held : (block_links (nodes t)).held (next_region (nodes s)) ≡ true
  region_held = named_live (nodes t).regions (next_region (nodes s)).handle (new_region (next_op (nodes s)) (body_of o.is.table (nodes s)) 0) region_there

  -- no table: the region is empty
  no_blocks : (r : RegionPtr) → made.regions ≡ r ∷ [] → o.is.table ≡ false → Blocks t r []
  no_blocks r e bare =
      subst (λ (q : RegionPtr). Blocks t q []) (first_of r e)
      (empty (block_links (nodes t)) (next_region (nodes s)) region_held
      (ap (part (λ (x : Region). x.head)) region_there ∙ ap (λ (h : Bool). body_of h (nodes s)) bare))

  -- a table: the region has the body alone, which is empty
  module _ (yes : o.is.table ≡ true) where
    body_is : made.body ≡ Some (next_block (nodes s))
    body_is = ap (λ (x : MadeOperation). x.body) o.answer ∙ ap (λ (h : Bool). body_of h (nodes s)) yes

    room_there : 0 < room (nodes s).blocks.pool
    room_there = subst (λ (h : Bool). blocks_needed h ≤ room (nodes s).blocks.pool) yes (roomy s t kind 1 name made free o).blocks

    body_there : block_at (nodes t) (next_block (nodes s)) ≡ Some (new_block (Some (next_region (nodes s))))
    body_there =
        ap (λ (x : Model). block_at x (next_block (nodes s))) o.after
        ∙ ap (λ (h : Bool). at (with_body h (nodes s)) (next (nodes s).blocks.pool)) yes
        ∙ (enter_only (nodes s).blocks (new_block (Some (next_region (nodes s)))) (places_of s).block_places room_there (places_of s).blocks_even).here

    no_operations : (b : BlockPtr) → made.body ≡ Some b → Ops t b []
    no_operations b e =
        subst (λ (q : BlockPtr). Ops t q []) (some_same (sym body_is ∙ e))
        (empty (op_links (nodes t)) (next_block (nodes s)) (named_live (nodes t).blocks (next_block (nodes s)).handle (new_block (Some (next_region (nodes s)))) body_there)
        (ap (part (λ (x : BasicBlock). x.head)) body_there))

    the_body : (r : RegionPtr) (b : BlockPtr) → made.regions ≡ r ∷ [] → made.body ≡ Some b → Blocks t r (b ∷ [])
    the_body r b e f =
        let table : is_table (nodes t) (next_op (nodes s)) ≡ true = ap (is_so (λ (x : Operation). x.kind.table)) (is_there s t kind 1 name made free o) ∙ yes in
        let x = has_one_body t.tables (next_op (nodes s)) table in
        let listed : regions_made o.is 1 (nodes s) ≡ x.region ∷ [] = some_same (sym (ap (option_map regions_of) (is_there s t kind 1 name made free o)) ∙ x.regions) in
        let same : x.region ≡ r = some_same (ap (λ (rs : List RegionPtr). first_or rs None) (sym listed ∙ sym (ap (λ (y : MadeOperation). y.regions) o.answer) ∙ e)) in
        let head : (block_links (nodes t)).head r ≡ Some b =
        ap (block_links (nodes t)).head (sym (first_of r e)) ∙ ap (part (λ (y : Region). y.head)) region_there ∙ ap (λ (h : Bool). body_of h (nodes s)) yes ∙ sym body_is ∙ f in
        let held : (block_links (nodes t)).held r ≡ true = subst (λ (q : RegionPtr). (block_links (nodes t)).held q ≡ true) (first_of r e) region_held in
        record {
          held = held;
          list = λ L h.
              let only : L r ≡ x.body ∷ [] = ap L (sym same) ∙ x.alone L h in
              let first : Some b ≡ Some x.body = sym head ∙ (h.chains r held).head ∙ ap (λ (zs : List BlockPtr). first_or zs None) only in
              only ∙ ap (λ (z : BlockPtr). z ∷ []) (sym (some_same first));
        }

-- An operation was put at the back of a block.
module _ (s t : Context) (op : OpPtr) (b : BlockPtr) (put : OpInserted s op (AtBack b) t) where
  entered : Inserts (op_links (nodes s)) (op_links (nodes t)) op b (AtBack b)
  entered = subst (λ (c : BlockPtr). Inserts (op_links (nodes s)) (op_links (nodes t)) op c (AtBack b)) (sym (some_same put.linked.into)) put.linked.inserts

  op_put : (os : List OpPtr) → Ops s b os → Ops t b (os ++ (op ∷ []))
  op_put os = listing_put op_same (op_links (nodes s)) (op_links (nodes t)) s.tables.forest.oplists block_same op b entered os

  -- every other block keeps its operations
  ops_aside : (c : BlockPtr) (os : List OpPtr) → (c ≡ b → ⊥) → Ops s c os → Ops t c os
  ops_aside c os = listing_other op_same (op_links (nodes s)) (op_links (nodes t)) s.tables.forest.oplists block_same op b entered c os

  blocks_stay : (r : RegionPtr) (bs : List BlockPtr) → Blocks s r bs → Blocks t r bs
  blocks_stay r bs = subst (λ (v : View BlockPtr RegionPtr). Listing v r bs) (sym (op_edit_links (nodes s) (nodes t) put.linked.rests))

  regions_stay : (o : OpPtr) (rs : List RegionPtr) → Regions s o rs → Regions t o rs
  regions_stay o rs e = same_regions (nodes s) (nodes t) (op_edit_faces (nodes s) (nodes t) put.linked.rests) o ∙ e

-- A block was put at the back of a region.
module _ (s t : Context) (b : BlockPtr) (r : RegionPtr) (put : BlockInserted s b (AtBack r) t) where
  block_entered : Inserts (block_links (nodes s)) (block_links (nodes t)) b r (AtBack r)
  block_entered = subst (λ (c : RegionPtr). Inserts (block_links (nodes s)) (block_links (nodes t)) b c (AtBack r)) (sym (some_same put.linked.into)) put.linked.inserts

  block_put : (bs : List BlockPtr) → Blocks s r bs → Blocks t r (bs ++ (b ∷ []))
  block_put bs = listing_put block_same (block_links (nodes s)) (block_links (nodes t)) s.tables.forest.blocklists region_same b r block_entered bs

  others_stay : (q : RegionPtr) (bs : List BlockPtr) → (q ≡ r → ⊥) → Blocks s q bs → Blocks t q bs
  others_stay q bs = listing_other block_same (block_links (nodes s)) (block_links (nodes t)) s.tables.forest.blocklists region_same b r block_entered q bs

  ops_stay : (c : BlockPtr) (os : List OpPtr) → Ops s c os → Ops t c os
  ops_stay c os = subst (λ (v : View OpPtr BlockPtr). Listing v c os) (sym (block_edit_links (nodes s) (nodes t) put.linked.rests))

  op_regions_stay : (o : OpPtr) (rs : List RegionPtr) → Regions s o rs → Regions t o rs
  op_regions_stay o rs e = same_regions (nodes s) (nodes t) (block_edit_faces (nodes s) (nodes t) put.linked.rests) o ∙ e

-- an operation without regions
no_regions : (s t : Context) (kind : ℕ) (made : MadeOperation) (o : OperationMade s kind 0 [] made t) → ◌≡◌ {A = Option (List RegionPtr)} (Some made.regions) (Some [])
unfolding region_ptrs
no_regions s t kind made o = ap (λ (x : MadeOperation). Some x.regions) o.answer

abbrev plain : Kind
plain = record { table = false; symbol = false; terminator = false }

abbrev a_table : Kind
a_table = record { table = true; symbol = false; terminator = false }

abbrev a_symbol : Kind
a_symbol = record { table = false; symbol = true; terminator = false }

abbrev a_terminator : Kind
a_terminator = record { table = false; symbol = false; terminator = true }

-- a terminator was made, and then put at the back of a block
module _ (s t : Context) (made : MadeOperation) (free : NoRow (make_operation_rows s 4 0 [])) (o : OperationMade s 4 0 [] made t) where
  made_terminator : is_terminator (nodes t) made.operation ≡ true
  made_terminator =
      ap (λ (x : MadeOperation). is_terminator (nodes t) x.operation) o.answer
      ∙ ap (is_so (λ (x : Operation). x.kind.terminator)) (is_there s t 4 0 [] made free o)
      ∙ ap (λ (k : Kind). k.terminator) (one_kind o.is a_terminator o.sum)

-- putting an operation into a block leaves which operations are terminators
is_mapped : (x : Option Operation) → is_so (λ (y : Operation). y.kind.terminator) x ≡ is_so (λ (b : Bool). b) (option_map (λ (y : Operation). y.kind.terminator) x)
is_mapped None = refl
is_mapped (Some y) = refl

terminator_stays : (s t : Context) (op : OpPtr) (b : BlockPtr) (put : OpInserted s op (AtBack b) t) (o : OpPtr) → is_terminator (nodes t) o ≡ is_terminator (nodes s) o
terminator_stays s t op b put o =
    is_mapped (operation_at (nodes t) o)
    ∙ ap (is_so (λ (b : Bool). b)) (same_mapped loose_op (nodes s).operations (nodes t).operations (ap (λ (a : Model). a.operations) put.linked.rests) (λ (y : Operation). y.kind.terminator) (λ y. refl) o.handle)
    ∙ sym (is_mapped (operation_at (nodes s) o))

-- A symbol was put into a table without a point, whose body holds a terminator alone.
module _ (s u : Context) (t op last : OpPtr) (r : RegionPtr) (b : BlockPtr) (put : SymbolInserted s t op None u)
    (regions : Regions s t (r ∷ [])) (body : Blocks s r (b ∷ [])) (held : Ops s b (last ∷ [])) (ends : is_terminator (nodes s) last ≡ true) where
  -- the first region of the table
  region_first : (x : Option Operation) → option_map regions_of x ≡ Some (r ∷ []) → part (λ (o : Operation). item (regions_of o) 0) x ≡ Some r
  region_first None e = absurd (none_some e)
  region_first (Some y) e = ap (λ (zs : List RegionPtr). item zs 0) (some_same e)

  -- the body is the block
  body_same : put.inserted.body ≡ b
  body_same =
      first_node block_same (block_links (nodes s)) s.tables.forest.blocklists r b put.inserted.body [] body
      (sym (ap (part (block_links (nodes s)).head) (region_first (operation_at (nodes s) t) regions)) ∙ put.inserted.is_body)

  into : Inserts (op_links (nodes s)) (op_links (nodes u)) op b put.inserted.spot
  into =
      subst (λ (c : BlockPtr). Inserts (op_links (nodes s)) (op_links (nodes u)) op c put.inserted.spot)
      (some_same (sym put.inserted.linked.into ∙ put.inserted.lies) ∙ body_same) put.inserted.linked.inserts

  -- it goes before the terminator
  goes_before : (L : BlockPtr → List OpPtr) → Holds (op_links (nodes s)) L → put.inserted.spot ≡ Before last
  goes_before L h =
      let tail : (op_links (nodes s)).tail b ≡ Some last = (h.chains b held.held).tail ∙ ap (λ (zs : List OpPtr). last_or zs None) (held.list L h) in
      some_same (sym put.inserted.goes) ∙ ap (end_spot (nodes s)) body_same ∙ ap (end_before (nodes s) b) tail
      ∙ ap (λ (h : Bool). if h then Before last else AtBack b) ends

  symbol_there : Ops u b (op ∷ (last ∷ []))
  symbol_there = listing_before op_same (op_links (nodes s)) (op_links (nodes u)) s.tables.forest.oplists block_same op last b put.inserted.spot into goes_before held

  ops_beside : (c : BlockPtr) (os : List OpPtr) → (c ≡ b → ⊥) → Ops s c os → Ops u c os
  ops_beside c os = listing_beside op_same (op_links (nodes s)) (op_links (nodes u)) s.tables.forest.oplists block_same op last b put.inserted.spot into goes_before held c os

  blocks_keep : (q : RegionPtr) (bs : List BlockPtr) → Blocks s q bs → Blocks u q bs
  blocks_keep q bs = subst (λ (v : View BlockPtr RegionPtr). Listing v q bs) (sym (op_edit_links (nodes s) (nodes u) put.inserted.linked.rests))

  regions_keep : (o : OpPtr) (rs : List RegionPtr) → Regions s o rs → Regions u o rs
  regions_keep o rs e = same_regions (nodes s) (nodes u) (op_edit_faces (nodes s) (nodes u) put.inserted.linked.rests) o ∙ e

pub two_blocks : (s u : Context) (r : RegionPtr) (b0 b1 : BlockPtr) (o5 : OpPtr) → TwoBlocksBuilt s u r b0 b1 o5 → (l : Lists (nodes u))
    → TwoBlocks u l r b0 b1 × (children (nodes u) l (node.BasicBlock b0) ≡ node.Operation o5 ∷ [])
two_blocks s u r b0 b1 o5 x l =
    let k : x.operation.1.is ≡ plain = one_kind x.operation.1.is plain x.operation.1.sum in
    let c = x.held_made in
    let kc : c.1.is ≡ plain = one_kind c.1.is plain c.1.sum in
    let to2 = block_onward x.s1 x.s2 b0 x.first_made.1 in
    let to4 = block_onward x.s3 x.s4 b1 x.second_made.1 in
    let to6 = op_onward x.s5 x.s6 0 0 [] x.held c.0 c.1 plain kc refl in
    let put3 = x.first_put.1 in
    let put5 = x.second_put.1 in
    let put7 = x.held_put.1 in
    let r1 = no_blocks s x.s1 0 [] x.made x.operation.0 x.operation.1 r x.region (ap (λ (z : Kind). z.table) k) in
    let r3 = block_put x.s2 x.s3 b0 r put3 [] (to2.blocks r [] r1) in
    let r5 = block_put x.s4 x.s5 b1 r put5 (b0 ∷ []) (to4.blocks r (b0 ∷ []) r3) in
    let r7 = blocks_stay x.s6 u o5 b0 put7 r (b0 ∷ (b1 ∷ [])) (to6.blocks r (b0 ∷ (b1 ∷ [])) r5) in
    let first3 = ops_stay x.s2 x.s3 b0 r put3 b0 [] (new_is_empty x.s1 x.s2 b0 x.first_made.1) in
    let first6 = to6.ops b0 [] (ops_stay x.s4 x.s5 b1 r put5 b0 [] (to4.ops b0 [] first3)) in
    let second6 = to6.ops b1 [] (ops_stay x.s4 x.s5 b1 r put5 b1 [] (new_is_empty x.s3 x.s4 b1 x.second_made.1)) in
    let first7 = op_put x.s6 u o5 b0 put7 [] first6 in
    let differ = new_differs x.s3 x.s4 b1 x.second_made.1 b0 [] first3 in (
      record { of_r = of_region u l r (b0 ∷ (b1 ∷ [])) r7; of_b1 = of_block u l b1 [] (ops_aside x.s6 u o5 b0 put7 b1 [] differ second6) },
      of_block u l b0 (o5 ∷ []) first7,
    )

pub nested : (s u : Context) (o0 o1 o2 : OpPtr) (r0 r1 : RegionPtr) (b0 b1 : BlockPtr) → NestedBuilt s u o0 o1 o2 r0 r1 b0 b1 → (l : Lists (nodes u)) → Nested u l o0 o1 o2 r0 r1 b0 b1
nested s u o0 o1 o2 r0 r1 b0 b1 x l =
    let a = x.table_made in
    let b = x.symbol_made in
    let c = x.last_made in
    let ka : a.1.is ≡ a_table = one_kind a.1.is a_table a.1.sum in
    let kb : b.1.is ≡ a_symbol = one_kind b.1.is a_symbol b.1.sum in
    let kc : c.1.is ≡ a_terminator = one_kind c.1.is a_terminator c.1.sum in
    let yes : a.1.is.table ≡ true = ap (λ (z : Kind). z.table) ka in
    let to2 = op_onward x.s1 x.s2 2 1 (codes "put") x.symbol b.0 b.1 a_symbol kb refl in
    let to3 = block_onward x.s2 x.s3 b1 x.block_made.1 in
    let to5 = op_onward x.s4 x.s5 4 0 [] x.last c.0 c.1 a_terminator kc refl in
    let put4 = x.block_put.1 in
    let put6 = x.last_put.1 in
    -- the regions of an operation, from s2 to s4, and from there to s6
    let regions4 : (o : OpPtr) (rs : List RegionPtr) → Regions x.s2 o rs → Regions x.s4 o rs = λ o rs e. op_regions_stay x.s3 x.s4 b1 r1 put4 o rs (to3.regions o rs e) in
    let regions6 : (o : OpPtr) (rs : List RegionPtr) → Regions x.s4 o rs → Regions x.s6 o rs = λ o rs e. regions_stay x.s5 x.s6 o2 b0 put6 o rs (to5.regions o rs e) in
    -- the blocks of a region, from s4
    let blocks6 : (r : RegionPtr) (bs : List BlockPtr) → Blocks x.s4 r bs → Blocks x.s6 r bs = λ r bs y. blocks_stay x.s5 x.s6 o2 b0 put6 r bs (to5.blocks r bs y) in
    let table_regions : x.table.regions ≡ r0 ∷ [] = ap (λ (z : MadeOperation). z.regions) x.table_is in
    let table_body : x.table.body ≡ Some b0 = ap (λ (z : MadeOperation). z.body) x.table_is in
    let o0_at1 : Regions x.s1 o0 (r0 ∷ []) = subst (λ (z : MadeOperation). Regions x.s1 z.operation z.regions) x.table_is (new_regions s x.s1 1 1 [] x.table a.0 a.1 a_table ka refl) in
    let o1_at2 : Regions x.s2 o1 (r1 ∷ []) = subst (λ (o : OpPtr). Regions x.s2 o (r1 ∷ [])) x.symbol_is.0 (new_regions x.s1 x.s2 2 1 (codes "put") x.symbol b.0 b.1 a_symbol kb refl ∙ ap Some x.symbol_is.1) in
    let o2_at5 : Regions x.s5 o2 [] = subst (λ (o : OpPtr). Regions x.s5 o []) x.last_is (new_regions x.s4 x.s5 4 0 [] x.last c.0 c.1 a_terminator kc refl ∙ no_regions x.s4 x.s5 4 x.last c.1) in
    let o0_is = regions6 o0 (r0 ∷ []) (regions4 o0 (r0 ∷ []) (to2.regions o0 (r0 ∷ []) o0_at1)) in
    let o1_is = regions6 o1 (r1 ∷ []) (regions4 o1 (r1 ∷ []) o1_at2) in
    let o2_is = regions_stay x.s5 x.s6 o2 b0 put6 o2 [] o2_at5 in
    let r0_at3 = to3.blocks r0 (b0 ∷ []) (to2.blocks r0 (b0 ∷ []) (the_body s x.s1 1 [] x.table a.0 a.1 yes r0 b0 table_regions table_body)) in
    let r1_at3 = to3.blocks r1 [] (no_blocks x.s1 x.s2 2 (codes "put") x.symbol b.0 b.1 r1 x.symbol_is.1 (ap (λ (z : Kind). z.table) kb)) in
    let other_region = apart (block_links (nodes x.s3)) x.s3.tables.forest.blocklists r0 r1 b0 [] r0_at3 r1_at3 in
    let r0_is = blocks6 r0 (b0 ∷ []) (others_stay x.s3 x.s4 b1 r1 put4 r0 (b0 ∷ []) other_region r0_at3) in
    let r1_is = blocks6 r1 (b1 ∷ []) (block_put x.s3 x.s4 b1 r1 put4 [] r1_at3) in
    let b0_at3 = to3.ops b0 [] (to2.ops b0 [] (no_operations s x.s1 1 [] x.table a.0 a.1 yes b0 table_body)) in
    let b0_at5 = to5.ops b0 [] (ops_stay x.s3 x.s4 b1 r1 put4 b0 [] b0_at3) in
    let b0_is = op_put x.s5 x.s6 o2 b0 put6 [] b0_at5 in
    let b1_at5 = to5.ops b1 [] (ops_stay x.s3 x.s4 b1 r1 put4 b1 [] (new_is_empty x.s2 x.s3 b1 x.block_made.1)) in
    let other_block = new_differs x.s2 x.s3 b1 x.block_made.1 b0 [] (to2.ops b0 [] (no_operations s x.s1 1 [] x.table a.0 a.1 yes b0 table_body)) in
    let b1_is = ops_aside x.s5 x.s6 o2 b0 put6 b1 [] other_block b1_at5 in
    let ends : is_terminator (nodes x.s6) o2 ≡ true =
    terminator_stays x.s5 x.s6 o2 b0 put6 o2 ∙ ap (is_terminator (nodes x.s5)) (sym x.last_is) ∙ made_terminator x.s4 x.s5 x.last c.0 c.1 in
    let put7 = x.symbol_put.1 in
    let regions7 = regions_keep x.s6 u o0 o1 o2 r0 b0 put7 o0_is r0_is b0_is ends in
    let blocks7 = blocks_keep x.s6 u o0 o1 o2 r0 b0 put7 o0_is r0_is b0_is ends in
    record {
      of_o0 = of_operation u l o0 (r0 ∷ []) (regions7 o0 (r0 ∷ []) o0_is);
      of_r0 = of_region u l r0 (b0 ∷ []) (blocks7 r0 (b0 ∷ []) r0_is);
      of_b0 = of_block u l b0 (o1 ∷ (o2 ∷ [])) (symbol_there x.s6 u o0 o1 o2 r0 b0 put7 o0_is r0_is b0_is ends);
      of_o1 = of_operation u l o1 (r1 ∷ []) (regions7 o1 (r1 ∷ []) o1_is);
      of_r1 = of_region u l r1 (b1 ∷ []) (blocks7 r1 (b1 ∷ []) r1_is);
      of_b1 = of_block u l b1 [] (ops_beside x.s6 u o0 o1 o2 r0 b0 put7 o0_is r0_is b0_is ends b1 [] other_block b1_is);
      of_o2 = of_operation u l o2 [] (regions7 o2 [] o2_is);
    }
