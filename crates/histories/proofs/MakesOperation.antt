-- Making an operation keeps the store as the ledger says. Assumes nothing.
use Rattle.std.proofs.Common.{◌≡◌, ℕ, zero, suc, ◌<◌, ◌≤◌, Bool, true, false, cond, List, [], ◌∷◌, length, is_some, Some, None, Option, sym, refl, ap, ◌∙◌, subst, inl, inr, ⊎_elim, arith}
use Rattle.std.proofs.lemmas.Bool.{cases_eq, cases_lt}
use Rattle.std.specs.Option.{option_map, option_to_list}
use Rattle.arena.specs.Pools.{live, next, room}
use Rattle.arena.specs.Shelves.{Only, at}
use Rattle.arena.proofs.Shelving.{enter_only, live_made, next_dead, take_live_other}
use Rattle.linked_list.specs.Links.{Apart, Holds, In}
use Rattle.linked_list.proofs.Lists.{apart_join, in_left, in_parts, in_right}
use Rattle.records.specs.declared.handles.BlockPtr.{BlockPtr}
use Rattle.records.specs.declared.handles.OpPtr.{OpPtr}
use Rattle.records.specs.declared.handles.RegionPtr.{RegionPtr}
use Rattle.records.specs.declared.kind.Kind.{Kind}
use Rattle.records.specs.declared.making.MadeOperation.{MadeOperation}
use Rattle.records.specs.declared.operation.Operation.{Operation}
use Rattle.records.specs.declared.region.Region.{Region}
use Rattle.records.specs.Makings.{Roomy, blocks_needed, body_of, new_operation, new_region, region_ptrs, regions_made, with_body, with_operation, with_regions}
use Rattle.records.specs.Models.{Model, next_block, next_op, operation_at, region_of}
use Rattle.records.specs.Views.{block_links, op_links}
use Rattle.records.specs.Writes.{block_same, op_same, region_same, same_blockptr, same_opptr, same_regionptr}
use Rattle.records.specs.Shapes.{kind_sum}
use Rattle.records.proofs.Regions.{ptrs_long, regions_grown}
use Rattle.records.proofs.Sums.{one_kind}
use Rattle.forest.proofs.Kept.{bodies, made_blocks_hold, made_ops_hold}
use Rattle.forest.proofs.Listed.{MadeRegion, clash, decide, more_regions, with_lists}
use Rattle.forest.proofs.Owning.{handle_is, named_live, region_there}
use Rattle.forest.proofs.Tables.{Tables, tables_of}
use Rattle.result.specs.Rows.{NoRow}
use Rattle.ir.specs.declared.context.Context.{Context}
use Rattle.ir.specs.Calls.{OperationMade, make_operation_rows}
use Rattle.ir.specs.Stores.{names, nodes}
use Rattle.histories.specs.Feeding.{Entering, OperationEnters}
use Rattle.histories.specs.Ledgers.{Ledger, OpEntry, blocks_in, listed, ops_in}
use Rattle.histories.specs.Represents.{Represents, entry}
use Rattle.histories.proofs.Held.{holds_same, was_held, were_there}
use Rattle.histories.proofs.Nodes as the
use Rattle.histories.proofs.Names.{entries_kept, new_name}
use Rattle.histories.proofs.Standing.{in_or_not}

-- a comparison that can't fail holds
le_stays : (x y : ℕ) → ((x ≤ y → ⊥) → ⊥) → x ≤ y
le_stays x y n = ⊎_elim (λ (lt : y < x). absurd (n (λ le. omega arith))) (λ (le : x ≤ y). le) (cases_lt y x)

eq_stays : (x y : ℕ) → ((x ≡ y → ⊥) → ⊥) → x ≡ y
eq_stays x y n = ⊎_elim (λ e. e) (λ ne. absurd (n ne)) (cases_eq x y)

-- what is in a list of one
one_of : {X : Type 0} (x y : X) → In x (y ∷ []) → x ≡ y
one_of x y (inl e) = e
one_of x y (inr i) = absurd i

-- The body of a table.

module _ (a : Model) (t : Tables a) (f g : BlockPtr → Option (List OpPtr)) (same : (c : BlockPtr) → is_some (f c) ≡ live a.blocks.pool c.handle) where
  body_lives : (b : Bool) → blocks_needed b ≤ room a.blocks.pool → Entering f g (option_to_list (body_of b a)) [] → (c : BlockPtr) → is_some (g c) ≡ live (with_body b a).pool c.handle
  body_lives true need w c =
      ⊎_elim
      (λ (e : c ≡ next_block a). ap is_some (w.here c (inl e)) ∙ sym (ap (λ (x : BlockPtr). live (with_body true a).pool x.handle) e ∙ live_made a.blocks.pool t.block_places need))
      (λ (ne : c ≡ next_block a → ⊥).
      ap is_some (w.other c (λ i. ne (one_of c (next_block a) i))) ∙ same c
      ∙ sym (take_live_other a.blocks.pool c.handle t.block_places need (λ h. ne (same_blockptr c (next_block a) h))))
      (block_same c (next_block a))
  body_lives false need w c = ap is_some (w.other c (λ i. i)) ∙ same c

  body_lists : (b : Bool) → blocks_needed b ≤ room a.blocks.pool → Entering f g (option_to_list (body_of b a)) [] → (c : BlockPtr) → with_lists (op_links a).held (λ d. listed (f d)) (λ d. []) c ≡ listed (g c)
  body_lists true need w c =
      ⊎_elim
      (λ (e : c ≡ next_block a).
      ap (λ (x : Bool). cond x (listed (f c)) []) (ap (λ (x : BlockPtr). live a.blocks.pool x.handle) e ∙ next_dead a.blocks.pool t.block_places need) ∙ sym (ap listed (w.here c (inl e))))
      (λ (ne : c ≡ next_block a → ⊥). were_there (op_links a).held f same c ∙ sym (ap listed (w.other c (λ i. ne (one_of c (next_block a) i)))))
      (block_same c (next_block a))
  body_lists false need w c = were_there (op_links a).held f same c ∙ sym (ap listed (w.other c (λ i. i)))

-- The regions of the operation.

module _ (op : OpPtr) (body : Option BlockPtr) (a : Model) (t : Tables a) where
  abbrev nth : ℕ → RegionPtr
  nth i = region_of (next (with_regions op body i a.regions).pool)

  in_ptrs : (n : ℕ) (x : RegionPtr) → In x (region_ptrs op body n a.regions) → (i : ℕ) × (i < n) × (x ≡ nth i)
  unfolding region_ptrs
  in_ptrs zero x i = absurd i
  in_ptrs (suc n) x i =
      ⊎_elim
      (λ (j : In x (region_ptrs op body n a.regions)). let w = in_ptrs n x j in let lt = w.1 in (w.0, omega arith, w.2))
      (λ (j : In x (nth n ∷ [])). (n, omega arith, one_of x (nth n) j))
      (in_parts x (region_ptrs op body n a.regions) (nth n ∷ []) i)

  ptr_in : (n i : ℕ) (x : RegionPtr) → i < n → x ≡ nth i → In x (region_ptrs op body n a.regions)
  unfolding region_ptrs
  ptr_in zero i x lt e = absurd (omega arith)
  ptr_in (suc n) i x lt e =
      ⊎_elim
      (λ (q : i ≡ n). in_right x (region_ptrs op body n a.regions) (nth n ∷ []) (inl (e ∙ ap nth q)))
      (λ (ne : i ≡ n → ⊥). in_left x (region_ptrs op body n a.regions) (nth n ∷ []) (ptr_in n i x (omega arith) e))
      (cases_eq i n)

  module _ (n : ℕ) (fits : n ≤ room a.regions.pool) (x : RegionPtr) where
    -- a region that was made is live, and was not
    made_live : In x (region_ptrs op body n a.regions) → live (with_regions op body n a.regions).pool x.handle ≡ true
    made_live i =
        let w = in_ptrs n x i in
        ap (λ (y : RegionPtr). live (with_regions op body n a.regions).pool y.handle) w.2
        ∙ ap (live (with_regions op body n a.regions).pool) (handle_is op body a t w.0)
        ∙ named_live (with_regions op body n a.regions) _ (new_region op body w.0) (region_there op body a t n w.0 w.1 fits)

    was_dead : In x (region_ptrs op body n a.regions) → live a.regions.pool x.handle ≡ false
    was_dead i =
        let w = in_ptrs n x i in
        let lt = w.1 in
        let g = regions_grown op body a.regions w.0 t.region_places (omega arith) in
        let r = g.rooms in
        let some : 0 < room (with_regions op body w.0 a.regions).pool = omega arith in
        let new : live (with_regions op body w.0 a.regions).pool x.handle ≡ false
        = ap (λ (y : RegionPtr). live (with_regions op body w.0 a.regions).pool y.handle) w.2 ∙ next_dead (with_regions op body w.0 a.regions).pool g.sound some in
        ⊎_elim (λ (h : live a.regions.pool x.handle ≡ true). absurd (clash (sym (g.still x.handle h) ∙ new))) (λ d. d) (decide (live a.regions.pool x.handle))

    -- every other is live exactly if it was
    other_live : (In x (region_ptrs op body n a.regions) → ⊥) → live (with_regions op body n a.regions).pool x.handle ≡ true → live a.regions.pool x.handle ≡ true
    other_live out h =
        ⊎_elim (λ old. old)
        (λ (w : (y : Region) × (at (with_regions op body n a.regions) x.handle ≡ Some y) × MadeRegion op body a.regions t.region_places t.regions_even n x.handle y).
        let i = w.2 in absurd (out (ptr_in n i.0 x i.1 (same_regionptr x (nth i.0) i.2))))
        ((more_regions op body a.regions t.region_places t.regions_even n fits).new x.handle h)

    same_live : (In x (region_ptrs op body n a.regions) → ⊥) → live (with_regions op body n a.regions).pool x.handle ≡ live a.regions.pool x.handle
    same_live out =
        ⊎_elim
        (λ (h : live a.regions.pool x.handle ≡ true). (more_regions op body a.regions t.region_places t.regions_even n fits).still x.handle h ∙ sym h)
        (λ (d : live a.regions.pool x.handle ≡ false).
        ⊎_elim (λ (h : live (with_regions op body n a.regions).pool x.handle ≡ true). absurd (clash (sym (other_live out h) ∙ d))) (λ z. z ∙ sym d)
        (decide (live (with_regions op body n a.regions).pool x.handle)))
        (decide (live a.regions.pool x.handle))

-- an entry is its parts
same_entry : (j k : Kind) (a b : Option (List ℕ)) (xs ys : List RegionPtr) → j ≡ k → a ≡ b → xs ≡ ys
    → ◌≡◌ {A = OpEntry} (record { kind = j; name = a; regions = xs }) (record { kind = k; name = b; regions = ys })
same_entry j k a b xs ys p q r = cc

module _ (s t : Context) (l : Ledger) (r : Represents s l) (kind regions : ℕ) (name : List ℕ) (made : MadeOperation)
    (free : NoRow (make_operation_rows s kind regions name)) (d : OperationMade s kind regions name made t) where
  abbrev a : Model
  a = nodes s

  abbrev z : Model
  z = with_operation d.is d.number regions a

  tables : Tables a
  tables = tables_of s.tables.forest.records

  roomy : Roomy d.is regions a
  roomy =
      let stays : ((Roomy d.is regions a → ⊥) → ⊥) = λ f. free.1.1.1.1.0 (record { is = d.is; sum = d.sum; lack = f }) in
      record {
        operations = le_stays _ _ (λ f. stays (λ h. f h.operations));
        blocks = le_stays _ _ (λ f. stays (λ h. f h.blocks));
        regions = le_stays _ _ (λ f. stays (λ h. f h.regions));
      }

  one_if : (b : Bool) → d.is.table ≡ b → cond b regions 1 ≡ 1
  one_if true e = eq_stays regions 1 (λ ne. free.0 (inr (inr (d.is, d.sum, inl (e, ne)))))
  one_if false e = refl

  op_is : made.operation ≡ next_op a
  op_is = ap (λ (x : MadeOperation). x.operation) d.answer

  regions_are : made.regions ≡ regions_made d.is regions a
  regions_are = ap (λ (x : MadeOperation). x.regions) d.answer

  body_is : made.body ≡ body_of d.is.table a
  body_is = ap (λ (x : MadeOperation). x.body) d.answer

  abbrev new : Operation
  new = new_operation d.is d.number (regions_made d.is regions a)

  only : Only (at a.operations) (at z.operations) (next_op a).handle (Some new)
  only = enter_only a.operations new tables.op_places roomy.operations tables.ops_even

  -- what is made was not written down
  pub is_new : (l.operation made.operation ≡ None) × ((x : RegionPtr) → In x made.regions → l.region x ≡ None) × ((b : BlockPtr) → In b (option_to_list made.body) → l.block b ≡ None)
  is_new = (
    the.dead_op s l r made.operation (ap (λ (x : OpPtr). live a.operations.pool x.handle) op_is ∙ next_dead a.operations.pool tables.op_places roomy.operations),
    (λ x i. the.dead_region s l r x (was_dead (next_op a) (body_of d.is.table a) a tables regions roomy.regions x (subst (In x) regions_are i))),
    (λ b i. the.dead_block s l r b (dead_body d.is.table roomy.blocks b (subst (λ (o : Option BlockPtr). In b (option_to_list o)) body_is i))),
  )
    where
      dead_body : (k : Bool) → blocks_needed k ≤ room a.blocks.pool → (b : BlockPtr) → In b (option_to_list (body_of k a)) → live a.blocks.pool b.handle ≡ false
      dead_body true need b i = ap (λ (x : BlockPtr). live a.blocks.pool x.handle) (one_of b (next_block a) i) ∙ next_dead a.blocks.pool tables.block_places need
      dead_body false need b i = absurd i

  ptrs_apart : (o : OpPtr) (body : Option BlockPtr) (n : ℕ) → n ≤ room a.regions.pool → Apart (region_ptrs o body n a.regions)
  unfolding region_ptrs
  ptrs_apart o body zero le = tt
  ptrs_apart o body (suc n) le =
      let g = regions_grown o body a.regions n tables.region_places (omega arith) in
      let rooms = g.rooms in
      let some : 0 < room (with_regions o body n a.regions).pool = omega arith in
      let fresh = next_dead (with_regions o body n a.regions).pool g.sound some in
      apart_join (region_ptrs o body n a.regions) (nth o body a tables n ∷ []) (ptrs_apart o body n (omega arith)) ((λ i. i), tt)
      (λ x i j. clash (sym (made_live o body a tables n (omega arith) x i) ∙ ap (λ (y : RegionPtr). live (with_regions o body n a.regions).pool y.handle) (one_of x _ j) ∙ fresh))

  -- as many regions as were asked for, all different, and a body for a table alone
  pub made_so : (length made.regions ≡ regions) × Apart made.regions × ((is : Kind) → kind_sum is ≡ kind → is_some made.body ≡ is.table)
  made_so = (
    ap (λ xs. length xs) regions_are ∙ ptrs_long (next_op a) (body_of d.is.table a) a.regions regions,
    subst Apart (sym regions_are) (ptrs_apart (next_op a) (body_of d.is.table a) regions roomy.regions),
    (λ is e. ap is_some body_is ∙ has_body d.is.table ∙ ap (λ (k : Kind). k.table) (one_kind d.is is (d.sum ∙ sym e))),
  )
    where
      has_body : (b : Bool) → is_some (body_of b a) ≡ b
      has_body true = refl
      has_body false = refl

  module _ (m : Ledger) (w : OperationEnters l kind name made m) where
    operations : (op : OpPtr) → m.operation op ≡ option_map (entry (names t)) (operation_at z op)
    operations op =
        ⊎_elim
        (λ (e : op ≡ made.operation).
        ap m.operation e ∙ w.operations.here
        ∙ ap (λ (x : OpEntry). Some x) (same_entry _ _ _ _ _ _ (one_kind w.is d.is (w.sum ∙ sym d.sum)) (sym (new_name (names s) name d.number (names t) d.named)) regions_are)
        ∙ sym (ap (option_map (entry (names t))) (ap (operation_at z) (e ∙ op_is) ∙ only.here)))
        (λ (ne : op ≡ made.operation → ⊥).
        w.operations.other op ne ∙ r.operations op ∙ sym (entries_kept s name d.number (names t) d.named op)
        ∙ sym (ap (option_map (entry (names t))) (only.others op.handle (λ h. ne (same_opptr op (next_op a) h ∙ sym op_is)))))
        (op_same op made.operation)

    bodies_enter : Entering l.block m.block (option_to_list (body_of d.is.table a)) []
    bodies_enter = subst (λ (b : Option BlockPtr). Entering l.block m.block (option_to_list b) []) body_is w.blocks

    regions_enter : Entering l.region m.region (regions_made d.is regions a) (option_to_list (body_of d.is.table a))
    regions_enter =
        subst (λ (b : Option BlockPtr). Entering l.region m.region (regions_made d.is regions a) (option_to_list b)) body_is
        (subst (λ (xs : List RegionPtr). Entering l.region m.region xs (option_to_list made.body)) regions_are w.regions)

    region_lives : (x : RegionPtr) → is_some (m.region x) ≡ live z.regions.pool x.handle
    region_lives x =
        ⊎_elim
        (λ (i : In x (regions_made d.is regions a)). ap is_some (regions_enter.here x i) ∙ sym (made_live (next_op a) (body_of d.is.table a) a tables regions roomy.regions x i))
        (λ (out : In x (regions_made d.is regions a) → ⊥).
        ap is_some (regions_enter.other x out) ∙ r.regions x ∙ sym (same_live (next_op a) (body_of d.is.table a) a tables regions roomy.regions x out))
        (in_or_not region_same x (regions_made d.is regions a))

    block_lists : (x : RegionPtr) → live z.regions.pool x.handle ≡ true → with_lists (block_links a).held (blocks_in l) (bodies d.is.table a) x ≡ blocks_in m x
    block_lists x h =
        ⊎_elim
        (λ (i : In x (regions_made d.is regions a)).
        ap (λ (b : Bool). cond b (blocks_in l x) (bodies d.is.table a x)) (was_dead (next_op a) (body_of d.is.table a) a tables regions roomy.regions x i)
        ∙ sym (ap listed (regions_enter.here x i)))
        (λ (out : In x (regions_made d.is regions a) → ⊥).
        was_held (block_links a).held (blocks_in l) (bodies d.is.table a) x (other_live (next_op a) (body_of d.is.table a) a tables regions roomy.regions x out h)
        ∙ sym (ap listed (regions_enter.other x out)))
        (in_or_not region_same x (regions_made d.is regions a))

    pub represents : Represents t m
    represents = record {
      operations = λ op. operations op ∙ ap (λ (y : Model). option_map (entry (names t)) (operation_at y op)) (sym d.after);
      blocks = λ b. body_lives a tables l.block m.block r.blocks d.is.table roomy.blocks bodies_enter b ∙ ap (λ (y : Model). live y.blocks.pool b.handle) (sym d.after);
      regions = λ x. region_lives x ∙ ap (λ (y : Model). live y.regions.pool x.handle) (sym d.after);
      ops_hold = subst (λ (y : Model). Holds (op_links y) (ops_in m)) (sym d.after)
          (holds_same (op_links z) _ (ops_in m) (made_ops_hold a tables d.is d.number regions roomy (ops_in l) r.ops_hold)
          (λ b k. body_lists a tables l.block m.block r.blocks d.is.table roomy.blocks bodies_enter b));
      blocks_hold = subst (λ (y : Model). Holds (block_links y) (blocks_in m)) (sym d.after)
          (holds_same (block_links z) _ (blocks_in m) (made_blocks_hold a tables d.is d.number regions (one_if d.is.table refl) roomy (blocks_in l) r.blocks_hold) block_lists);
    }
