-- What the field that walks a symbol table answers, once its value is read.
use Rattle.std.proofs.Common.{◌≡◌, ℕ, ◌+◌, ◌≤◌, Bool, true, false, cond, not, List, [], ◌∷◌, ◌++◌, length, map, Some, None, Option, Ok, Err, Result, sym, refl, ap, ◌∙◌, subst, inl, inr, append_assoc, append-nil, arith, length-append}
use mathlib.Core.Bool.{Bool-set}
use Rattle.std.specs.List.{filter}
use Rattle.std.specs.Option.{option_map}
use mathlib.Core.Logic.{∥∥₁_elim}
use Rattle.result.specs.declared.refusal.Refusal.{Refusal}
use Rattle.result.specs.Rows.{NoRow}
use Rattle.arena.specs.Shelves.{item}
use Rattle.linked_list.specs.Links.{In}
use Rattle.linked_list.proofs.Lists.{none_some, some_same}
use Rattle.orders.specs.declared.walk_result.WalkResult.{WalkResult}
use Rattle.orders.specs.declared.walk_result.WalkResult.TheVariants.{Skip}
use Rattle.orders.specs.Logs.{Shown, Shows, more, nodes as shown_nodes, none}
use Rattle.records.specs.declared.handles.OpPtr.{OpPtr}
use Rattle.records.specs.declared.handles.RegionPtr.{RegionPtr}
use Rattle.records.specs.declared.ir_node.IRNode.{IRNode}
use Rattle.records.specs.declared.ir_node.IRNode.TheVariants as node
use Rattle.records.specs.declared.operation.Operation.{Operation}
use Rattle.records.specs.Children.{is_live}
use Rattle.records.specs.Models.{operation_at}
use Rattle.records.specs.Nodes.{Owned, is_table, regions_of}
use Rattle.forest.proofs.Owning.{named_live}
use Rattle.ir.specs.declared.context.Context.{Context}
use Rattle.ir.specs.Stores.{nodes}
use Rattle.walkers.specs.declared.operations_only.OperationsOnly.{OperationsOnly}
use Rattle.walkers.specs.Configs.{preorder_forward}
use Rattle.walkers.specs.Operations.{only_answer, only_next}
use Rattle.walkers.specs.TableWalks.{table_rows}
use Rattle.walkers.specs.Walks.{Reads}
use Rattle.script.specs.declared.node.Node.{Node}
use Rattle.script.specs.declared.node.Close.TheVariants.{End}
use Rattle.script.specs.declared.state.State.{State}
use Rattle.script.specs.declared.steering.Steering.{Steering}
use Rattle.script.specs.declared.trail.Trail.{Trail}
use Rattle.script.specs.Answers.{AnsweredBy, answer_at, answer_in_table}
use Rattle.script.specs.Linkings.{NoNumber, node_named, rows_of}
use Rattle.script.specs.Listed.{more_shown, shown_as}
use Rattle.script.specs.Prints.{done}
use Rattle.script.specs.Runs.{Answers}
use Rattle.script.specs.Sessions.{operations}
use Rattle.script.specs.Trails.{TrailTableWalk}
use Rattle.script.specs.TableWalks.{FieldTableWalked, is_plain, plain, table_walk_rows}
use Rattle.script.specs.Walks.{HaveNumbers}
use Rattle.script.proofs.Shown.{few_shown, one_more, some_numbers}

-- What passes a test is among what was tested, and no more.

in_passed : {X : Type 0} (p : X → Bool) (x : X) (xs : List X) → In x (filter p xs) → In x xs
in_passed p x [] i = i
in_passed p x (y ∷ ys) i = with_test (in_passed p x ys) (p y) i
  where
    with_test : (In x (filter p ys) → In x ys) → (b : Bool) → In x (cond b (y ∷ filter p ys) (filter p ys)) → In x (y ∷ ys)
    with_test rest true (inl e) = inl e
    with_test rest true (inr j) = inr (rest j)
    with_test rest false j = inr (rest j)

fewer_passed : {X : Type 0} (p : X → Bool) (xs : List X) → length (filter p xs) ≤ length xs
fewer_passed p [] = omega arith
fewer_passed p (y ∷ ys) = with_test (fewer_passed p ys) (p y)
  where
    with_test : length (filter p ys) ≤ length ys → (b : Bool) → length (cond b (y ∷ filter p ys) (filter p ys)) ≤ length (y ∷ ys)
    with_test rest true = omega arith
    with_test rest false = omega arith

-- the one region of a live operation is live
region_live : (s : Context) (t : OpPtr) (r : RegionPtr) → option_map regions_of (operation_at (nodes s) t) ≡ Some (r ∷ []) → is_live (nodes s) (node.Region r) ≡ true
region_live s t r e =
    ∥∥₁_elim s.tables.forest.owned (Bool-set _ true) (λ (w : Owned (nodes s)). with_operation w (operation_at (nodes s) t) refl e)
  where
    with_operation : Owned (nodes s) → (o : Option Operation) → operation_at (nodes s) t ≡ o → option_map regions_of o ≡ Some (r ∷ []) → is_live (nodes s) (node.Region r) ≡ true
    with_operation w None q h = absurd (none_some h)
    with_operation w (Some o) q h =
        let b = w.belongs t o 0 r q (ap (λ (rs : List RegionPtr). item rs 0) (some_same h)) in named_live (nodes s).regions r.handle b.is_live b.record_is

-- The trail behind the wrapper lists the operations that are no tables, and is not asked about others.

module _ (s : Context) where
  abbrev says : OperationsOnly Trail → IRNode → WalkResult (Unit {0})
  says v n = only_answer (λ (t : Trail) (c : Context) (m : IRNode). answer_at t.steering.skip t.steering.end m) v s n

  abbrev listing : Trail → IRNode → Trail
  listing t n = record t { nodes = record t.nodes { now = record { items = more_shown t.nodes.now.items (shown_as t.state.now n) } } }

  abbrev moves : OperationsOnly Trail → IRNode → OperationsOnly Trail
  moves v n = only_next (λ (t : Trail) (c : Context) (m : IRNode). listing t m) v s n

  abbrev Visited : OperationsOnly Trail → IRNode → WalkResult (Unit {0}) → OperationsOnly Trail → Type 0
  Visited = Reads (λ (v : OperationsOnly Trail) (c : Context) (n : IRNode). only_answer (λ (t : Trail) (d : Context) (m : IRNode). answer_at t.steering.skip t.steering.end m) v c n)
      (λ (v : OperationsOnly Trail) (c : Context) (n : IRNode). only_next (λ (t : Trail) (d : Context) (m : IRNode). listing t m) v c n) s

  -- answered nothing by the nodes' names, a trail says Advance
  abbrev free : Steering
  free = record { skip = None; end = None }

  says_in_table : (v : OperationsOnly Trail) → v.inner.steering ≡ free → (n : IRNode) → says v n ≡ answer_in_table s n
  says_in_table v e (node.Operation op) =
      ap (λ (y : Steering). cond (is_table (nodes s) op) Skip (answer_at y.skip y.end (node.Operation op))) e
  says_in_table v e (node.BasicBlock block) = refl
  says_in_table v e (node.Region region) = refl

  stays : {X : Type 0} (f : Trail → X) (b : Bool) (v u : Trail) → f u ≡ f v → f (cond b v u) ≡ f v
  stays f true v u e = refl
  stays f false v u e = e

  steering_stays : (v : OperationsOnly Trail) (n : IRNode) → (moves v n).inner.steering ≡ v.inner.steering
  steering_stays v (node.Operation op) = stays (λ (t : Trail). t.steering) (is_table (nodes s) op) v.inner (listing v.inner (node.Operation op)) refl
  steering_stays v (node.BasicBlock block) = refl
  steering_stays v (node.Region region) = refl

  answered_in_table : {v w : OperationsOnly Trail} {log : List (Shown IRNode (Unit {0}))} → Shows Visited v log w → v.inner.steering ≡ free → AnsweredBy (answer_in_table s) log
  answered_in_table none e = tt
  answered_in_table {v} (more x {log} h t) e =
      (h.0 ∙ says_in_table v e x.node, answered_in_table t (ap (λ (u : OperationsOnly Trail). u.inner.steering) h.1 ∙ steering_stays v x.node ∙ e))

  -- Of a trail and nodes to come: all that is listed in the end, and that there is room for it.
  abbrev listed_in_end : Trail → List IRNode → List Node
  listed_in_end t ns = t.nodes.now.items ++ map (shown_as t.state.now) ns

  abbrev Roomy : Trail → List IRNode → Type 0
  Roomy t ns = length t.nodes.now.items + length ns ≤ 1024

  -- one node more, where it is listed and where it is not
  one_node : (skipped : Bool) (t : Trail) (n : IRNode) (ns : List IRNode) → Roomy t (cond (not skipped) (n ∷ ns) ns)
      → Roomy (cond skipped t (listing t n)) ns × (listed_in_end (cond skipped t (listing t n)) ns ≡ listed_in_end t (cond (not skipped) (n ∷ ns) ns))
  one_node true t n ns le = (le, refl)
  one_node false t n ns le =
      let k = shown_as t.state.now n in
      let items : more_shown t.nodes.now.items k ≡ t.nodes.now.items ++ k ∷ [] = one_more s t.nodes.now.items k (omega arith) in
      let long = length-append t.nodes.now.items (k ∷ []) in
      let size = ap length items in (
        omega arith,
        ap (λ (l : List Node). l ++ map (shown_as t.state.now) ns) items ∙ append_assoc t.nodes.now.items (k ∷ []) (map (shown_as t.state.now) ns),
      )

  one_visit : (v : OperationsOnly Trail) (n : IRNode) (ns : List IRNode) → Roomy v.inner (plain s (n ∷ ns))
      → Roomy (moves v n).inner (plain s ns) × (listed_in_end (moves v n).inner (plain s ns) ≡ listed_in_end v.inner (plain s (n ∷ ns)))
  one_visit v (node.Operation op) ns le = one_node (is_table (nodes s) op) v.inner (node.Operation op) (plain s ns) le
  one_visit v (node.BasicBlock block) ns le = (le, refl)
  one_visit v (node.Region region) ns le = (le, refl)

  listed_plain : {v w : OperationsOnly Trail} {log : List (Shown IRNode (Unit {0}))} → Shows Visited v log w → Roomy v.inner (plain s (shown_nodes log))
      → w.inner.nodes.now.items ≡ listed_in_end v.inner (plain s (shown_nodes log))
  listed_plain {v} none le = sym (append-nil v.inner.nodes.now.items)
  listed_plain {v} (more x {log} h t) le =
      let one = one_visit v x.node (shown_nodes log) le in
      let ns = plain s (shown_nodes log) in
      listed_plain t (subst (λ (u : OperationsOnly Trail). Roomy u.inner ns) (sym h.1) one.0)
      ∙ ap (λ (u : OperationsOnly Trail). listed_in_end u.inner ns) h.1 ∙ one.1

  -- the list is the same one at the end
  same_list : {v w : OperationsOnly Trail} {log : List (Shown IRNode (Unit {0}))} → Shows Visited v log w → w.inner.nodes.ghost_name ≡ v.inner.nodes.ghost_name
  same_list none = refl
  same_list {v} (more x h t) = same_list t ∙ ap (λ (u : OperationsOnly Trail). u.inner.nodes.ghost_name) h.1 ∙ list_stays v x.node
    where
      list_stays : (v : OperationsOnly Trail) (n : IRNode) → (moves v n).inner.nodes.ghost_name ≡ v.inner.nodes.ghost_name
      list_stays v (node.Operation op) = stays (λ (t : Trail). t.nodes.ghost_name) (is_table (nodes s) op) v.inner (listing v.inner (node.Operation op)) refl
      list_stays v (node.BasicBlock block) = refl
      list_stays v (node.Region region) = refl

  pub same_list_at_end : (table : OpPtr) (v : OperationsOnly Trail) (r : Result (Unit {0}) Refusal) (w : OperationsOnly Trail) → TrailTableWalk s table v r w → w.inner.nodes.ghost_name ≡ v.inner.nodes.ghost_name
  same_list_at_end table v (Ok u) w h = same_list h.1.read.shows
  same_list_at_end table v (Err e) w h = ap (λ (u : OperationsOnly Trail). u.inner.nodes.ghost_name) h.1

-- the walk is done, and the trail's list has the operations
pub table_walk_done : (s : State) (value : List ℕ) (table : OpPtr) (v w : OperationsOnly Trail) → (NoNumber value → ⊥) → node_named (operations s) value ≡ Some table
    → v.inner.state.now ≡ s → v.inner.steering ≡ free s.context → v.inner.nodes.now.items ≡ []
    → TrailTableWalk s.context table v (Ok tt) w → (list : List Node) → list ≡ w.inner.nodes.now.items
    → Answers (table_walk_rows s value) (FieldTableWalked s value) s (done list End) s
table_walk_done s value table v w good is state steering empty h list same =
    let c = s.context in
    let walk = h.1.read in
    let seen = shown_nodes walk.log in
    let there = region_live c table h.1.region h.1.is_region in
    let few = few_shown s preorder_forward (node.Region h.1.region) walk.log h.1.says walk.walked there in
    let less = fewer_passed (is_plain c) seen in
    let size = ap length empty in
    let items : list ≡ map (shown_as s) (plain c seen) =
    same ∙ listed_plain c walk.shows (omega arith)
    ∙ ap (λ l. l ++ map (shown_as v.inner.state.now) (plain c seen)) empty
    ∙ ap (λ (u : State). map (shown_as u) (plain c seen)) state in (
      (good, ((λ nothing. none_some (sym nothing ∙ is)), subst (λ p. NoRow (rows_of p (table_rows c))) (sym is) h.0)),
      record {
        table = table;
        names = is;
        region = h.1.region;
        is_region = h.1.is_region;
        log = walk.log;
        says = h.1.says;
        walked = walk.walked;
        answers = answered_in_table c walk.shows steering;
        numbers = subst (HaveNumbers s (plain c seen)) (sym items) (some_numbers s preorder_forward (node.Region h.1.region) walk.log h.1.says walk.walked there (plain c seen) (λ x i. in_passed (is_plain c) x seen i));
        closed = refl;
        kept = refl;
      },
    )
