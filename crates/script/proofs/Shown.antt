-- A walk of a script: every node shown has a number, and there is one log.
use Rattle.std.proofs.Common.{◌≡◌, ℕ, ◌+◌, ◌<◌, ◌≤◌, Bool, true, cond, List, [], ◌∷◌, ◌++◌, ◌⊎◌, length, map, slice_get, Some, None, Option, Ok, Err, Result, sym, refl, ap, ap₂, ◌∙◌, subst, inl, inr, ⊎_elim, append_assoc, append-nil, arith, length-append}
use mathlib.Core.HLevel.{×_prop, hedberg}
use mathlib.Core.Logic.{∥∥₁_elim}
use mathlib.Core.List.{is_set}
use native.Mathlib.Bridge.{le_prop}
use Rattle.std.specs.Option.{option_map}
use Rattle.std.proofs.lemmas.Bool.{ne_eqb}
use Rattle.result.specs.declared.refusal.Refusal.{Refusal}
use Rattle.arena.proofs.Pooling.{live_within}
use Rattle.linked_list.specs.Links.{In}
use Rattle.linked_list.proofs.Lists.{none_some, some_same}
use Rattle.trees.specs.Climbs.{Within, self, below}
use Rattle.trees.proofs.Climbing.{option_set}
use Rattle.orders.specs.declared.walk_result.WalkResult.{WalkResult}
use Rattle.orders.specs.declared.walk_result.WalkResult.TheVariants as say
use Rattle.orders.specs.Logs.{Shown, Shows, more, nodes as shown_nodes, none, shown}
use Rattle.orders.specs.Trees.{Tree}
use Rattle.orders.proofs.Lists.{all_in}
use Rattle.orders.proofs.Logs.{seen_once}
use Rattle.orders.proofs.Places.{pigeonhole}
use Rattle.records.specs.declared.handles.BlockPtr.{BlockPtr}
use Rattle.records.specs.declared.handles.OpPtr.{OpPtr}
use Rattle.records.specs.declared.handles.RegionPtr.{RegionPtr}
use Rattle.records.specs.declared.ir_node.IRNode.{IRNode}
use Rattle.records.specs.declared.ir_node.IRNode.TheVariants as node
use Rattle.records.specs.Models.{Model}
use Rattle.records.specs.Nodes.{parent}
use Rattle.forest.proofs.Above.{node_same}
use Rattle.ir.specs.declared.context.Context.{Context}
use Rattle.ir.specs.Stores.{nodes}
use Rattle.walkers.specs.declared.config.WalkConfig.{WalkConfig}
use Rattle.walkers.specs.Children.{directed_children}
use Rattle.records.specs.Children.{Lists, is_live}
use Rattle.walkers.specs.Links.{place_of, raw}
use Rattle.walkers.specs.Configs.{early}
use Rattle.walkers.specs.Walks.{Reads, WalkedIn}
use Rattle.walkers.proofs.Stores.{grows, have, kids_are, some_lists, up_is}
use Rattle.script.specs.declared.node.Node.{Node}
use Rattle.script.specs.declared.node.Node.TheVariants.{Operation, Block, Region}
use Rattle.script.specs.declared.state.State.{State}
use Rattle.script.specs.declared.steering.Steering.{Steering}
use Rattle.script.specs.declared.trail.Trail.{Trail}
use Rattle.script.specs.Answers.{AnsweredBy, Steered, answer_at}
use Rattle.script.specs.Found.{AllFound}
use Rattle.script.specs.Listed.{more_shown, shown_as}
use Rattle.script.specs.Sessions.{operations, blocks, regions}
use Rattle.script.specs.Trails.{TrailWalk}
use Rattle.script.specs.Walks.{HasNumber, HaveNumbers, node_given, number_in}
use Rattle.script.proofs.Keeping.{blocks_long, ops_long, regions_long}
use Rattle.script.proofs.Steered.{Told, one_log}

-- A node has one number.

module _ {T : Type 0} (f : T → IRNode) where
  mapped : (o : Option T) (x : IRNode) → option_map f o ≡ Some x → (y : T) × (f y ≡ x)
  mapped None x e = absurd (none_some e)
  mapped (Some y) x e = (y, some_same e)

  unmapped : ((y z : T) → f y ≡ f z → y ≡ z) → (o : Option T) (y : T) → option_map f o ≡ Some (f y) → o ≡ Some y
  unmapped inj None y e = absurd (none_some e)
  unmapped inj (Some z) y e = ap Some (inj z y (some_same e))

op_block : {a : OpPtr} {b : BlockPtr} → node.Operation a ≡ node.BasicBlock b → ⊥
op_block e = cc

op_region : {a : OpPtr} {b : RegionPtr} → node.Operation a ≡ node.Region b → ⊥
op_region e = cc

block_region : {a : BlockPtr} {b : RegionPtr} → node.BasicBlock a ≡ node.Region b → ⊥
block_region e = cc

op_once : (a b : OpPtr) → node.Operation a ≡ node.Operation b → a ≡ b
op_once a b e = cc

block_once : (a b : BlockPtr) → node.BasicBlock a ≡ node.BasicBlock b → a ≡ b
block_once a b e = cc

region_once : (a b : RegionPtr) → node.Region a ≡ node.Region b → a ≡ b
region_once a b e = cc

module _ (s : State) (x : IRNode) where
  equal : (n m : Node) → HasNumber s x n → HasNumber s x m → number_in n ≡ number_in m
  equal n m h k = let p = h.last m k.given in let q = k.last n h.given in omega arith

  is_op : (n : ℕ) → HasNumber s x (Operation n) → (y : OpPtr) × (node.Operation y ≡ x)
  is_op n h = mapped node.Operation (slice_get (operations s) n) x h.given

  is_block : (n : ℕ) → HasNumber s x (Block n) → (y : BlockPtr) × (node.BasicBlock y ≡ x)
  is_block n h = mapped node.BasicBlock (slice_get (blocks s) n) x h.given

  is_region : (n : ℕ) → HasNumber s x (Region n) → (y : RegionPtr) × (node.Region y ≡ x)
  is_region n h = mapped node.Region (slice_get (regions s) n) x h.given

  one_number : (n m : Node) → HasNumber s x n → HasNumber s x m → n ≡ m
  one_number (Operation n) (Operation m) h k = ap Operation (equal (Operation n) (Operation m) h k)
  one_number (Operation n) (Block m) h k = absurd (op_block ((is_op n h).1 ∙ sym (is_block m k).1))
  one_number (Operation n) (Region m) h k = absurd (op_region ((is_op n h).1 ∙ sym (is_region m k).1))
  one_number (Block n) (Operation m) h k = absurd (op_block ((is_op m k).1 ∙ sym (is_block n h).1))
  one_number (Block n) (Block m) h k = ap Block (equal (Block n) (Block m) h k)
  one_number (Block n) (Region m) h k = absurd (block_region ((is_block n h).1 ∙ sym (is_region m k).1))
  one_number (Region n) (Operation m) h k = absurd (op_region ((is_op m k).1 ∙ sym (is_region n h).1))
  one_number (Region n) (Block m) h k = absurd (block_region ((is_block m k).1 ∙ sym (is_region n h).1))
  one_number (Region n) (Region m) h k = ap Region (equal (Region n) (Region m) h k)

pub one_numbers : (s : State) (xs : List IRNode) (ns ms : List Node) → HaveNumbers s xs ns → HaveNumbers s xs ms → ns ≡ ms
one_numbers s [] [] [] h k = refl
one_numbers s [] (n ∷ ns) ms h k = absurd h
one_numbers s [] [] (m ∷ ms) h k = absurd k
one_numbers s (x ∷ xs) [] ms h k = absurd h
one_numbers s (x ∷ xs) (n ∷ ns) [] h k = absurd k
one_numbers s (x ∷ xs) (n ∷ ns) (m ∷ ms) h k = ap₂ (λ (y : Node) (ys : List Node). y ∷ ys) (one_number s x n m h.0 k.0) (one_numbers s xs ns ms h.1 k.1)

-- A walk has one log.

says_same : (a b : WalkResult (Unit {0})) → (a ≡ b) ⊎ (a ≡ b → ⊥)
says_same say.Advance say.Advance = inl refl
says_same say.Advance say.Skip = inr (λ e. cc)
says_same say.Advance (say.Break b) = inr (λ e. cc)
says_same say.Skip say.Advance = inr (λ e. cc)
says_same say.Skip say.Skip = inl refl
says_same say.Skip (say.Break b) = inr (λ e. cc)
says_same (say.Break a) say.Advance = inr (λ e. cc)
says_same (say.Break a) say.Skip = inr (λ e. cc)
says_same (say.Break a) (say.Break b) = inl refl

abbrev One : Type 0
One = Shown IRNode (Unit {0})

shown_same : (a b : One) → (a ≡ b) ⊎ (a ≡ b → ⊥)
shown_same a b =
    elim (node_same a.node b.node) [
      | inl e ↦ elim (says_same a.answer b.answer) [
        | inl q ↦ inl (ap₂ (λ (x : IRNode) (y : WalkResult (Unit {0})). shown x y) e q)
        | inr n ↦ inr (λ z. n (ap (λ (x : One). x.answer) z))
      ]
      | inr n ↦ inr (λ z. n (ap (λ (x : One). x.node) z))
    ]

logs_set : IsSet (List One)
logs_set = is_set (hedberg (λ a b. ⊎_elim (λ e. yes e) (λ ne. no ne) (shown_same a b)))

says_set : IsSet (WalkResult (Unit {0}))
says_set = hedberg (λ a b. ⊎_elim (λ e. yes e) (λ ne. no ne) (says_same a b))

module _ (s : Context) (k : WalkConfig) (root : IRNode) (answer : IRNode → WalkResult (Unit {0})) where
  abbrev m : Model
  m = nodes s

  listed : (l : Lists m) (n c : IRNode) → parent m c ≡ Some n → In c (directed_children k m l n)
  listed l n c e = subst (λ (f : IRNode → List IRNode). In c (f n)) (kids_are s k l) ((have s k).listed n c (up_is m k c ∙ e))

  told : (l : Lists m) (log : List One) → AnsweredBy answer log → Told (parent m) (early k) (directed_children k m l) (listed l) answer log
  told l [] h = tt
  told l (x ∷ log) h = (h.0, told l log h.1)

  pub one_walk : (log log' : List One) (r q : WalkResult (Unit {0})) → WalkedIn s k root log r → WalkedIn s k root log' q → AnsweredBy answer log → AnsweredBy answer log' → (log ≡ log') × (r ≡ q)
  one_walk log log' r q w w' t t' =
      ∥∥₁_elim (some_lists s) (×_prop (logs_set log log') (says_set r q)) (λ (l : Lists m).
      one_log (parent m) (early k) (directed_children k m l) (listed l) answer root log log' r q (told l log t) (told l log' t') (w l) (w' l))

-- Every node shown has a number.

options : IsSet (Option IRNode)
options = option_set node_same

has_prop : (s : State) (x : IRNode) (n : Node) → IsProp (HasNumber s x n)
has_prop s x n a b = λ i. record { given = options _ _ a.given b.given i; last = λ m h. le_prop (a.last m h) (b.last m h) i }

module _ (s : State) (f : AllFound (nodes s.context) s.operations s.blocks s.regions) where
  abbrev tables : Model
  tables = nodes s.context

  -- a live node has the number that is shown
  live_number : (x : IRNode) → is_live tables x ≡ true → HasNumber s x (shown_as s x)
  live_number (node.Operation p) e =
      let l = live_within tables.operations.pool p.handle e in
      let z = ops_long s.context in
      record {
        given = ap (option_map node.Operation) (f.operations_found.finds p e);
        last = λ n h. last_op n h;
      }
    where
      last_op : (n : Node) → node_given s n ≡ Some (node.Operation p) → number_in n ≤ number_in (shown_as s (node.Operation p))
      last_op (Operation n) h =
          let l = live_within tables.operations.pool p.handle e in
          let z = ops_long s.context in f.operations_found.last n p (unmapped node.Operation op_once (slice_get (operations s) n) p h) (omega arith)
      last_op (Block n) h = absurd (op_block (sym (mapped node.BasicBlock (slice_get (blocks s) n) (node.Operation p) h).1))
      last_op (Region n) h = absurd (op_region (sym (mapped node.Region (slice_get (regions s) n) (node.Operation p) h).1))
  live_number (node.BasicBlock p) e = record {
    given = ap (option_map node.BasicBlock) (f.blocks_found.finds p e);
    last = λ n h. last_block n h;
  }
    where
      last_block : (n : Node) → node_given s n ≡ Some (node.BasicBlock p) → number_in n ≤ number_in (shown_as s (node.BasicBlock p))
      last_block (Operation n) h = absurd (op_block (mapped node.Operation (slice_get (operations s) n) (node.BasicBlock p) h).1)
      last_block (Block n) h =
          let l = live_within tables.blocks.pool p.handle e in
          let z = blocks_long s.context in f.blocks_found.last n p (unmapped node.BasicBlock block_once (slice_get (blocks s) n) p h) (omega arith)
      last_block (Region n) h = absurd (block_region (sym (mapped node.Region (slice_get (regions s) n) (node.BasicBlock p) h).1))
  live_number (node.Region p) e = record {
    given = ap (option_map node.Region) (f.regions_found.finds p e);
    last = λ n h. last_region n h;
  }
    where
      last_region : (n : Node) → node_given s n ≡ Some (node.Region p) → number_in n ≤ number_in (shown_as s (node.Region p))
      last_region (Operation n) h = absurd (op_region (mapped node.Operation (slice_get (operations s) n) (node.Region p) h).1)
      last_region (Block n) h = absurd (block_region (mapped node.BasicBlock (slice_get (blocks s) n) (node.Region p) h).1)
      last_region (Region n) h =
          let l = live_within tables.regions.pool p.handle e in
          let z = regions_long s.context in f.regions_found.last n p (unmapped node.Region region_once (slice_get (regions s) n) p h) (omega arith)

pub number_of_live : (s : State) (x : IRNode) → is_live (nodes s.context) x ≡ true → HasNumber s x (shown_as s x)
number_of_live s x e = ∥∥₁_elim s.found (has_prop s x (shown_as s x)) (λ (f : AllFound (nodes s.context) s.operations s.blocks s.regions). live_number s f x e)

module _ (s : State) (k : WalkConfig) (root : IRNode) (log : List One) (r : WalkResult (Unit {0})) (w : WalkedIn s.context k root log r) (there : is_live (nodes s.context) root ≡ true) where
  abbrev stored : Model
  stored = nodes s.context

  -- what lies below a live node is live
  alive : (t : Tree (raw stored)) (x : IRNode) → Within (parent stored) root x → is_live stored x ≡ true
  unfolding raw
  alive t x (self e) = ap (is_live stored) e ∙ there
  alive t x (below p u v) = (t.family.alive p x u).0

  shown_live : (l : Lists stored) (t : Tree (raw stored)) (x : IRNode) → In x (shown_nodes log) → is_live stored x ≡ true
  shown_live l t x i = alive t x ((seen_once _ _ _ root log r (w l)).within x i)

  -- no more nodes are shown than there are places
  pub few_shown : length (shown_nodes log) ≤ 1024
  unfolding raw
  few_shown =
      ∥∥₁_elim (some_lists s.context) le_prop (λ (l : Lists stored).
      ∥∥₁_elim (grows s.context) le_prop (λ (t : Tree (raw stored)).
      pigeonhole (is_live stored) place_of 1024 t.family.placed t.family.sole (shown_nodes log) (all_in (λ y. is_live stored y ≡ true) (shown_nodes log) (shown_live l t)) (seen_once _ _ _ root log r (w l)).once))

  has_number : (x : IRNode) → In x (shown_nodes log) → HasNumber s x (shown_as s x)
  has_number x i =
      ∥∥₁_elim (some_lists s.context) (has_prop s x (shown_as s x)) (λ (l : Lists stored).
      ∥∥₁_elim (grows s.context) (has_prop s x (shown_as s x)) (λ (t : Tree (raw stored)). number_of_live s x (shown_live l t x i)))

  numbers_of : (xs : List IRNode) → ((x : IRNode) → In x xs → HasNumber s x (shown_as s x)) → HaveNumbers s xs (map (shown_as s) xs)
  numbers_of [] h = tt
  numbers_of (x ∷ xs) h = (h x (inl refl), numbers_of xs (λ y i. h y (inr i)))

  pub have_numbers : HaveNumbers s (shown_nodes log) (map (shown_as s) (shown_nodes log))
  have_numbers = numbers_of (shown_nodes log) has_number

  -- and so have some of the nodes shown
  pub some_numbers : (xs : List IRNode) → ((x : IRNode) → In x xs → In x (shown_nodes log)) → HaveNumbers s xs (map (shown_as s) xs)
  some_numbers xs among = numbers_of xs (λ x i. has_number x (among x i))

-- The trail lists what it is shown, and answers as is asked.

module _ (s : Context) where
  abbrev says : Trail → Context → IRNode → WalkResult (Unit {0})
  says t c n = answer_at t.steering.skip t.steering.end n

  abbrev moves : Trail → Context → IRNode → Trail
  moves t c n = record t { nodes = record t.nodes { now = record { items = more_shown t.nodes.now.items (shown_as t.state.now n) } } }

  pub steered : {v w : Trail} {log : List One} → Shows (Reads says moves s) v log w → Steered v.steering.skip v.steering.end log
  steered none = tt
  steered (more x {log} h t) = (h.0, subst (λ (y : Steering). Steered y.skip y.end log) (ap (λ (y : Trail). y.steering) h.1) (steered t))

  pub one_more : (xs : List Node) (n : Node) → length xs < 1024 → more_shown xs n ≡ xs ++ n ∷ []
  one_more xs n lt = ap (λ (b : Bool). cond b xs (xs ++ n ∷ [])) (ne_eqb (length xs) 1024 (λ e. omega arith))

  pub listed_all : {v w : Trail} {log : List One} → Shows (Reads says moves s) v log w → length v.nodes.now.items + length (shown_nodes log) ≤ 1024
      → w.nodes.now.items ≡ v.nodes.now.items ++ map (shown_as v.state.now) (shown_nodes log)
  listed_all {v} none le = sym (append-nil v.nodes.now.items)
  listed_all {v} (more {y} {z} x {log} h t) le =
      let n = shown_as v.state.now x.node in
      let items : y.nodes.now.items ≡ v.nodes.now.items ++ n ∷ [] = ap (λ (u : Trail). u.nodes.now.items) h.1 ∙ one_more v.nodes.now.items n (omega arith) in
      let long = length-append v.nodes.now.items (n ∷ []) in
      let size = ap length items in
      listed_all t (omega arith)
      ∙ ap₂ (λ (l : List Node) (u : State). l ++ map (shown_as u) (shown_nodes log)) items (ap (λ (u : Trail). u.state.now) h.1)
      ∙ append_assoc v.nodes.now.items (n ∷ []) (map (shown_as v.state.now) (shown_nodes log))

  -- the list that a walk's nodes are put into is the same one at the end
  pub same_list : {v w : Trail} {log : List One} → Shows (Reads says moves s) v log w → w.nodes.ghost_name ≡ v.nodes.ghost_name
  same_list none = refl
  same_list (more x h t) = same_list t ∙ ap (λ (u : Trail). u.nodes.ghost_name) h.1

  pub same_list_at_end : (k : WalkConfig) (root : IRNode) (v : Trail) (r : Result (WalkResult (Unit {0})) Refusal) (w : Trail) → TrailWalk s k root v r w → w.nodes.ghost_name ≡ v.nodes.ghost_name
  same_list_at_end k root v (Ok x) w h = same_list h.1.shows
  same_list_at_end k root v (Err e) w h = ap (λ (u : Trail). u.nodes.ghost_name) h.1
