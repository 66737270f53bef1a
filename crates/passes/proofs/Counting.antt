-- What a visitor that numbers operations leaves after the nodes of a walk. Assumes nothing.
use Rattle.std.proofs.Common.{◌≡◌, ℕ, zero, suc, ◌<◌, ◌≤◌, length, ◌+◌, ◌==◌, ◌&&◌, refl, sym, ap, ap₂, subst, ◌∙◌, List, [], ◌∷◌, ◌++◌, inl, inr, Bool, true, false, cond, is_some, Some, None, Ok, Err, Option, Result, arith}
use mathlib.Core.Logic.{∥∥₁_elim}
use native.Mathlib.Nat.{ℕ_set}
use native.Mathlib.Bridge.{le_prop}
use Rattle.std.proofs.lemmas.Bool.{false_from_ne_true, ne_eqb, true_from_ne_false}
use Rattle.std.proofs.lemmas.List.{length-map}
use Rattle.std.specs.Option.{option_map}
use Rattle.arena.specs.declared.arena.Arena.{Arena}
use Rattle.arena.specs.declared.handle.Handle.{Handle}
use Rattle.arena.specs.Pools.{live}
use Rattle.arena.specs.Recorded.{shelf}
use Rattle.arena.specs.Shelves.{at, item}
use Rattle.arena.proofs.Shelving.{at_live, live_within_items}
use Rattle.linked_list.specs.Links.{Apart, In}
use Rattle.linked_list.proofs.Lists.{in_right, none_some}
use Rattle.trees.specs.Climbs.{Within, below, self}
use Rattle.result.specs.declared.refusal.Refusal.{Refusal}
use Rattle.orders.specs.declared.walk_result.WalkResult.{WalkResult}
use Rattle.orders.specs.declared.walk_result.WalkResult.TheVariants.{Advance, Break, Skip}
use Rattle.orders.specs.Logs.{AllAdvance, GoesOn, Shown, Shows, more, none, nodes as shown_nodes}
use Rattle.orders.specs.Trees.{Tree}
use Rattle.orders.proofs.Lists.{all_in}
use Rattle.orders.proofs.Places.{pigeonhole}
use Rattle.orders.proofs.Logs.{one_walk, seen_once}
use Rattle.records.specs.declared.handles.OpPtr.{OpPtr}
use Rattle.records.specs.declared.ir_node.IRNode.{IRNode}
use Rattle.records.specs.declared.ir_node.IRNode.TheVariants as node
use Rattle.records.specs.declared.operation.Operation.{Operation}
use Rattle.records.specs.Models.{operation_at}
use Rattle.records.specs.Nodes.{parent}
use Rattle.records.specs.Views.{part}
use Rattle.records.specs.Writes.{op_decides}
use Rattle.ir.specs.declared.context.Context.{Context}
use Rattle.ir.specs.Stores.{nodes}
use Rattle.walkers.specs.declared.config.TheConstants.{WALKCONFIG_PREORDER_FORWARD}
use Rattle.walkers.specs.declared.config.WalkConfig.{WalkConfig}
use Rattle.walkers.specs.Children.{directed_children}
use Rattle.records.specs.Children.{Lists, is_live}
use Rattle.walkers.specs.Configs.{early}
use Rattle.walkers.specs.Links.{place_of, raw}
use Rattle.walkers.specs.Notes.{OnlyNotes, note_of, same_op, unnoted}
use Rattle.walkers.specs.Walks.{WalkMutCall, WalkedIn, WholeIn, Writes}
use Rattle.walkers.proofs.Stores.{grows, some_lists}
use Rattle.passes.specs.declared.numbering.Numberer.{Numberer}
use Rattle.passes.specs.Numberings.{last_number, numbered, numbering_answer, numbering_notes}
use Rattle.passes.specs.Subtrees.{NumberCall, operations_in}

abbrev Log : Type 0
Log = List (Shown IRNode (Unit {0}))

-- what the visitor does at a node
abbrev Visits : Numberer × Context → IRNode → WalkResult (Unit {0}) → Numberer × Context → Type 0
Visits = Writes (λ v s n. numbering_answer v.count n) (λ v s n. record { count = numbered v.count n }) (λ v s n. numbering_notes v.count s n)

-- a node's note, where it is another node's turn, and where it is its own
stays : (c : ℕ) (s : Context) (n : IRNode) (op : OpPtr) → (node.Operation op ≡ n → ⊥) → numbering_notes c s n op ≡ note_of (nodes s) op
stays c s (node.Operation p) op h =
    ap (λ i. cond (i && is_some (operation_at (nodes s) p)) c (note_of (nodes s) op)) (false_from_ne_true (same_op op p) (λ e. h (ap node.Operation ((op_decides op p).0 e))))
stays c s (node.BasicBlock block) op h = refl
stays c s (node.Region region) op h = refl

own : (c : ℕ) (s : Context) (n : IRNode) (op : OpPtr) → n ≡ node.Operation op → is_some (operation_at (nodes s) op) ≡ true → numbering_notes c s n op ≡ c
own c s n op q l =
    ap (λ m. numbering_notes c s m op) q ∙ ap₂ (λ i j. cond (i && j) c (note_of (nodes s) op)) ((op_decides op op).1 refl) l

-- the number after a node, where the answer ends no walk
one_more : (b : Bool) (c k : ℕ) → GoesOn {B = Unit {0}} (cond b (Break tt) Advance) → cond b c (c + 1) + k ≡ c + suc k
one_more true c k g = absurd g
one_more false c k g = omega arith

counted : (c : ℕ) (n : IRNode) (ns : List IRNode) → GoesOn (numbering_answer c n) → numbered c n + operations_in ns ≡ c + operations_in (n ∷ ns)
counted c (node.Operation op) ns g = one_more (c == last_number) c (operations_in ns) g
counted c (node.BasicBlock block) ns g = refl
counted c (node.Region region) ns g = refl

-- setting notes keeps which operations are there
is_some_map : {A C : Type 0} (f : A → C) (o : Option A) → is_some (option_map f o) ≡ is_some o
is_some_map f None = refl
is_some_map f (Some x) = refl

still_there : (s t : Context) (op : OpPtr) → OnlyNotes s t → is_some (operation_at (nodes s) op) ≡ true → is_some (operation_at (nodes t) op) ≡ true
still_there s t op k l =
    sym (is_some_map unnoted (operation_at (nodes t) op)) ∙ ap is_some (k.kept.operations op) ∙ is_some_map unnoted (operation_at (nodes s) op) ∙ l

-- No number is the last one: a walk shows no more nodes than there are places.

one_number : (b : Bool) (c : ℕ) → cond b c (c + 1) ≤ c + 1
one_number true c = omega arith
one_number false c = omega arith

goes_up : (c : ℕ) (n : IRNode) → numbered c n ≤ c + 1
goes_up c (node.Operation op) = one_number (c == last_number) c
goes_up c (node.BasicBlock block) = omega arith
goes_up c (node.Region region) = omega arith

advances : (c : ℕ) (n : IRNode) → c < 1024 → numbering_answer c n ≡ Advance
advances c (node.Operation op) h = ap (λ b. cond b (Break tt) Advance) (ne_eqb c last_number (λ e. omega arith))
advances c (node.BasicBlock block) h = refl
advances c (node.Region region) h = refl

all_advance : {x z : Numberer × Context} {log : Log} → Shows Visits x log z → x.0.count + length (shown_nodes log) ≤ 1024 → AllAdvance log
all_advance none h = tt
all_advance (more {x} {y} s {log} v t) h =
    let up = goes_up x.0.count s.node in
    let is = ap (λ (w : Numberer). w.count) v.1 in (v.0 ∙ advances x.0.count s.node (omega arith), all_advance t (omega arith))

module _ (s : Context) (k : WalkConfig) (root : IRNode) (log : Log) (r : WalkResult (Unit {0})) (w : WalkedIn s k root log r) (there : is_live (nodes s) root ≡ true) where
  -- what lies within a live node is live
  alive : (t : Tree (raw (nodes s))) (x : IRNode) → Within (parent (nodes s)) root x → is_live (nodes s) x ≡ true
  unfolding raw
  alive t x (self e) = ap (is_live (nodes s)) e ∙ there
  alive t x (below p u v) = (t.family.alive p x u).0

  few_shown : length (shown_nodes log) ≤ 1024
  unfolding raw
  few_shown =
      ∥∥₁_elim (some_lists s) le_prop (λ (l : Lists (nodes s)).
      ∥∥₁_elim (grows s) le_prop (λ (t : Tree (raw (nodes s))).
      let seen = seen_once (parent (nodes s)) (early k) (directed_children k (nodes s) l) root log r (w l) in
      pigeonhole (is_live (nodes s)) place_of 1024 t.family.placed t.family.sole (shown_nodes log) (all_in (λ y. is_live (nodes s) y ≡ true) (shown_nodes log) (λ x i. alive t x (seen.within x i))) seen.once))

none_before : (bs after : List IRNode) (n : IRNode) → [] ≡ bs ++ (n ∷ after) → ⊥
none_before [] after n e = cc
none_before (b ∷ bs) after n e = cc

head_is : {a b : IRNode} {xs ys : List IRNode} → a ∷ xs ≡ b ∷ ys → a ≡ b
head_is e = cc

tail_is : {a b : IRNode} {xs ys : List IRNode} → a ∷ xs ≡ b ∷ ys → xs ≡ ys
tail_is e = cc

-- an operation that was not shown keeps its note
others : {x z : Numberer × Context} {log : Log} → Shows Visits x log z → (op : OpPtr) → (In (node.Operation op) (shown_nodes log) → ⊥) → note_of (nodes z.1) op ≡ note_of (nodes x.1) op
others none op h = refl
others (more {x} s v t) op h = others t op (λ i. h (inr i)) ∙ v.2.notes_are op ∙ stays x.0.count x.1 s.node op (λ e. h (inl e))

-- an operation that was shown has its number
numbers : {x z : Numberer × Context} {log : Log} → Shows Visits x log z → AllAdvance log → Apart (shown_nodes log) → (op : OpPtr) (before after : List IRNode)
    → is_some (operation_at (nodes x.1) op) ≡ true → shown_nodes log ≡ before ++ (node.Operation op ∷ after) → note_of (nodes z.1) op ≡ x.0.count + operations_in before
numbers none g a op before after l e = absurd (none_before before after (node.Operation op) e)
numbers (more {x} s {log} v t) g a op [] after l e =
    let q : s.node ≡ node.Operation op = head_is e in
    let z : x.0.count ≡ x.0.count + 0 = omega arith in
    others t op (λ i. a.0 (subst (λ n. In n (shown_nodes log)) (sym q) i)) ∙ v.2.notes_are op ∙ own x.0.count x.1 s.node op q l ∙ z
numbers (more {x} {y} s {log} v t) g a op (b ∷ bs) after l e =
    let on : GoesOn (numbering_answer x.0.count s.node) = subst GoesOn (sym g.0 ∙ v.0) tt in
    numbers t g.1 a.1 op bs after (still_there x.1 y.1 op v.2.only l) (tail_is e)
    ∙ ap (λ (w : Numberer). w.count + operations_in bs) v.1 ∙ counted x.0.count s.node bs on ∙ ap (λ n. x.0.count + operations_in (n ∷ bs)) (head_is e)

-- an operation that a walk showed is there
item_some : {T : Type 0} (xs : List T) (n : ℕ) → n < length xs → is_some (item xs n) ≡ true
item_some [] n h = absurd (omega (arith, h))
item_some (x ∷ xs) zero h = refl
item_some (x ∷ xs) (suc n) h = item_some xs n (omega (arith, h))

live_some : {T : Type 0} (a : Arena T) (h : Handle) → live (shelf a).pool h ≡ true → is_some (at (shelf a) h) ≡ true
live_some a h e =
    let n = live_within_items a h e in
    let l = length-map a.places.items (λ q. q.value) in
    ap is_some (at_live (shelf a) h e) ∙ item_some (shelf a).records h.place (omega arith)

placed_some : (o : Option Operation) (k : IRNode) → option_map node.BasicBlock (part (λ (x : Operation). x.container) o) ≡ Some k → is_some o ≡ true
placed_some None k e = absurd (none_some e)
placed_some (Some x) k e = refl

shown_there : (s : Context) (root op : OpPtr) → is_live (nodes s) (node.Operation root) ≡ true → Within (parent (nodes s)) (node.Operation root) (node.Operation op) → is_some (operation_at (nodes s) op) ≡ true
shown_there s root op h (self e) =
    let q : op ≡ root = cc in
    ap (λ (p : OpPtr). is_some (operation_at (nodes s) p)) q ∙ live_some s.tables.forest.records.operations root.handle h
shown_there s root op h (below k e v) = placed_some (operation_at (nodes s) op) k e

settle : (say : WalkResult (Unit {0})) → ((say ≡ Advance → ⊥) → ⊥) → say ≡ Advance
settle Advance h = refl
settle Skip h = absurd (h (λ e. cc))
settle (Break b) h = absurd (h (λ e. cc))

pub number_call : (s t : Context) (root : OpPtr) (v w : Numberer) (r : Result (WalkResult (Unit {0})) Refusal) → v.count ≡ 0
    → WalkMutCall (λ v s n. numbering_answer v.count n) (λ v s n. record { count = numbered v.count n }) (λ v s n. numbering_notes v.count s n) s WALKCONFIG_PREORDER_FORWARD (node.Operation root) v r w t
    → NumberCall s root r t
number_call s t root v w (Ok say) z h =
    let k = h.1 in
    let live = true_from_ne_false _ h.0.0 in
    let few = few_shown s WALKCONFIG_PREORDER_FORWARD (node.Operation root) k.log say k.walked live in
    let on : AllAdvance k.log = all_advance k.shows (omega arith) in
    let whole : WholeIn s WALKCONFIG_PREORDER_FORWARD (node.Operation root) (shown_nodes k.log) = λ l. (one_walk _ _ _ (node.Operation root) k.log say (k.walked l) on).0 in (
      h.0,
      record {
        order = shown_nodes k.log;
        whole = whole;
        numbers = λ op before after e.
            ∥∥₁_elim (some_lists s) (ℕ_set _ _) (λ (lists : Lists (nodes s)).
            let i : In (node.Operation op) (shown_nodes k.log) = subst (In (node.Operation op)) (sym e) (in_right (node.Operation op) before (node.Operation op ∷ after) (inl refl)) in
            let l = shown_there s root op live ((whole lists).below (node.Operation op) i) in
            numbers k.shows on (whole lists).once op before after l e ∙ ap (λ c. c + operations_in before) z ∙ omega arith);
        others = others k.shows;
        only = k.only;
        says = settle say (λ no. ∥∥₁_elim (some_lists s) (λ a b. absurd a) (λ (l : Lists (nodes s)). no (one_walk _ _ _ (node.Operation root) k.log say (k.walked l) on).1));
      },
    )
number_call s t root v w (Err e) z h = (h.0, ap (λ (x : Numberer × Context). x.1) h.1)
