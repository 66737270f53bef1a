-- The line call has one answer.
use Rattle.std.proofs.Common.{◌≡◌, ℕ, ◌<◌, List, [], ◌∷◌, ◌++◌, length, drop, Some, Option, Ok, Result, sym, refl, ap, ◌∙◌, subst, inl, inr, arith}
use Rattle.std.specs.Option.{option_map, option_to_list}
use Rattle.result.specs.declared.refusal.Refusal.{Refusal}
use Rattle.result.proofs.Rows.{no_row, one_row}
use Rattle.records.specs.declared.kind.Kind.{Kind}
use Rattle.records.specs.declared.handles.BlockPtr.{BlockPtr}
use Rattle.records.specs.declared.handles.OpPtr.{OpPtr}
use Rattle.records.specs.declared.making.MadeOperation.{MadeOperation}
use Rattle.records.specs.Makings.{operation_made}
use Rattle.records.proofs.Sums.{one_kind}
use Rattle.linked_list.proofs.Lists.{some_same}
use Rattle.orders.specs.Logs.{Shown, nodes as shown_nodes}
use Rattle.records.specs.declared.handles.RegionPtr.{RegionPtr}
use Rattle.records.specs.declared.ir_node.IRNode.{IRNode}
use Rattle.records.specs.declared.ir_node.IRNode.TheVariants as node
use Rattle.records.specs.Models.{operation_at}
use Rattle.records.specs.Nodes.{regions_of}
use Rattle.walkers.specs.Configs.{preorder_forward}
use Rattle.walkers.specs.Walks.{WalkedIn}
use Rattle.ir.specs.declared.context.Context.{Context}
use Rattle.ir.specs.Erasings.{EraseBlockCall, EraseOpCall}
use Rattle.ir.specs.Linkings.{InsertBlockCall, InsertOpCall, UnlinkBlockCall, UnlinkOpCall}
use Rattle.ir.specs.Tables.{EraseSymbolCall, InsertSymbolCall, LookupCall, NearestLookupCall, RemoveSymbolCall}
use Rattle.ir.specs.Stores.{nodes}
use Rattle.script.specs.declared.node.Node.{Node}
use Rattle.script.specs.declared.node.Node.TheVariants.{Operation, Block, Region}
use Rattle.script.specs.declared.node.Close.{Close}
use Rattle.script.specs.declared.state.State.{State}
use Rattle.script.specs.declared.tag.Tag.{Tag}
use Rattle.script.specs.declared.tag.Tag.TheVariants.{MakeOperation, MakeBlock, LinkOperation, LinkBlock, UnlinkOperation, UnlinkBlock, InsertSymbol, RemoveSymbol, EraseSymbol, EraseOperation, EraseBlock, Lookup, NearestLookup, Walk, TableWalk}
use Rattle.script.specs.declared.steering.Steering.{Steering}
use Rattle.script.specs.declared.line.Line.{Line}
use Rattle.script.specs.declared.line.Line.TheVariants as line
use Rattle.script.specs.Prints.{Answer, refused, done, Lined, line_bytes}
use Rattle.script.specs.Fields.{tag_at, value_at}
use Rattle.script.specs.Tags.{Unlisted}
use Rattle.script.proofs.Bytes.{listed, one_tag}
use Rattle.script.specs.Numbers.{nodes_from}
use Rattle.script.specs.Sessions.{operations, blocks, regions, next_operation, next_block, next_region}
use Rattle.script.specs.Makes.{kind_in, regions_in, name_in, operation_field_rows, block_field_rows, OperationFieldMade, BlockFieldMade}
use Rattle.script.specs.Linkings.{Edited, operation_link, block_link, node_named, operation_link_rows, block_link_rows, operation_unlink_rows, block_unlink_rows, OperationFieldLinked, BlockFieldLinked, OperationFieldUnlinked, BlockFieldUnlinked}
use Rattle.script.specs.Erasings.{operation_erase_rows, block_erase_rows, OperationFieldErased, BlockFieldErased}
use Rattle.script.specs.Symbols.{insert_named, pair_named, symbol_insert_rows, symbol_remove_rows, SymbolFieldErased, SymbolFieldInserted, SymbolFieldRemoved}
use Rattle.script.specs.Lookups.{LookedUp, LookedUpInNearest, LookedUpInTable, Tells, name_sought, nearest_table_lookup_rows, table_lookup_rows}
use Rattle.script.proofs.Looking.{one_lookup, one_nearest_lookup, one_telling}
use Rattle.script.specs.Answers.{Steered, answer_at, answer_in_table}
use Rattle.script.specs.Walks.{FieldWalked, HaveNumbers, close_of, config_asked, walk_rows}
use Rattle.script.specs.TableWalks.{FieldTableWalked, plain, table_walk_rows}
use Rattle.script.proofs.Shown.{one_numbers, one_walk}
use Rattle.script.specs.Runs.{Answers, TagRun, ByteRun, FieldRun, Alike, OneLine}

-- two answers to a field that are one, with the same handles under the same numbers after
record One (a : Answer) (t : State) (b : Answer) (u : State) : Type 0 where
  answers : a ≡ b
  operations_too : operations t ≡ operations u
  blocks_too : blocks t ≡ blocks u
  regions_too : regions t ≡ regions u

-- nothing is done twice
still : (s : State) (a b : Answer) (t u : State) → a ≡ b → t ≡ s → u ≡ s → One a t b u
still s a b t u is p q = record {
  answers = is;
  operations_too = ap operations (p ∙ sym q);
  blocks_too = ap blocks (p ∙ sym q);
  regions_too = ap regions (p ∙ sym q);
}

same_done : (ns ms : List Node) (c d : Close) → ns ≡ ms → c ≡ d → done ns c ≡ done ms d
same_done ns ms c d p q = cc

-- rows have one answer, if what is done where none fits is one
one_answer : (rows : List (Refusal × Type 0)) (does : List Node → Close → State → Type 0) (s : State) (a b : Answer) (t u : State)
    → ((ns ms : List Node) (c d : Close) → does ns c t → does ms d u → One (done ns c) t (done ms d) u)
    → Answers rows does s a t → Answers rows does s b u → One a t b u
one_answer rows does s (done ns c) (done ms d) t u once h k = once ns ms c d h.1 k.1
one_answer rows does s (done ns c) (refused f) t u once h k = absurd (no_row rows f h.0 k.0)
one_answer rows does s (refused e) (done ms d) t u once h k = absurd (no_row rows e k.0 h.0)
one_answer rows does s (refused e) (refused f) t u once h k = still s (refused e) (refused f) t u (ap refused (one_row rows e f h.0 k.0)) h.1 k.1

-- a making makes one operation: the kind's sum tells the kind
one_made : (s : State) (kind regs : ℕ) (name : List ℕ) (ns ms : List Node) (c d : Close) (t u : State)
    → (h : OperationFieldMade s kind regs name ns c t) (k : OperationFieldMade s kind regs name ms d u) → h.made ≡ k.made
one_made s kind regs name ns ms c d t u h k =
    let x = h.stored.1 in
    let y = k.stored.1 in
    x.answer ∙ ap (λ (i : Kind). operation_made i regs (nodes s.context)) (one_kind x.is y.is (x.sum ∙ sym y.sum)) ∙ sym y.answer

-- the nodes that a line shows for what was made
shows : State → MadeOperation → List Node
shows s m =
    nodes_from Operation (next_operation s) 1
    ++ (nodes_from Region (next_region s) (length m.regions) ++ nodes_from Block (next_block s) (length (option_to_list m.body)))

operation_once : (s : State) (kind regs : ℕ) (name : List ℕ) (ns ms : List Node) (c d : Close) (t u : State)
    → OperationFieldMade s kind regs name ns c t → OperationFieldMade s kind regs name ms d u → One (done ns c) t (done ms d) u
unfolding shows
operation_once s kind regs name ns ms c d t u h k =
    let same = one_made s kind regs name ns ms c d t u h k in
    record {
      answers = same_done ns ms c d (h.numbered.shown ∙ ap (shows s) same ∙ sym k.numbered.shown) (h.closed ∙ sym k.closed);
      operations_too = h.numbered.operation ∙ ap (λ (m : MadeOperation). operations s ++ (m.operation ∷ [])) same ∙ sym k.numbered.operation;
      blocks_too = h.numbered.body ∙ ap (λ (m : MadeOperation). blocks s ++ option_to_list m.body) same ∙ sym k.numbered.body;
      regions_too = h.numbered.own_regions ∙ ap (λ (m : MadeOperation). regions s ++ m.regions) same ∙ sym k.numbered.own_regions;
    }

block_once : (s : State) (ns ms : List Node) (c d : Close) (t u : State)
    → BlockFieldMade s ns c t → BlockFieldMade s ms d u → One (done ns c) t (done ms d) u
block_once s ns ms c d t u h k =
    let same : h.made ≡ k.made = h.stored.1.made.answer ∙ sym k.stored.1.made.answer in
    record {
      answers = same_done ns ms c d (h.shown ∙ sym k.shown) (h.closed ∙ sym k.closed);
      operations_too = h.operations_stay ∙ sym k.operations_stay;
      blocks_too = h.block ∙ ap (λ (b : BlockPtr). blocks s ++ (b ∷ [])) same ∙ sym k.block;
      regions_too = h.regions_stay ∙ sym k.regions_stay;
    }

-- an edit of links numbers and shows nothing
edit_once : {A : Type 0} (named : Option A) (call : A → Result (Unit {0}) Refusal → Context → Type 0) (s : State) (ns ms : List Node) (c d : Close) (t u : State)
    → Edited named call s ns c t → Edited named call s ms d u → One (done ns c) t (done ms d) u
edit_once named call s ns ms c d t u h k = record {
  answers = same_done ns ms c d (h.none_shown ∙ sym k.none_shown) (h.closed ∙ sym k.closed);
  operations_too = h.operations_stay ∙ sym k.operations_stay;
  blocks_too = h.blocks_stay ∙ sym k.blocks_stay;
  regions_too = h.regions_stay ∙ sym k.regions_stay;
}

-- a lookup finds one operation or none, and changes nothing
lookup_once : (named : Option OpPtr) (call : OpPtr → Result (Option OpPtr) Refusal → Type 0) (s : State) (ns ms : List Node) (c d : Close) (t u : State) → ((op : OpPtr) (x y : Option OpPtr) → call op (Ok x) → call op (Ok y) → x ≡ y)
    → LookedUp named call s ns c t → LookedUp named call s ms d u → One (done ns c) t (done ms d) u
lookup_once named call s ns ms c d t u once h k =
    let op : k.op ≡ h.op = some_same (sym k.names ∙ h.names) in
    let found : h.found ≡ k.found = once h.op h.found k.found h.answers (subst (λ (o : OpPtr). call o (Ok k.found)) op k.answers) in
    let told = one_telling s k.found ns ms c d (subst (λ (o : Option OpPtr). Tells s o ns c) found h.tells) k.tells in
    still s (done ns c) (done ms d) t u (same_done ns ms c d told.0 told.1) h.kept k.kept

-- a walk shows one list of nodes, and changes nothing
walk_once : (s : State) (v : List ℕ) (ns ms : List Node) (c d : Close) (t u : State) → FieldWalked s v ns c t → FieldWalked s v ms d u → One (done ns c) t (done ms d) u
walk_once s v ns ms c d t u h k =
    let asked : h.asked ≡ k.asked = some_same (sym h.names ∙ k.names) in
    let steered : Steered h.asked.1.skip h.asked.1.end k.log = subst (λ (w : IRNode × Steering). Steered w.1.skip w.1.end k.log) (sym asked) k.answers in
    let same = one_walk s.context (config_asked v) h.asked.0 (answer_at h.asked.1.skip h.asked.1.end) h.log k.log h.says k.says h.walked (subst (λ (w : IRNode × Steering). WalkedIn s.context (config_asked v) w.0 k.log k.says) (sym asked) k.walked) h.answers steered in
    let shown : ns ≡ ms = one_numbers s (shown_nodes k.log) ns ms (subst (λ (l : List (Shown IRNode (Unit {0}))). HaveNumbers s (shown_nodes l) ns) same.0 h.numbers) k.numbers in
    still s (done ns c) (done ms d) t u (same_done ns ms c d shown (h.closed ∙ ap close_of same.1 ∙ sym k.closed)) h.kept k.kept

first_same : (a b : RegionPtr) (o : Option (List RegionPtr)) → o ≡ Some (a ∷ []) → o ≡ Some (b ∷ []) → a ≡ b
first_same a b o e f = cc

-- a walk of a table shows one list of nodes, and changes nothing
table_walk_once : (s : State) (v : List ℕ) (ns ms : List Node) (c d : Close) (t u : State) → FieldTableWalked s v ns c t → FieldTableWalked s v ms d u → One (done ns c) t (done ms d) u
table_walk_once s v ns ms c d t u h k =
    let table : k.table ≡ h.table = some_same (sym k.names ∙ h.names) in
    let there = subst (λ (o : OpPtr). option_map regions_of (operation_at (nodes s.context) o) ≡ Some (k.region ∷ [])) table k.is_region in
    let region : k.region ≡ h.region = first_same k.region h.region _ there h.is_region in
    let walked = subst (λ (r : RegionPtr). WalkedIn s.context preorder_forward (node.Region r) k.log k.says) region k.walked in
    let same = one_walk s.context preorder_forward (node.Region h.region) (answer_in_table s.context) h.log k.log h.says k.says h.walked walked h.answers k.answers in
    let shown : ns ≡ ms = one_numbers s (plain s.context (shown_nodes k.log)) ns ms (subst (λ (l : List (Shown IRNode (Unit {0}))). HaveNumbers s (plain s.context (shown_nodes l)) ns) same.0 h.numbers) k.numbers in
    still s (done ns c) (done ms d) t u (same_done ns ms c d shown (h.closed ∙ sym k.closed)) h.kept k.kept

tag_once : (s : State) (g : Tag) (v : List ℕ) (a b : Answer) (t u : State) → TagRun s g v a t → TagRun s g v b u → One a t b u
tag_once s MakeOperation v a b t u h k =
    one_answer (operation_field_rows s v) (OperationFieldMade s (kind_in v) (regions_in v) (name_in v)) s a b t u
    (λ ns ms c d. operation_once s (kind_in v) (regions_in v) (name_in v) ns ms c d t u) h k
tag_once s MakeBlock v a b t u h k =
    one_answer (block_field_rows s v) (BlockFieldMade s) s a b t u (λ ns ms c d. block_once s ns ms c d t u) h k
tag_once s LinkOperation v a b t u h k =
    one_answer (operation_link_rows s v) (OperationFieldLinked s v) s a b t u
    (λ ns ms c d. edit_once (operation_link s v) (λ l. InsertOpCall s.context l.0 l.1) s ns ms c d t u) h k
tag_once s LinkBlock v a b t u h k =
    one_answer (block_link_rows s v) (BlockFieldLinked s v) s a b t u
    (λ ns ms c d. edit_once (block_link s v) (λ l. InsertBlockCall s.context l.0 l.1) s ns ms c d t u) h k
tag_once s UnlinkOperation v a b t u h k =
    one_answer (operation_unlink_rows s v) (OperationFieldUnlinked s v) s a b t u
    (λ ns ms c d. edit_once (node_named (operations s) v) (UnlinkOpCall s.context) s ns ms c d t u) h k
tag_once s UnlinkBlock v a b t u h k =
    one_answer (block_unlink_rows s v) (BlockFieldUnlinked s v) s a b t u
    (λ ns ms c d. edit_once (node_named (blocks s) v) (UnlinkBlockCall s.context) s ns ms c d t u) h k
tag_once s InsertSymbol v a b t u h k =
    one_answer (symbol_insert_rows s v) (SymbolFieldInserted s v) s a b t u
    (λ ns ms c d. edit_once (insert_named s v) (λ p. InsertSymbolCall s.context p.0.0 p.0.1 p.1) s ns ms c d t u) h k
tag_once s RemoveSymbol v a b t u h k =
    one_answer (symbol_remove_rows s v) (SymbolFieldRemoved s v) s a b t u
    (λ ns ms c d. edit_once (pair_named s v) (λ p. RemoveSymbolCall s.context p.0 p.1) s ns ms c d t u) h k
tag_once s EraseSymbol v a b t u h k =
    one_answer (symbol_remove_rows s v) (SymbolFieldErased s v) s a b t u
    (λ ns ms c d. edit_once (pair_named s v) (λ p. EraseSymbolCall s.context p.0 p.1) s ns ms c d t u) h k
tag_once s EraseOperation v a b t u h k =
    one_answer (operation_erase_rows s v) (OperationFieldErased s v) s a b t u
    (λ ns ms c d. edit_once (node_named (operations s) v) (EraseOpCall s.context) s ns ms c d t u) h k
tag_once s EraseBlock v a b t u h k =
    one_answer (block_erase_rows s v) (BlockFieldErased s v) s a b t u
    (λ ns ms c d. edit_once (node_named (blocks s) v) (EraseBlockCall s.context) s ns ms c d t u) h k
tag_once s Lookup v a b t u h k =
    one_answer (table_lookup_rows s v) (LookedUpInTable s v) s a b t u
    (λ ns ms c d. lookup_once (node_named (operations s) v) (λ o. LookupCall s.context o (name_sought v)) s ns ms c d t u (one_lookup s.context (name_sought v))) h k
tag_once s NearestLookup v a b t u h k =
    one_answer (nearest_table_lookup_rows s v) (LookedUpInNearest s v) s a b t u
    (λ ns ms c d. lookup_once (node_named (operations s) v) (λ o. NearestLookupCall s.context o (name_sought v)) s ns ms c d t u (one_nearest_lookup s.context (name_sought v))) h k
tag_once s Walk v a b t u h k =
    one_answer (walk_rows s v) (FieldWalked s v) s a b t u (λ ns ms c d. walk_once s v ns ms c d t u) h k
tag_once s TableWalk v a b t u h k =
    one_answer (table_walk_rows s v) (FieldTableWalked s v) s a b t u (λ ns ms c d. table_walk_once s v ns ms c d t u) h k

byte_once : (s : State) (n : ℕ) (v : List ℕ) (a b : Answer) (t u : State) → ByteRun s n v a t → ByteRun s n v b u → One a t b u
unfolding ByteRun
byte_once s n v a b t u (inl h) (inl k) = still s a b t u (h.answer ∙ sym k.answer) h.kept k.kept
byte_once s n v a b t u (inl h) (inr k) = absurd (listed k.tag (subst Unlisted (sym k.coded) h.unlisted))
byte_once s n v a b t u (inr h) (inl k) = absurd (listed h.tag (subst Unlisted (sym h.coded) k.unlisted))
byte_once s n v a b t u (inr h) (inr k) =
    tag_once s k.tag v a b t u (subst (λ g. TagRun s g v a t) (one_tag h.tag k.tag (h.coded ∙ sym k.coded)) h.ran) k.ran

field_once : (s : State) (script : List ℕ) (place : ℕ) (a b : Answer) (m n : ℕ) (t u : State)
    → FieldRun s script place a m t → FieldRun s script place b n u → One a t b u × (m ≡ n)
field_once s script place a b m n t u (inl h) (inl k) =
    (still s a b t u (h.answer ∙ sym k.answer) h.kept k.kept, h.goes ∙ sym k.goes)
field_once s script place a b m n t u (inl h) (inr k) = absurd (k.whole h.cut)
field_once s script place a b m n t u (inr h) (inl k) = absurd (h.whole k.cut)
field_once s script place a b m n t u (inr h) (inr k) =
    (byte_once s (tag_at script place) (value_at script place) a b t u h.ran k.ran, h.goes ∙ sym k.goes)

line_once : (out : List ℕ) (place : ℕ) (a b : Answer) (m n : ℕ) (o p : List ℕ) → a ≡ b → Lined out place a m o → Lined out place b n p → (m ≡ n) × (o ≡ p)
line_once out place a b m n o p e h k =
    let sizes : m ≡ n = h.len ∙ ap (λ z. length (line_bytes place z)) e ∙ sym k.len in
    (sizes, h.bytes ∙ ap (λ z. line_bytes place z ++ drop m out) e ∙ ap (λ z. line_bytes place b ++ drop z out) sizes ∙ sym k.bytes)

apart : (x y : ℕ) → x ≡ y → x < y → ⊥
apart x y e l = omega arith

-- nothing is printed twice
alike_still : (s : State) (out : List ℕ) (r : Line) (t : State) (o : List ℕ) (u : State) (p : List ℕ)
    → t ≡ s → o ≡ out → u ≡ s → p ≡ out → Alike r t o r u p
alike_still s out r t o u p ts os us ps = record {
  answer = refl;
  buffer = os ∙ sym ps;
  same_operations = ap operations (ts ∙ sym us);
  same_blocks = ap blocks (ts ∙ sym us);
  same_regions = ap regions (ts ∙ sym us);
}

pub one_line : OneLine
one_line s script place out line.Bounds t o line.Bounds u p h k =
    alike_still s out line.Bounds t o u p h.1.session h.1.buffer k.1.session k.1.buffer
one_line s script place out line.Bounds t o line.End u p h k = absurd (k.0 h.0)
one_line s script place out line.Bounds t o (line.Printed n j) u p h k = absurd (k.0 h.0)
one_line s script place out line.End t o line.Bounds u p h k = absurd (h.0 k.0)
one_line s script place out line.End t o line.End u p h k =
    alike_still s out line.End t o u p h.2.session h.2.buffer k.2.session k.2.buffer
one_line s script place out line.End t o (line.Printed n j) u p h k = absurd (apart _ _ h.1 k.1)
one_line s script place out (line.Printed m i) t o line.Bounds u p h k = absurd (h.0 k.0)
one_line s script place out (line.Printed m i) t o line.End u p h k = absurd (apart _ _ k.1 h.1)
one_line s script place out (line.Printed m i) t o (line.Printed n j) u p h k =
    let f = field_once s script place h.2.answer k.2.answer i j t u h.2.ran k.2.ran in
    let l = line_once out place h.2.answer k.2.answer m n o p f.0.answers h.2.line k.2.line in
    record {
      answer = ap (λ z. line.Printed z i) l.0 ∙ ap (λ z. line.Printed n z) f.1;
      buffer = l.1;
      same_operations = f.0.operations_too;
      same_blocks = f.0.blocks_too;
      same_regions = f.0.regions_too;
    }
