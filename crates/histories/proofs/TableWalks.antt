-- What the visitor inside is shown of a walk of a table. Assumes nothing.
use Rattle.std.proofs.Common.{◌≡◌, Bool, true, false, cond, ◌⊎◌, List, [], ◌∷◌, ◌++◌, append-nil, sym, refl, ap, ◌∙◌, subst, inl, inr, ⊎_elim}
use Rattle.linked_list.specs.Links.{Apart, In}
use Rattle.linked_list.proofs.Lists.{in_left}
use Rattle.orders.specs.declared.walk_result.WalkResult.{WalkResult}
use Rattle.orders.specs.declared.walk_result.WalkResult.TheVariants.{Advance, Skip}
use Rattle.orders.specs.Logs.{AllAdvance, Ending, ended, broken, GoesOn, Shown, Shows, Unbroken, more, none, shown, nodes as shown_nodes}
use Rattle.orders.specs.Order.{Less, Orders, done, drop, keep}
use Rattle.orders.proofs.Logs.{less_apart, less_holds, less_in, less_meets, none_skipped, skipped_node, unbroken_all}
use Rattle.records.specs.declared.handles.OpPtr.{OpPtr}
use Rattle.records.specs.declared.handles.RegionPtr.{RegionPtr}
use Rattle.records.specs.declared.ir_node.IRNode.{IRNode}
use Rattle.records.specs.declared.ir_node.IRNode.TheVariants as node
use Rattle.records.specs.Models.{operation_at}
use Rattle.records.specs.Nodes.{is_table}
use Rattle.forest.proofs.Listed.{clash, decide}
use Rattle.ir.specs.declared.context.Context.{Context}
use Rattle.ir.specs.Stores.{nodes}
use Rattle.walkers.specs.declared.operations_only.OperationsOnly.{OperationsOnly}
use Rattle.walkers.specs.Configs.{early, preorder_forward}
use Rattle.walkers.specs.Operations.{only_answer, only_next}
use Rattle.walkers.specs.TableWalks.{TableWalked}
use Rattle.walkers.specs.Walks.{Reads}
use Rattle.histories.specs.Ledgers.{Below, Deeper, Ledger, child, children, directed_children, itself}
use Rattle.histories.specs.Ledgers.{is_table as table_in}
use Rattle.histories.specs.Represents.{Represents}
use Rattle.histories.specs.Walking.{Hidden, Nested, Plain, TableWasRead, WalkOf}
use Rattle.histories.proofs.Before.{Before, before_below, before_less, first_part}
use Rattle.histories.proofs.Carrying.{walk_of}
use Rattle.histories.proofs.Nodes as the
use Rattle.histories.proofs.Tables.{regions_some}

-- the node is a table
pub record IsTable (l : Ledger) (x : IRNode) : Type 0 where
  pub table : OpPtr
  pub is : x ≡ node.Operation table
  pub is_one : table_in l table ≡ true

same_shown : {B : Type 0} {n m : IRNode} {a b : WalkResult B} → n ≡ m → a ≡ b → shown n a ≡ shown m b
same_shown p q = cc

same_op : {p q : OpPtr} → ◌≡◌ {A = IRNode} (node.Operation p) (node.Operation q) → p ≡ q
same_op e = cc

early_always : (n : IRNode) → early preorder_forward n ≡ true
early_always (node.Operation op) = refl
early_always (node.BasicBlock block) = refl
early_always (node.Region region) = refl

-- from the first to the last
forward : (l : Ledger) (n : IRNode) → directed_children preorder_forward l n ≡ children l n
forward l (node.Operation op) = refl
forward l (node.BasicBlock block) = refl
forward l (node.Region region) = refl

-- what the walk showed, as far as the answers tell
shown_part : {B : Type 0} (log : List (Shown IRNode B)) (less : List IRNode) (r : WalkResult B) → Ending log less r → (rest : List IRNode) × (shown_nodes log ++ rest ≡ less)
shown_part log less r (ended v e) = ([], append-nil (shown_nodes log) ∙ e)
shown_part log less r (broken earlier n b rest l v e) = (rest, e)

module _ (s : Context) (l : Ledger) (r : Represents s l) {V B : Type 0} (answer : V → Context → IRNode → WalkResult B) (next : V → Context → IRNode → V) where
  -- the parts of a log that the visitor inside was shown
  pub record Inside (v w : OperationsOnly V) (log : List (Shown IRNode B)) : Type 0 where
    pub inner : List (Shown IRNode B)
    pub shows : Shows (Reads answer next s) v.inner inner w.inner
    pub plain : Less (Plain l) (shown_nodes log) (shown_nodes inner)
    pub skips : (x : IRNode) → In (shown x Skip) log → IsTable l x ⊎ In (shown x Skip) inner
    pub tables : (op : OpPtr) → table_in l op ≡ true → In (node.Operation op) (shown_nodes log) → In (shown (node.Operation op) Skip) log
    pub unbroken : AllAdvance inner → Unbroken log

  -- a node that is none of the operations is not shown to it
  passed : (n : IRNode) (a : WalkResult B) (v y w : OperationsOnly V) (log : List (Shown IRNode B)) → (Plain l n → ⊥) → ((op : OpPtr) → node.Operation op ≡ n → ⊥) → a ≡ Advance → y.inner ≡ v.inner
      → Inside y w log → Inside v w (shown n a ∷ log)
  passed n a v y w log hid other e f p = record {
    inner = p.inner;
    shows = subst (λ z. Shows (Reads answer next s) z p.inner w.inner) f p.shows;
    plain = drop hid p.plain;
    skips = λ x i. elim i [ inl q ↦ absurd (let z : Skip ≡ Advance = ap (λ (t : Shown IRNode B). t.answer) q ∙ e in cc) | inr j ↦ p.skips x j ];
    tables = λ op is i. elim i [ inl q ↦ absurd (other op q) | inr j ↦ inr (p.tables op is j) ];
    unbroken = λ h. (subst GoesOn (sym e) tt, p.unbroken h);
  }

  -- nor is a table, which is skipped
  table_passed : (op : OpPtr) (a : WalkResult B) (v y w : OperationsOnly V) (log : List (Shown IRNode B)) → table_in l op ≡ true → a ≡ Skip → y.inner ≡ v.inner
      → Inside y w log → Inside v w (shown (node.Operation op) a ∷ log)
  table_passed op a v y w log one e f p = record {
    inner = p.inner;
    shows = subst (λ z. Shows (Reads answer next s) z p.inner w.inner) f p.shows;
    plain = drop (λ q. clash (sym one ∙ q)) p.plain;
    skips = λ x i. elim i [ inl q ↦ inl (record { table = op; is = ap (λ (t : Shown IRNode B). t.node) q; is_one = one }) | inr j ↦ p.skips x j ];
    tables = λ t is i. elim i [ inl q ↦ inl (same_shown q (sym e)) | inr j ↦ inr (p.tables t is j) ];
    unbroken = λ h. (subst GoesOn (sym e) tt, p.unbroken h);
  }

  -- every other operation is
  plain_shown : (op : OpPtr) (a : WalkResult B) (v y w : OperationsOnly V) (log : List (Shown IRNode B)) → table_in l op ≡ false → a ≡ answer v.inner s (node.Operation op)
      → y.inner ≡ next v.inner s (node.Operation op) → Inside y w log → Inside v w (shown (node.Operation op) a ∷ log)
  plain_shown op a v y w log no_table e f p = record {
    inner = shown (node.Operation op) a ∷ p.inner;
    shows = more (shown (node.Operation op) a) (e, f) p.shows;
    plain = keep no_table p.plain;
    skips = λ x i. elim i [ inl q ↦ inr (inl q) | inr j ↦ ⊎_elim (λ t. inl t) (λ k. inr (inr k)) (p.skips x j) ];
    tables = λ t is i. elim i [ inl q ↦ absurd (clash (sym is ∙ ap (table_in l) (same_op q) ∙ no_table)) | inr j ↦ inr (p.tables t is j) ];
    unbroken = λ h. (subst GoesOn (sym h.0) tt, p.unbroken h.1);
  }

  one_more : (n : IRNode) (a : WalkResult B) (v y w : OperationsOnly V) (log : List (Shown IRNode B)) → Reads (only_answer answer) (only_next next) s v n a y → Inside y w log → Inside v w (shown n a ∷ log)
  one_more (node.Operation op) a v y w log e p =
      ⊎_elim
      (λ (t : is_table (nodes s) op ≡ true).
      table_passed op a v y w log (the.table_is s l r op ∙ t) (e.0 ∙ ap (λ (z : Bool). cond z Skip (answer v.inner s (node.Operation op))) t)
      (ap (λ (z : OperationsOnly V). z.inner) e.1 ∙ ap (λ (z : Bool). cond z v.inner (next v.inner s (node.Operation op))) t) p)
      (λ (d : is_table (nodes s) op ≡ false).
      plain_shown op a v y w log (the.table_is s l r op ∙ d) (e.0 ∙ ap (λ (z : Bool). cond z Skip (answer v.inner s (node.Operation op))) d)
      (ap (λ (z : OperationsOnly V). z.inner) e.1 ∙ ap (λ (z : Bool). cond z v.inner (next v.inner s (node.Operation op))) d) p)
      (decide (is_table (nodes s) op))
  one_more (node.BasicBlock block) a v y w log e p = passed (node.BasicBlock block) a v y w log (λ f. f) (λ op q. cc) e.0 (ap (λ (z : OperationsOnly V). z.inner) e.1) p
  one_more (node.Region region) a v y w log e p = passed (node.Region region) a v y w log (λ f. f) (λ op q. cc) e.0 (ap (λ (z : OperationsOnly V). z.inner) e.1) p

  inside : (v w : OperationsOnly V) (log : List (Shown IRNode B)) → Shows (Reads (only_answer answer) (only_next next) s) v log w → Inside v w log
  inside v w [] none = record { inner = []; shows = none; plain = done; skips = λ x i. absurd i; tables = λ op is i. i; unbroken = λ h. h }
  inside v w (x ∷ log) (more {y = y} z e h) = one_more x.node x.answer v y w log e (inside y w log h)

  below_below : {a b c : IRNode} → Below (children l) a b → Below (children l) b c → Below (children l) a c
  below_below u itself = u
  below_below u (child v i) = child (below_below u v) i

  -- what lies below a node is that node, or deeper
  or_deeper : {a b : IRNode} → Below (children l) a b → (b ≡ a) ⊎ Deeper (children l) a b
  or_deeper itself = inl refl
  or_deeper (child {c} v i) = inr (c, v, i)

  module _ (region : RegionPtr) (v w : OperationsOnly V) (log : List (Shown IRNode B)) (says : WalkResult B) (p : Inside v w log) (k : WalkOf preorder_forward l (node.Region region) log says) where
    abbrev root : IRNode
    root = node.Region region

    in_order : Orders (early preorder_forward) (children l) (root ∷ []) k.whole
    in_order = subst (λ (f : IRNode → List IRNode). Orders (early preorder_forward) f (root ∷ []) k.whole) (λ i n. forward l n i) k.is_whole.order

    part : (rest : List IRNode) × (shown_nodes log ++ rest ≡ k.less)
    part = shown_part log k.less says k.ending

    in_less : (x : IRNode) → In x (shown_nodes log) → In x k.less
    in_less x i = subst (In x) part.1 (in_left x (shown_nodes log) part.0 i)

    -- a table of the walk above the node was shown before it, and was skipped, so that the node is hidden
    was_hidden : (x : IRNode) (table : OpPtr) → table_in l table ≡ true → Below (children l) root (node.Operation table) → Deeper (children l) (node.Operation table) x → In x (shown_nodes log) → Hidden preorder_forward l log x
    was_hidden x table one lies d i =
        let seen = less_meets k.cut x (in_less x i) in
        let open_table : (Hidden preorder_forward l log (node.Operation table) → ⊥) =
        λ h. seen (record { by = h.by; first = h.first; skipped = h.skipped; deeper = (d.0, below_below (child h.deeper.1 h.deeper.2) d.1, d.2) }) in
        let turn = before_less (node.Operation table) x open_table seen k.cut (before_below early_always (node.Operation table) x in_order (k.is_whole.all (node.Operation table) lies) d) in
        let both = subst (λ ns. Before (node.Operation table) x ns) (sym part.1) turn in
        let first = first_part (node.Operation table) x (shown_nodes log) part.0 (subst Apart (sym part.1) (less_apart k.cut k.is_whole.once)) both i in
        record { by = node.Operation table; first = refl; skipped = p.tables table one first; deeper = d }

    never : (x : IRNode) → In x (shown_nodes p.inner) → Nested l region x → ⊥
    never x i n =
        let open_log = less_in p.plain x i in
        ⊎_elim
        (λ (e : x ≡ node.Operation n.table). clash (sym n.is_one ∙ subst (Plain l) e (less_meets p.plain x i)))
        (λ (d : Deeper (children l) (node.Operation n.table) x). less_meets k.cut x (in_less x open_log) (was_hidden x n.table n.is_one n.lies d open_log))
        (or_deeper n.holds)

    all : AllAdvance p.inner → (x : IRNode) → Below (children l) root x → Plain l x → (Nested l region x → ⊥) → In x (shown_nodes p.inner)
    all h x b is out =
        let seen : (Hidden preorder_forward l log x → ⊥) =
        λ g. ⊎_elim
        (λ (t : IsTable l g.by).
        out (record {
          table = t.table;
          is_one = t.is_one;
          lies = subst (Below (children l) root) t.is (k.is_whole.below g.by (less_in k.cut g.by (in_less g.by (skipped_node log (shown g.by Skip) g.skipped))));
          holds = subst (λ z. Below (children l) z x) t.is (child g.deeper.1 g.deeper.2);
        }))
        (λ j. none_skipped p.inner g.by h j)
        (p.skips g.by g.skipped) in
        let everything = unbroken_all log k.less says (p.unbroken h) k.ending in
        less_holds p.plain x (subst (In x) (sym everything.0) (less_holds k.cut x (k.is_whole.all x b) seen)) is

  pub table_read : (table : OpPtr) (v w : OperationsOnly V) → TableWalked answer next s table v w → TableWasRead answer next s l table v w
  table_read table v w d =
      let p = inside v w d.read.log d.read.shows in
      let k = walk_of s l r preorder_forward (node.Region d.region) d.read.log d.says d.read.walked in
      record {
        region = d.region;
        is_region = the.regions_are s l r table ∙ regions_some (operation_at (nodes s) table) (d.region ∷ []) d.is_region;
        says = d.says;
        read = record { log = d.read.log; shows = d.read.shows; walk = k };
        log = p.inner;
        shows = p.shows;
        plain = p.plain;
        never = never d.region v w d.read.log d.says p k;
        all = all d.region v w d.read.log d.says p k;
      }
