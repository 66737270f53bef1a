-- What holds after every history. Assumes nothing.
use Rattle.std.proofs.Common.{◌≡◌, ℕ, List, Ok, Err, Result, refl, sym, subst}
use Rattle.orders.specs.declared.walk_result.WalkResult.{WalkResult}
use Rattle.records.specs.declared.handles.OpPtr.{OpPtr}
use Rattle.records.specs.declared.ir_node.IRNode.{IRNode}
use Rattle.records.specs.declared.making.MadeOperation.{MadeOperation}
use Rattle.result.specs.declared.refusal.Refusal.{Refusal}
use Rattle.result.specs.Rows.{Answered}
use Rattle.ir.specs.declared.context.Context.{Context}
use Rattle.walkers.specs.declared.config.WalkConfig.{WalkConfig}
use Rattle.walkers.specs.declared.walk.Walk.{Walk}
use Rattle.walkers.specs.declared.advancing.Uninterruptible.{Uninterruptible}
use Rattle.walkers.specs.declared.operations_only.OperationsOnly.{OperationsOnly}
use Rattle.walkers.specs.HeldWalks.{Begins, HeldCall, with_answer}
use Rattle.walkers.specs.TableWalks.{TableWalked, table_rows}
use Rattle.walkers.specs.Walks.{AllRead, AllWritten, WalkRead, WalkWritten, beneath, inside, root_rows}
use Rattle.walkers.proofs.HeldSteps.{gave_stands}
use Rattle.histories.specs.Calls.{Answer, Call, Called, Done, OnlyReads, gone_rows, ledger_rows, rows, make_operation, make_block, insert_op, insert_block, unlink_op, unlink_block, erase_op, erase_block, table_insert, table_remove, table_erase, lookup, lookup_nearest, nearest_symbol_table, set_note, walk, walk_noting, walk_table}
use Rattle.histories.specs.Histories.{Fed}
use Rattle.histories.specs.Law.{HeldRight, Law, New, ReadsRight, Right, WritesRight}
use Rattle.histories.specs.Ledgers.{Ledger}
use Rattle.histories.specs.Represents.{Represents}
use Rattle.histories.specs.Walking.{NextOf}
use Rattle.histories.proofs.Carrying.{all_shown, mirrored_whole, next_of, some_whole, walk_of, whole_of}
use Rattle.histories.proofs.Conducting as steps
use Rattle.histories.proofs.Feeds.{fed}
use Rattle.histories.proofs.Fresh.{store}
use Rattle.histories.proofs.Judging.{Alike, judged, judged_in_turn}
use Rattle.histories.proofs.MakesBlock as block_made
use Rattle.histories.proofs.MakesOperation as op_made
use Rattle.histories.proofs.Nodes as the
use Rattle.histories.proofs.OneLedger.{one_ledger}
use Rattle.histories.proofs.Rowing.{alike}
use Rattle.histories.proofs.SetsNotes.{same_ledger}
use Rattle.histories.proofs.Stepping.{represented, step}
use Rattle.histories.proofs.TableWalks.{table_read}
use Rattle.histories.proofs.Tables.{names_right}
use Rattle.histories.proofs.Tells.{tells}

module _ (t : Context) (l : Ledger) (r : Represents t l) where
  gone_alike : (root : IRNode) → Alike (root_rows t root) (gone_rows l root)
  gone_alike root = (refl, the.dead_gone t l r root, the.gone_dead t l r root, tt)

  reads_right : {R D : Type 0} (answer : R → Context → IRNode → WalkResult D) (next : R → Context → IRNode → R) → ReadsRight answer next t l
  reads_right {R = R} {D = D} answer next = record {
    steps = steps.reads answer next;
    judged = λ k root v w q h. judged (root_rows t root) (gone_rows l root) (λ a z. WalkRead answer next t k root v a z) v q w (gone_alike root) h;
    shown = λ k root v w a h. record { log = h.1.log; shows = h.1.shows; walk = walk_of t l r k root h.1.log a h.1.walked };
    all_judged = λ k root v w q h. judged {S = Uninterruptible R} (root_rows t root) (gone_rows l root) (λ _ z. AllRead D (inside next) t k root v z) v q w (gone_alike root) h;
    all_shown = λ k root v w x h. record { log = h.1.log; shows = h.1.shows; whole = whole_of t l r k root _ h.1.whole };
    table_judged = λ table v w q h. judged_in_turn {S = OperationsOnly R} (table_rows t table) (ledger_rows l t (walk_table table)) (λ _ z. TableWalked answer next t table v z) v q w (alike t l r (walk_table table)) h;
    table_shown = λ table v w x h. table_read t l r answer next table v w h.1;
    unbroken = λ k root log a w h. all_shown k l root log a w h;
  }

  writes_right : {V B : Type 0} (answer : V → Context → IRNode → WalkResult B) (next : V → Context → IRNode → V) (notes : V → Context → IRNode → OpPtr → ℕ) → WritesRight answer next notes t l
  writes_right {V = V} {B = B} answer next notes = record {
    steps = steps.writes answer next notes;
    judged = λ k root v w u q h.
        judged {S = V × Context} (root_rows t root) (gone_rows l root) (λ a z. WalkWritten answer next notes t k root v a z.0 z.1) (v, t) q (w, u) (gone_alike root) h;
    shown = λ k root v w u a h. record { log = h.1.log; shows = h.1.shows; walk = walk_of t l r k root h.1.log a h.1.walked; only = h.1.only };
    all_judged = λ k root v w u q h.
        judged {S = Uninterruptible V × Context} (root_rows t root) (gone_rows l root) (λ _ z. AllWritten B (inside next) (beneath notes) t k root v z.0 z.1) (v, t) q (w, u) (gone_alike root) h;
    all_shown = λ k root v w u x h. record { log = h.1.log; shows = h.1.shows; whole = whole_of t l r k root _ h.1.whole; only = h.1.only };
    unbroken = λ k root log a w h. all_shown k l root log a w h;
  }

  -- what starting a held walk answers, as any call's answer
  held_answered : (k : WalkConfig) (root : IRNode) (q : Result Walk Refusal) → HeldCall t k root q → Answered (root_rows t root) (λ (w : Walk) (u : Context). Begins t k root w) t q t
  held_answered k root (Ok w) h = h
  held_answered k root (Err e) h = (h, refl)

  held_right : HeldRight t l
  held_right = record {
    judged = λ k root q h. judged (root_rows t root) (gone_rows l root) (λ (w : Walk) (u : Context). Begins t k root w) t q t (gone_alike root) (held_answered k root q h);
    next = λ k root w u log last q a g h.
        let i = gave_stands g in
        let now : Represents w.context.now l = subst (λ (x : Context). Represents x l) (sym i.0) r in
        let n = next_of w.context.now l now w.config w.root (with_answer last log a) q (h.next log last i.3 (the.lists w.context.now l now)) in
        subst (λ (x : WalkConfig). NextOf x l root (with_answer last log a) q) i.1 (subst (λ (x : IRNode). NextOf w.config l x (with_answer last log a) q) i.2 n);
  }

  new_made : (kind regions : ℕ) (name : List ℕ) (made : MadeOperation) (u : Context) → Called t (make_operation kind regions name) (Ok made) u → New l kind regions made
  new_made kind regions name made u h =
      let w = op_made.is_new t u l r kind regions name made h.0 h.1 in
      let m = op_made.made_so t u l r kind regions name made h.0 h.1 in
      record { operation = w.0; region = w.1; body = w.2; count = m.0; apart = m.1; bodied = m.2 }

  -- a call that leaves the store leaves the ledger too
  denied_keeps : (c : Call) (e : Refusal) (u : Context) (m : Ledger) → Called t c (Err e) u → Fed l c (Err e) m → (u ≡ t) × (m ≡ l)
  denied_keeps c e u m h f = (h.1, same_ledger l m f)

  read_keeps : (c : Call) → OnlyReads c → (q : Result (Answer c) Refusal) (u : Context) (m : Ledger) → Called t c q u → Fed l c q m → (u ≡ t) × (m ≡ l)
  read_keeps c is (Err e) u m h f = denied_keeps c e u m h f
  read_keeps (make_operation kind regions name) is (Ok x) u m h f = absurd is
  read_keeps make_block is (Ok x) u m h f = absurd is
  read_keeps (insert_op op spot) is (Ok x) u m h f = absurd is
  read_keeps (insert_block block spot) is (Ok x) u m h f = absurd is
  read_keeps (unlink_op op) is (Ok x) u m h f = absurd is
  read_keeps (unlink_block block) is (Ok x) u m h f = absurd is
  read_keeps (erase_op op) is (Ok x) u m h f = absurd is
  read_keeps (erase_block block) is (Ok x) u m h f = absurd is
  read_keeps (table_insert table op point) is (Ok x) u m h f = absurd is
  read_keeps (table_remove table op) is (Ok x) u m h f = absurd is
  read_keeps (table_erase table op) is (Ok x) u m h f = absurd is
  read_keeps (lookup table name) is (Ok x) u m h f = (h.1.1, same_ledger l m f)
  read_keeps (lookup_nearest op name) is (Ok x) u m h f = (h.1.1, same_ledger l m f)
  read_keeps (nearest_symbol_table op) is (Ok x) u m h f = (h.1.1, same_ledger l m f)
  read_keeps (set_note op note) is (Ok x) u m h f = absurd is
  read_keeps (walk root k) is (Ok x) u m h f = (h.1.1, same_ledger l m f)
  read_keeps (walk_noting root k) is (Ok x) u m h f = absurd is
  read_keeps (walk_table table) is (Ok x) u m h f = (h.1.1, same_ledger l m f)

  right : {R D V B : Type 0} (says : R → Context → IRNode → WalkResult D) (moves : R → Context → IRNode → R)
      (answer : V → Context → IRNode → WalkResult B) (next : V → Context → IRNode → V) (notes : V → Context → IRNode → OpPtr → ℕ) → Right says moves answer next notes t l
  right says moves answer next notes = record {
    represents = r;
    steps = steps.edits;
    look_steps = steps.looks;
    judged = λ c q u h. judged_in_turn (rows t c) (ledger_rows l t c) (λ x z. Done t c x z) t q u (alike t l r c) h;
    new = new_made;
    new_block = λ block u h. block_made.is_new t u l r block h.1;
    denied_keeps = denied_keeps;
    read_keeps = read_keeps;
    one_ledger = λ m q. one_ledger t l m r q;
    one_way = λ c q u m n h f g. one_ledger u m n (step t u l m r c q h f) (step t u l n r c q h g);
    goes_on = λ c q u h. fed t u l r c q h;
    tells = tells t l r;
    names = names_right t l r;
    reads = reads_right says moves;
    writes = writes_right answer next notes;
    held = held_right;
    ordered = λ k root. some_whole t l r k root;
    mirrored = λ k root xs ys x y. mirrored_whole k l root xs ys x y;
  }

pub law : {R D V B : Type 0} (says : R → Context → IRNode → WalkResult D) (moves : R → Context → IRNode → R)
    (answer : V → Context → IRNode → WalkResult B) (next : V → Context → IRNode → V) (notes : V → Context → IRNode → OpPtr → ℕ) → Law says moves answer next notes
law says moves answer next notes = record { begins = store; holds = λ s t l b h. right t l (represented s t l b h) says moves answer next notes }
