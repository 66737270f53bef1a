-- The contract of a walk gives a step of histories, whoever was shown the nodes. Assumes nothing.
use Rattle.std.proofs.Common.{◌≡◌, ℕ, Bool, List, [], ◌∷◌, Ok, Err, Result, Option, refl, ap}
use Rattle.orders.specs.declared.walk_result.WalkResult.{WalkResult}
use Rattle.orders.specs.declared.walk_result.WalkResult.TheVariants.{Advance}
use Rattle.orders.specs.Logs.{AllAdvance, ended, Shown, Shows, more, Walked, Whole, nodes as shown_nodes}
use Rattle.orders.specs.Order.{Less, done, keep}
use Rattle.orders.proofs.Logs.{none_skipped, on_unbroken}
use Rattle.records.specs.declared.handles.OpPtr.{OpPtr}
use Rattle.records.specs.declared.ir_node.IRNode.{IRNode}
use Rattle.records.specs.declared.ir_node.IRNode.TheVariants as node
use Rattle.records.specs.Nodes.{parent}
use Rattle.result.specs.declared.refusal.Refusal.{Refusal}
use Rattle.result.specs.Rows.{Answered}
use Rattle.ir.specs.declared.context.Context.{Context}
use Rattle.ir.specs.Stores.{nodes}
use Rattle.ir.specs.Tables.{Found, FoundNearest, lookup_rows, nearest_lookup_rows}
use Rattle.symbol_table.specs.Lookups.{Nearest, nearest_rows}
use Rattle.walkers.specs.declared.config.WalkConfig.{WalkConfig}
use Rattle.walkers.specs.Children.{directed_children}
use Rattle.walkers.specs.declared.advancing.Uninterruptible.{Uninterruptible}
use Rattle.walkers.specs.declared.operations_only.OperationsOnly.{OperationsOnly}
use Rattle.walkers.specs.Bare.{bare}
use Rattle.walkers.specs.Configs.{early, preorder_forward}
use Rattle.walkers.specs.Operations.{only_answer, only_next}
use Rattle.walkers.specs.TableWalks.{TableWalkCall}
use Rattle.walkers.specs.Walks.{Reads, WalkAllCall, WalkAllMutCall, WalkCall, WalkMutCall, WalkRead, WalkedIn, WholeIn, Writes, always, beneath, inside}
use Rattle.walkers.proofs.Bare.{bare_log, bare_walked}
use Rattle.histories.specs.Calls.{Called, SomeWalk, walk, walk_noting, walk_table}
use Rattle.histories.specs.Stepping.{EditSteps, LookSteps, ReadSteps, WriteSteps}
use Rattle.histories.specs.Walking.{bared, ended_all}

-- each call's contract is the step itself
pub edits : EditSteps
edits = record {
  makes_operation = λ s t kind regions name r h. h;
  makes_block = λ s t r h. h;
  inserts_op = λ s t op spot r h. h;
  inserts_block = λ s t block spot r h. h;
  unlinks_op = λ s t op r h. h;
  unlinks_block = λ s t block r h. h;
  erases_op = λ s t op r h. h;
  erases_block = λ s t block r h. h;
  inserts_symbol = λ s t table op point r h. h;
  removes_symbol = λ s t table op r h. h;
  erases_symbol = λ s t table op r h. h;
  sets_note = λ s t op note r h. h;
}

-- a call that only answers leaves the store as it is
answers : {X : Type 0} (rows : List (Refusal × Type 0)) (P : X → Type 0) (s : Context) (r : Result X Refusal) → Answered rows (λ x u. P x) s r s → Answered rows (λ x (u : Context). P x × (u ≡ s)) s r s
answers rows P s (Ok x) h = (h.0, (h.1, refl))
answers rows P s (Err e) h = h

pub looks : LookSteps
looks = record {
  looks_up = λ s table name r h. answers (lookup_rows (nodes s) table name) (Found s table name) s r h;
  looks_up_nearest = λ s op name r h. answers (nearest_lookup_rows (nodes s) op name) (FoundNearest s op name) s r h;
  asks_nearest = λ s op r h. answers (nearest_rows (nodes s) op) (Nearest (nodes s) op) s r h;
}

all_kept : {N : Type 0} {P : N → Type 0} → ((x : N) → P x) → (xs : List N) → Less P xs xs
all_kept f [] = done
all_kept f (x ∷ xs) = keep (f x) (all_kept f xs)

module _ {N B : Type 0} (p : N → Option N) (first : N → Bool) (children : N → List N) (root : N) where
  -- a log of the whole order to which every answer was to advance is that of a walk
  whole_walked : (log : List (Shown N B)) → AllAdvance log → Whole p first children root (shown_nodes log) → Walked p first children root log Advance
  whole_walked log h w = record {
    whole = shown_nodes log;
    is_whole = w;
    less = shown_nodes log;
    cut = all_kept (λ x g. none_skipped log g.by h g.skipped) (shown_nodes log);
    ending = ended (on_unbroken log h) refl;
  }

module _ {B : Type 0} (s : Context) (k : WalkConfig) (root : IRNode) where
  bare_in : (log : List (Shown IRNode B)) (r : WalkResult B) → WalkedIn s k root log r → WalkedIn s k root (bare_log log) (bare r)
  bare_in log r w l = bare_walked (parent (nodes s)) (early k) (directed_children k (nodes s) l) root log r (w l)

  whole_in : (log : List (Shown IRNode B)) → AllAdvance log → WholeIn s k root (shown_nodes log) → WalkedIn s k root (bare_log log) Advance
  whole_in log h w = bare_in log Advance (λ l. whole_walked (parent (nodes s)) (early k) (directed_children k (nodes s) l) root log h (w l))

-- where answers are not heeded, every answer is to advance
all_read : {V B : Type 0} (next : V → Context → IRNode → V) (s : Context) (v w : V) (log : List (Shown IRNode B)) → Shows (Reads always next s) v log w → AllAdvance log
all_read next s v w [] h = tt
all_read next s v w (x ∷ log) (more {y = y} z e h) = (e.0, all_read next s y w log h)

all_written : {V B : Type 0} (next : V → Context → IRNode → V) (notes : V → Context → IRNode → OpPtr → ℕ) (v w : V × Context) (log : List (Shown IRNode B))
    → Shows (Writes always next notes) v log w → AllAdvance log
all_written next notes v w [] h = tt
all_written next notes v w (x ∷ log) (more {y = y} z e h) = (e.0, all_written next notes y w log h)

module _ {V B : Type 0} (answer : V → Context → IRNode → WalkResult B) (next : V → Context → IRNode → V) where
  some_read : (s : Context) (k : WalkConfig) (root : IRNode) (v w : V) (a : WalkResult B) → WalkRead answer next s k root v a w → SomeWalk s root k (bare a)
  some_read s k root v w a h = record { log = bare_log h.log; walked = bare_in s k root h.log a h.walked }

  read_step : (s : Context) (k : WalkConfig) (root : IRNode) (v w : V) (r : Result (WalkResult B) Refusal) → WalkCall answer next s k root v r w → Called s (walk root k) (bared r) s
  read_step s k root v w (Ok a) h = (h.0, (some_read s k root v w a h.1, refl))
  read_step s k root v w (Err e) h = (h.0, refl)

  read_all_step : (s : Context) (k : WalkConfig) (root : IRNode) (v w : V) (r : Result (Unit {0}) Refusal) → WalkAllCall B next s k root v r w → Called s (walk root k) (ended_all r) s
  read_all_step s k root v w (Ok a) h = (h.0, (record { log = bare_log h.1.log; walked = whole_in s k root h.1.log (all_read next s v w h.1.log h.1.shows) h.1.whole }, refl))
  read_all_step s k root v w (Err e) h = (h.0, refl)

  module _ (notes : V → Context → IRNode → OpPtr → ℕ) where
    write_step : (s t : Context) (k : WalkConfig) (root : IRNode) (v w : V) (r : Result (WalkResult B) Refusal) → WalkMutCall answer next notes s k root v r w t → Called s (walk_noting root k) (bared r) t
    write_step s t k root v w (Ok a) h = (h.0, (record { log = bare_log h.1.log; walked = bare_in s k root h.1.log a h.1.walked }, h.1.only))
    write_step s t k root v w (Err e) h = (h.0, ap (λ (x : V × Context). x.1) h.1)

    write_all_step : (s t : Context) (k : WalkConfig) (root : IRNode) (v w : V) (r : Result (Unit {0}) Refusal) → WalkAllMutCall B next notes s k root v r w t → Called s (walk_noting root k) (ended_all r) t
    write_all_step s t k root v w (Ok a) h =
        (h.0, (record { log = bare_log h.1.log; walked = whole_in s k root h.1.log (all_written next notes (v, s) (w, t) h.1.log h.1.shows) h.1.whole }, h.1.only))
    write_all_step s t k root v w (Err e) h = (h.0, ap (λ (x : V × Context). x.1) h.1)

module _ {V B : Type 0} (answer : V → Context → IRNode → WalkResult B) (next : V → Context → IRNode → V) where
  table_step : (s : Context) (table : OpPtr) (v w : OperationsOnly V) (r : Result (Unit {0}) Refusal) → TableWalkCall answer next s table v r w → Called s (walk_table table) r s
  table_step s table v w (Ok a) h =
      let d = h.1 in (
        h.0,
        (
          record {
            region = d.region;
            is_region = d.is_region;
            says = bare d.says;
            walk = some_read (only_answer answer) (only_next next) s preorder_forward (node.Region d.region) v w d.says d.read;
          },
          refl,
        ),
      )
  table_step s table v w (Err e) h = (h.0, refl)

  pub reads : ReadSteps answer next
  reads = record { walks = read_step answer next; walks_all = read_all_step (λ (u : Uninterruptible V). answer u.inner) (inside next); walks_table = table_step }

  pub writes : (notes : V → Context → IRNode → OpPtr → ℕ) → WriteSteps answer next notes
  writes notes = record { walks = write_step answer next notes; walks_all = write_all_step (λ (u : Uninterruptible V). answer u.inner) (inside next) (beneath notes) }
