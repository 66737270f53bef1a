-- A ledger can take down every call: there is one that it becomes. Assumes nothing.
use Rattle.std.proofs.Common.{◌≡◌, true, false, ◌⊎◌, List, [], ◌∷◌, ◌++◌, is_some, Some, None, Ok, Err, Option, Result, sym, refl, ap, ◌∙◌, inl, inr, ⊎_elim, subst}
use Rattle.std.specs.Option.{option_to_list}
use Rattle.std.proofs.lemmas.Bool.{true_from_ne_false}
use Rattle.linked_list.specs.declared.spot.Spot.{Spot}
use Rattle.linked_list.specs.declared.spot.Spot.TheVariants.{AtFront, AtBack, Before, After}
use Rattle.linked_list.specs.Edits.{Puts, Takes, spot_in, spot_live}
use Rattle.linked_list.specs.Links.{At, Holds, In, View}
use Rattle.linked_list.proofs.Lists.{some_same}
use Rattle.linked_list.proofs.Spots.{cut}
use Rattle.records.specs.declared.handles.BlockPtr.{BlockPtr}
use Rattle.records.specs.declared.handles.OpPtr.{OpPtr}
use Rattle.records.specs.Nodes.{is_table}
use Rattle.symbol_table.specs.declared.op_insertion_point.OpInsertionPoint.{OpInsertionPoint}
use Rattle.ir.specs.Tables.{SymbolInserted}
use Rattle.records.specs.declared.ir_node.IRNode.TheVariants as node
use Rattle.records.specs.Views.{block_links, op_links}
use Rattle.records.specs.Writes.{block_same, op_same, region_same}
use Rattle.result.specs.declared.refusal.Refusal.{Refusal}
use Rattle.ir.specs.declared.context.Context.{Context}
use Rattle.ir.specs.Stores.{nodes}
use Rattle.histories.specs.Calls.{Answer, Call, Called, make_operation, make_block, insert_op, insert_block, unlink_op, unlink_block, erase_op, erase_block, table_insert, table_remove, table_erase, lookup, lookup_nearest, nearest_symbol_table, set_note, walk, walk_noting, walk_table}
use Rattle.histories.specs.Feeding.{Entering, OpPut, OpTaken, Put, PutAt, Same, TableInserted, Taken, named}
use Rattle.histories.specs.Histories.{Fed}
use Rattle.histories.specs.Ledgers.{Ledger, OpEntry, SpotIn, listed}
use Rattle.histories.specs.Represents.{Represents}
use Rattle.histories.proofs.Erases.{erased_some}
use Rattle.histories.proofs.Nodes as the
use Rattle.histories.proofs.Standing as standing
use Rattle.histories.proofs.TableEdits.{body_held, default_is}
use Rattle.histories.proofs.TableRowing.{at_body}

-- a function, but for b at a
module _ {A B : Type 0} (same : (x y : A) → (x ≡ y) ⊎ (x ≡ y → ⊥)) (f : A → B) where
  abbrev put : A → B → A → B
  put a b x = ⊎_elim (λ _. b) (λ _. f x) (same x a)

  here : (x a : A) (b : B) (d : (x ≡ a) ⊎ (x ≡ a → ⊥)) → x ≡ a → ⊎_elim (λ _. b) (λ _. f x) d ≡ b
  here x a b (inl e) q = refl
  here x a b (inr ne) q = absurd (ne q)

  away : (x a : A) (b : B) (d : (x ≡ a) ⊎ (x ≡ a → ⊥)) → (x ≡ a → ⊥) → ⊎_elim (λ _. b) (λ _. f x) d ≡ f x
  away x a b (inl e) ne = absurd (ne e)
  away x a b (inr m) ne = refl

  put_at : (a : A) (b : B) → At f (put a b) a b
  put_at a b = record { here = here a a b (same a a) refl; other = λ x ne. away x a b (same x a) ne }

-- a function, but for b at all of a list
module _ {A B : Type 0} (same : (x y : A) → (x ≡ y) ⊎ (x ≡ y → ⊥)) (f : A → Option B) where
  abbrev entered : List A → B → A → Option B
  entered new b x = ⊎_elim (λ _. Some b) (λ _. f x) (standing.in_or_not same x new)

  in_here : (x : A) (new : List A) (b : B) (d : In x new ⊎ (In x new → ⊥)) → In x new → ⊎_elim (λ _. Some b) (λ _. f x) d ≡ Some b
  in_here x new b (inl i) j = refl
  in_here x new b (inr out) j = absurd (out j)

  in_none : (x : A) (new : List A) (b : B) (d : In x new ⊎ (In x new → ⊥)) → (In x new → ⊥) → ⊎_elim (λ _. Some b) (λ _. f x) d ≡ f x
  in_none x new b (inl i) out = absurd (out i)
  in_none x new b (inr o) out = refl

  entering : (new : List A) (b : B) → Entering f (entered new b) new b
  entering new b = record { here = λ x i. in_here x new b (standing.in_or_not same x new) i; other = λ x out. in_none x new b (standing.in_or_not same x new) out }

-- a list in which a mark is can take a node before it or after it, and one at its ends always
module _ {N C : Type 0} (n : N) where
  puts_some : (L : C → List N) (spot : Spot N C) (c : C) → SpotIn L spot c → (ys : List N) × Puts spot n (L c) ys
  puts_some L (AtFront d) c i = (n ∷ L c, refl)
  puts_some L (AtBack d) c i = (L c ++ n ∷ [], refl)
  puts_some L (Before mark) c i = let w = cut mark (L c) i in (w.0 ++ n ∷ mark ∷ w.1.0, (w.0, w.1.0, w.1.1, refl))
  puts_some L (After mark) c i = let w = cut mark (L c) i in (w.0 ++ mark ∷ n ∷ w.1.0, (w.0, w.1.0, w.1.1, refl))

takes_some : {N : Type 0} (n : N) (xs : List N) → In n xs → (ys : List N) × Takes n xs ys
takes_some n xs i = let w = cut n xs i in (w.0 ++ w.1.0, (w.0, w.1.0, w.1.1, refl))

module _ {N C : Type 0} (same : (x y : C) → (x ≡ y) ⊎ (x ≡ y → ⊥)) (v : View N C) (f : C → Option (List N)) (held : (c : C) → is_some (f c) ≡ v.held c)
    (h : Holds v (λ c. listed (f c))) (blank : (n : N) → v.live n ≡ false → v.within n ≡ None) where
  into_held : (spot : Spot N C) (c : C) → SpotIn (λ d. listed (f d)) spot c → (spot_live v spot ≡ false → ⊥) → v.held c ≡ true
  into_held (AtFront d) c e ne = ap v.held e ∙ true_from_ne_false _ ne
  into_held (AtBack d) c e ne = ap v.held e ∙ true_from_ne_false _ ne
  into_held (Before mark) c i ne = standing.in_held v f held h blank mark c i
  into_held (After mark) c i ne = standing.in_held v f held h blank mark c i

  was_listed : (c : C) → v.held c ≡ true → f c ≡ Some (listed (f c))
  was_listed c k = let w = standing.some_is (f c) (held c ∙ k) in w.1 ∙ ap (λ (xs : List N). Some xs) (sym (ap listed w.1))

  put_held : (n : N) (spot : Spot N C) (c : C) → SpotIn (λ d. listed (f d)) spot c → v.held c ≡ true → (g : C → Option (List N)) × Put f g n spot
  put_held n spot c i k =
      let w = puts_some n (λ d. listed (f d)) spot c i in
      (put same f c (Some w.0), record { container = c; into = i; before = listed (f c); was = was_listed c k; after = w.0; puts = w.1; change = put_at same f c (Some w.0) })

  put_some : (n : N) (spot : Spot N C) (c : C) → SpotIn (λ d. listed (f d)) spot c → (spot_live v spot ≡ false → ⊥) → (g : C → Option (List N)) × Put f g n spot
  put_some n spot c i ne = put_held n spot c i (into_held spot c i ne)

  taken_some : (n : N) (c : C) → In n (listed (f c)) → (g : C → Option (List N)) × Taken f g n
  taken_some n c i =
      let w = takes_some n (listed (f c)) i in
      (put same f c (Some w.0), record { container = c; before = listed (f c); was = was_listed c (standing.in_held v f held h blank n c i); after = w.0; takes = w.1; change = put_at same f c (Some w.0) })

nothing : (l : Ledger) → Same l l
nothing l = record { operations = λ x. refl; blocks = λ x. refl; regions = λ x. refl }

module _ (s t : Context) (l : Ledger) (r : Represents s l) where
  -- an operation comes to a spot in a block that is held, or goes from its block
  op_put : (op : OpPtr) (spot : Spot OpPtr BlockPtr) (b : BlockPtr) → spot_in (op_links (nodes s)) spot ≡ Some b → (op_links (nodes s)).held b ≡ true → (m : Ledger) × OpPut l op spot m
  op_put op spot b e k =
      let i = standing.into_spot (op_links (nodes s)) l.block r.blocks r.ops_hold (the.loose_op s l r) spot b e in
      let w = put_held block_same (op_links (nodes s)) l.block r.blocks r.ops_hold (the.loose_op s l r) op spot b i k in
      (record { operation = l.operation; block = w.0; region = l.region }, record { operations = λ y. refl; blocks = w.1; regions = λ y. refl })

  op_gone : (op : OpPtr) (b : BlockPtr) → (op_links (nodes s)).within op ≡ Some b → (m : Ledger) × OpTaken l op m
  op_gone op b e =
      let w = taken_some block_same (op_links (nodes s)) l.block r.blocks r.ops_hold (the.loose_op s l r) op b (the.block_has_op s l r op b e) in
      (record { operation = l.operation; block = w.0; region = l.region }, record { operations = λ y. refl; blocks = w.1; regions = λ y. refl })

  table_put : (table op : OpPtr) (point : Option OpInsertionPoint) → (is_table (nodes s) table ≡ false → ⊥) → SymbolInserted s table op point t → (m : Ledger) × TableInserted l table op point m
  table_put table op None one d =
      let i = d.inserted in
      let b = at_body s l r table one i.body i.is_body in
      let w = op_put op i.spot i.body i.lies (body_held s l r table i.body b) in
      (w.0, (i.body, b, subst (λ (z : Spot OpPtr BlockPtr). OpPut l op z w.0) (sym (some_same i.goes) ∙ default_is s l r table i.body b) w.1))
  table_put table op (Some point) one d =
      let i = d.inserted in
      let w = op_put op i.spot i.body i.lies (body_held s l r table i.body (at_body s l r table one i.body i.is_body)) in
      (w.0, subst (λ (z : Option (Spot OpPtr BlockPtr)). PutAt l op z w.0) (sym i.goes) w.1)

  pub fed : (c : Call) (a : Result (Answer c) Refusal) → Called s c a t → (m : Ledger) × Fed l c a m
  fed c (Err e) h = (l, nothing l)
  fed (make_operation kind regions name) (Ok x) h =
      let e : OpEntry = record { kind = h.1.is; name = named name; regions = x.regions } in (
        record { operation = put op_same l.operation x.operation (Some e); block = entered block_same l.block (option_to_list x.body) []; region = entered region_same l.region x.regions (option_to_list x.body) },
        record {
          is = h.1.is;
          sum = h.1.sum;
          operations = put_at op_same l.operation x.operation (Some e);
          regions = entering region_same l.region x.regions (option_to_list x.body);
          blocks = entering block_same l.block (option_to_list x.body) [];
        },
      )
  fed make_block (Ok x) h = (
    record { operation = l.operation; block = put block_same l.block x (Some []); region = l.region },
    record { operations = λ y. refl; blocks = put_at block_same l.block x (Some []); regions = λ y. refl },
  )
  fed (insert_op op spot) (Ok x) h =
      let d = h.1.linked in
      let i = standing.into_spot (op_links (nodes s)) l.block r.blocks r.ops_hold (the.loose_op s l r) spot d.container d.into in
      let w = put_some block_same (op_links (nodes s)) l.block r.blocks r.ops_hold (the.loose_op s l r) op spot d.container i (λ e. h.0.0 (inr e)) in
      (record { operation = l.operation; block = w.0; region = l.region }, record { operations = λ y. refl; blocks = w.1; regions = λ y. refl })
  fed (insert_block block spot) (Ok x) h =
      let d = h.1.linked in
      let i = standing.into_spot (block_links (nodes s)) l.region r.regions r.blocks_hold (the.loose_block s l r) spot d.container d.into in
      let w = put_some region_same (block_links (nodes s)) l.region r.regions r.blocks_hold (the.loose_block s l r) block spot d.container i (λ e. h.0.0 (inr e)) in
      (record { operation = l.operation; block = l.block; region = w.0 }, record { operations = λ y. refl; blocks = λ y. refl; regions = w.1 })
  fed (unlink_op op) (Ok x) h =
      let d = h.1.unlinked in op_gone op d.container d.from
  fed (unlink_block block) (Ok x) h =
      let d = h.1.unlinked in
      let w = taken_some region_same (block_links (nodes s)) l.region r.regions r.blocks_hold (the.loose_block s l r) block d.container (the.region_has_block s l r block d.container d.from) in
      (record { operation = l.operation; block = l.block; region = w.0 }, record { operations = λ y. refl; blocks = λ y. refl; regions = w.1 })
  fed (erase_op op) (Ok x) h = erased_some s l r (node.Operation op)
  fed (erase_block block) (Ok x) h = erased_some s l r (node.BasicBlock block)
  fed (table_insert table op point) (Ok x) h = table_put table op point h.0.1.0 h.1
  fed (table_remove table op) (Ok x) h = let d = h.1.removed.unlinked in op_gone op d.container d.from
  fed (table_erase table op) (Ok x) h = erased_some s l r (node.Operation op)
  fed (lookup table name) (Ok x) h = (l, nothing l)
  fed (lookup_nearest op name) (Ok x) h = (l, nothing l)
  fed (nearest_symbol_table op) (Ok x) h = (l, nothing l)
  fed (set_note op note) (Ok x) h = (l, nothing l)
  fed (walk root k) (Ok x) h = (l, nothing l)
  fed (walk_noting root k) (Ok x) h = (l, nothing l)
  fed (walk_table table) (Ok x) h = (l, nothing l)
