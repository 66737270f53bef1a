-- Every operation's name stays held, and a store that changed in no part is the same store. Assumes nothing.
use Rattle.std.proofs.Common.{◌≡◌, ℕ, ◌<◌, ◌≤◌, Bool, false, List, [], ◌∷◌, ◌++◌, length, is_some, Some, None, Ok, Err, vec_items, MatchBool, Option, Result, sym, refl, ap, ◌∙◌, subst, inl, inr, arith}
use mathlib.Core.Logic.{∥∥₁_elim, ∥∥₁_prop}
use native.Mathlib.Bridge.{le_prop}
use Rattle.std.proofs.lemmas.List.{length-map, length_push}
use Rattle.arena.specs.declared.handle.Handle.{Handle}
use Rattle.arena.specs.declared.slot.Slot.{Slot}
use Rattle.arena.specs.Pools.{Pool, live, live_slot, unused_pool}
use Rattle.arena.specs.Shelves.{Shelf, at}
use Rattle.arena.proofs.Pooling.{unused_at}
use Rattle.arena.proofs.Shelving.{at_dead, enter_only, only_all, shelf_long, sound_shelf}
use Rattle.forest.specs.declared.forest.Forest.{Forest}
use Rattle.records.specs.declared.handles.BlockPtr.{BlockPtr}
use Rattle.records.specs.declared.handles.OpPtr.{OpPtr}
use Rattle.records.specs.declared.kind.Kind.{Kind}
use Rattle.records.specs.declared.making.MadeOperation.{MadeOperation}
use Rattle.records.specs.declared.operation.Operation.{Operation}
use Rattle.records.specs.declared.shape.Shape.{Shape}
use Rattle.forest.specs.Calls.{Fresh}
use Rattle.records.specs.Notes.{noted}
use Rattle.records.specs.Views.{but_block_links, but_op_links, loose_op}
use Rattle.records.proofs.Rests.{same_mapped, was}
use Rattle.linked_list.specs.declared.spot.Spot.{Spot}
use Rattle.result.specs.declared.refusal.Refusal.{Refusal}
use Rattle.records.specs.declared.handles.RegionPtr.{RegionPtr}
use Rattle.records.specs.Makings.{Roomy, new_operation, regions_made, with_operation}
use Rattle.forest.specs.Forests.{model}
use Rattle.records.specs.Models.{Model, operation_at}
use Rattle.names.specs.declared.names.Names.{Names}
use Rattle.names.specs.Held.{Finds, held}
use Rattle.names.specs.Held.{Reads as NamesRead}
use Rattle.std.specs.Option.{option_map}
use Rattle.result.specs.Rows.{Answered, NoRow}
use Rattle.symbol_table.specs.declared.op_insertion_point.OpInsertionPoint.{OpInsertionPoint}
use Rattle.symbol_table.specs.declared.symbol_tables.SymbolTables.{SymbolTables}
use Rattle.symbol_table.specs.Carried.{LinksBlockIn, LinksOpIn, MakesBlockIn, MakesOperationIn, NotesIn, UnlinksBlockIn, UnlinksOpIn, nodes as tabled}
use Rattle.symbol_table.specs.Inserting.{Inserts, Removes}
use Rattle.ir.specs.declared.context.Context.{Context}
use Rattle.ir.specs.Calls.{Holding, operation_rows}
use Rattle.ir.specs.Stores.{name_at, name_of, names, nodes}
use Rattle.ir.specs.Numbers.{NumbersHeld}
use Rattle.ir.specs.Steps.{Full, NumberGiven}
use Rattle.identifier.specs.declared.identifier.Identifier.{Identifier}
use Rattle.identifier.specs.Identifiers.{text}

-- out of the truncated ghost field
pub numbers_held : (m : Model) (n : ℕ) → ∥ NumbersHeld m n ∥₁ → NumbersHeld m n
numbers_held m n t = record { number = λ op o i e f. ∥∥₁_elim t le_prop (λ x. x.number op o i e f) }

-- a store is its nodes with their symbol tables, and its names
pub same_context : (s t : Context) → t.tables ≡ s.tables → t.names ≡ s.names → t ≡ s
same_context s t f n =
    let P : SymbolTables → Names → Type 0 = λ g m. (q : ∥ NumbersHeld (tabled g) (length (held m)) ∥₁) → ◌≡◌ {A = Context} (record { tables = g; names = m; numbers = q }) s in
    let base : P s.tables s.names = λ q. ap (λ (o : ∥ NumbersHeld (nodes s) (length (held s.names)) ∥₁). record { tables = s.tables; names = s.names; numbers = o }) (∥∥₁_prop q s.numbers) in
    subst (λ (g : SymbolTables). P g t.names) (sym f) (subst (λ (m : Names). P s.tables m) (sym n) base) t.numbers

-- the names held only grow
holding_longer : (before after : List (List ℕ)) (name : List ℕ) (i : ℕ) → Holding before name i after → (i < length after) × (length before ≤ length after)
holding_longer before after name i (inl h) = let w = h.0.within in let l : length after ≡ length before = ap length h.1 in (omega arith, omega arith)
holding_longer before after name i (inr h) =
    let n = h.1 in
    let l : length after ≡ length (before ++ name ∷ []) = ap length h.2 in
    let p = length_push before name in
    (omega arith, omega arith)

given_longer : (before after : List (List ℕ)) (name : Option Identifier) (number : Option ℕ) → NumberGiven before name number after
    → ((i : ℕ) → number ≡ Some i → i < length after) × (length before ≤ length after)
given_longer before after None None h = let l : length after ≡ length before = ap length h.1 in (λ i e. let z : ◌≡◌ {A = ℕ} 0 1 = cc in absurd (omega arith), omega arith)
given_longer before after None (Some j) h = let l : length after ≡ length before = ap length h.1 in let k = h.0 in (λ i e. let z : ◌≡◌ {A = ℕ} 0 1 = cc in absurd (omega arith), omega arith)
given_longer before after (Some n) None h = absurd h
given_longer before after (Some n) (Some j) h =
    let l = holding_longer before after (text n) j h in
    let lt = l.0 in
    (λ i e. let z : j ≡ i = cc in omega arith, l.1)

-- a making's name is held, and those that were held are
pub made_held : (f : Forest) (m : Model) (before after : List (List ℕ)) (kind : Kind) (count : ℕ) (name : Option Identifier) (number : Option ℕ)
    → NumbersHeld (model f) (length before) → NumberGiven before name number after → Roomy kind count (model f) → m ≡ with_operation kind number count (model f)
    → NumbersHeld m (length after)
made_held f m before after kind count name number held given roomy e =
    let longer = given_longer before after name number given in
    let most = longer.1 in
    let new = new_operation kind number (regions_made kind count (model f)) in
    let P : Operation → Type 0 = λ o. (i : ℕ) → o.name ≡ Some i → i < length after in
    let only = enter_only (model f).operations new (sound_shelf f.records.operations) roomy.operations (shelf_long f.records.operations) in
    let all = only_all _ _ _ new P only longer.0 (λ k y z i q. let lt = held.number (record { handle = k }) y i z q in omega arith) in
    subst (λ (n : Model). NumbersHeld n (length after)) (sym e) (record { number = λ op o i z q. all op.handle o z i q })

-- a block that is made, and a note that is set, leave the names as they are
pub block_held : (f t : SymbolTables) (r : Result BlockPtr Refusal) (n : ℕ) → MakesBlockIn f r t → NumbersHeld (tabled f) n → NumbersHeld (tabled t) n
block_held f t (Err x) n e h = subst (λ (g : SymbolTables). NumbersHeld (tabled g) n) (sym e.1) h
block_held f t (Ok r) n e h =
    subst (λ (m : Model). NumbersHeld m n) (sym e.1.0.after) (record { number = λ op o i z q. h.number op o i z q })

pub noted_held : (f t : SymbolTables) (op : OpPtr) (note : ℕ) (r : Result (Unit {0}) Refusal) (n : ℕ) → NotesIn f op note r t → NumbersHeld (tabled f) n → NumbersHeld (tabled t) n
noted_held f t op note (Err x) n e h = subst (λ (g : SymbolTables). NumbersHeld (tabled g) n) (sym e.1) h
noted_held f t op note (Ok x) n e h =
    let P : Operation → Type 0 = λ o. (i : ℕ) → o.name ≡ Some i → i < n in
    let d = e.1.0 in
    let all = only_all (at (tabled f).operations) (at (tabled t).operations) op.handle (noted note d.old) P d.only (λ i q. h.number op d.old i d.was q)
    (λ k y z i q. h.number (record { handle = k }) y i z q) in
    record { number = λ p o i z q. all p.handle o z i q }

-- in a store where nothing was made no handle names an operation
unused_none : (n : ℕ) (k : Handle) → live (unused_pool n) k ≡ false
unused_none n k = ap (λ (x : Slot). live_slot x k.version) (unused_at n k.place)

pub fresh_held : (f : Forest) (n : ℕ) → Fresh f → NumbersHeld (model f) n
fresh_held f n fresh = record {
  number = λ op o i z q.
      let dead : live (model f).operations.pool op.handle ≡ false = ap (λ (p : Pool). live p op.handle) fresh.operations ∙ unused_none 512 op.handle in
      let none = at_dead (model f).operations op.handle dead in
      let y : ◌≡◌ {A = ℕ} 0 1 = cc in absurd (omega arith);
}

-- whether a name can be held, from whether it is found where 256 are held
pub can_hold_when : (s : Names) (n : Identifier) (r : Option ℕ) (b : Bool) → Finds s n r → b ≡ is_some r → length (held s) ≡ 256
    → MatchBool b (Full (held s) (Some n) → ⊥) (Full (held s) (Some n))
can_hold_when s n None b f e l = subst (λ (c : Bool). MatchBool c (Full (held s) (Some n) → ⊥) (Full (held s) (Some n))) (sym e) (f, l)
can_hold_when s n (Some i) b f e l = subst (λ (c : Bool). MatchBool c (Full (held s) (Some n) → ⊥) (Full (held s) (Some n))) (sym e) (λ z. z.0 i f)

some_none : {X : Type 0} (x : X) (o : Option X) → o ≡ Some x → o ≡ None → ⊥
some_none x o p q = let z : ◌≡◌ {A = ℕ} 0 1 = cc in omega arith

same_option : {X : Type 0} (x : Option X) → option_map (λ y. y) x ≡ x
same_option None = refl
same_option (Some y) = refl

-- the name of a live operation, from what stands under its number
pub read_name : (s : Context) (op : OpPtr) (o : Operation) (i : ℕ) (r : Option Identifier) → option_map (λ y. y) (operation_at (nodes s) op) ≡ Some o → o.name ≡ Some i → NamesRead s.names i r
    → NoRow (operation_rows s op) × (option_map (name_of (names s)) (operation_at (nodes s) op) ≡ Some (option_map text r))
read_name s op o i None e n h =
    let lt = (numbers_held (nodes s) (length (names s)) s.numbers).number op o i (sym (same_option (operation_at (nodes s) op)) ∙ e) n in absurd (omega arith)
read_name s op o i (Some x) e n h =
    let is = sym (same_option (operation_at (nodes s) op)) ∙ e in (
      (some_none o (operation_at (nodes s) op) is, tt),
      ap (option_map (name_of (names s))) is ∙ ap (λ (m : Option ℕ). Some (name_at (names s) m)) n ∙ ap (λ (t : List ℕ). Some (Some t)) (h.is []),
    )

-- there is a number exactly where there is a name
given_is : (before after : List (List ℕ)) (name : Option Identifier) (number : Option ℕ) → NumberGiven before name number after → is_some name ≡ is_some number
given_is before after None None h = refl
given_is before after None (Some i) h = sym (ap is_some h.0)
given_is before after (Some n) None h = absurd h
given_is before after (Some n) (Some i) h = refl

-- what a making leaves, whatever it answers, where enough records are free
pub shaped_held : (f t : SymbolTables) (before after : List (List ℕ)) (shape : Shape) (name : Option Identifier) (number : Option ℕ) (r : Result MadeOperation Refusal)
    → NumbersHeld (tabled f) (length before) → NumberGiven before name number after → MakesOperationIn f shape number r t → Roomy shape.kind shape.count (tabled f)
    → shape.kind.symbol ≡ is_some name → NumbersHeld (tabled t) (length after)
shaped_held f t before after shape name number (Err e) held given made roomy named =
    absurd (elim made.0 [
      | inl h ↦ h.1 (named ∙ given_is before after name number given)
      | inr h ↦ elim h.1 [ inl k ↦ k.1 roomy | inr k ↦ k.1 ]
    ])
shaped_held f t before after shape name number (Ok r) held given made roomy named =
    made_held f.forest (tabled t) before after shape.kind shape.count name number held given roomy made.1.0.after

-- where no fewer than 256 names are held, 256 are
pub all_held : (s : Names) → 256 ≤ length (held s) → length (held s) ≡ 256
all_held s h =
    let l = length-map (vec_items s.list) text in
    let n = s.list.ok.0 in
    let f = s.few in
    omega arith

-- an edit of links leaves the names of operations as they are
pub same_names : (m t : Model) (n : ℕ) → ((p : OpPtr) → option_map (λ (o : Operation). o.name) (operation_at t p) ≡ option_map (λ (o : Operation). o.name) (operation_at m p)) → NumbersHeld m n → NumbersHeld t n
same_names m t n same h = record {
  number = λ op o i z q. let w = was (λ (y : Operation). y.name) (operation_at m op) (operation_at t op) o (same op) z in h.number op w.it i w.is (w.alike ∙ q);
}

pub op_edit_held : (m t : Model) (n : ℕ) → but_op_links t ≡ but_op_links m → NumbersHeld m n → NumbersHeld t n
op_edit_held m t n rest = same_names m t n (λ p. same_mapped loose_op m.operations t.operations (ap (λ (a : Model). a.operations) rest) (λ (o : Operation). o.name) (λ o. refl) p.handle)

pub block_edit_held : (m t : Model) (n : ℕ) → but_block_links t ≡ but_block_links m → NumbersHeld m n → NumbersHeld t n
block_edit_held m t n rest =
    same_names m t n (λ p. ap (λ (a : Shelf Operation). option_map (λ (o : Operation). o.name) (at a p.handle)) (ap (λ (a : Model). a.operations) rest))

-- linkings and unlinkings, done or refused, leave every name held
module _ (f t : SymbolTables) (n : ℕ) (held : NumbersHeld (tabled f) n) where
  stays : t ≡ f → NumbersHeld (tabled t) n
  stays same = subst (λ (g : SymbolTables). NumbersHeld (tabled g) n) (sym same) held

  pub op_linked_held : (op : OpPtr) (spot : Spot OpPtr BlockPtr) (r : Result (Unit {0}) Refusal) → LinksOpIn f op spot r t → NumbersHeld (tabled t) n
  op_linked_held op spot (Ok x) a = op_edit_held (tabled f) (tabled t) n a.1.0.rests held
  op_linked_held op spot (Err e) a = stays a.1

  pub op_unlinked_held : (op : OpPtr) (r : Result (Unit {0}) Refusal) → UnlinksOpIn f op r t → NumbersHeld (tabled t) n
  op_unlinked_held op (Ok x) a = op_edit_held (tabled f) (tabled t) n a.1.0.rests held
  op_unlinked_held op (Err e) a = stays a.1

  pub block_linked_held : (block : BlockPtr) (spot : Spot BlockPtr RegionPtr) (r : Result (Unit {0}) Refusal) → LinksBlockIn f block spot r t → NumbersHeld (tabled t) n
  block_linked_held block spot (Ok x) a = block_edit_held (tabled f) (tabled t) n a.1.0.rests held
  block_linked_held block spot (Err e) a = stays a.1

  pub block_unlinked_held : (block : BlockPtr) (r : Result (Unit {0}) Refusal) → UnlinksBlockIn f block r t → NumbersHeld (tabled t) n
  block_unlinked_held block (Ok x) a = block_edit_held (tabled f) (tabled t) n a.1.0.rests held
  block_unlinked_held block (Err e) a = stays a.1

  -- so do putting a symbol into a table and taking it out
  pub inserted_held : (table op : OpPtr) (point : Option OpInsertionPoint) (r : Result (Unit {0}) Refusal) → Inserts f table op point r t → NumbersHeld (tabled t) n
  inserted_held table op point (Ok x) a = op_edit_held (tabled f) (tabled t) n a.1.linked.rests held
  inserted_held table op point (Err e) a = stays a.1

  pub removed_held : (table op : OpPtr) (r : Result (Unit {0}) Refusal) → Removes f table op r t → NumbersHeld (tabled t) n
  removed_held table op (Ok x) a = op_edit_held (tabled f) (tabled t) n a.1.unlinked.rests held
  removed_held table op (Err e) a = stays a.1

-- what a call on the nodes and their tables answers, a call on the store does, where the names stay
pub answered : {X : Type 0} (rows : List (Refusal × Type 0)) (done : X → SymbolTables → Type 0) (all : X → Context → Type 0) (s t : Context) → t.names ≡ s.names → ((x : X) → done x t.tables → all x t)
    → (r : Result X Refusal) → Answered rows done s.tables r t.tables → Answered rows all s r t
answered rows done all s t same whole (Ok x) a = (a.0, whole x a.1)
answered rows done all s t same whole (Err e) a = (a.0, same_context s t a.1 same)
