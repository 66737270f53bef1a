-- Each call that puts no symbol into a body and takes none out keeps what always holds of tables, done or refused. Assumes nothing.
use Rattle.std.proofs.Common.{◌≡◌, ℕ, Bool, true, false, ◌&&◌, is_some, Some, None, Ok, Err, Option, Result, sym, refl, ap, ◌∙◌, subst}
use mathlib.Core.Logic.{∥∥₁_elim, ∥∥₁_map, ∥∥₁_prop}
use Rattle.std.proofs.Math.Bool.{Bool-set}
use Rattle.std.specs.Option.{option_map}
use Rattle.arena.specs.Shelves.{Shelf, at}
use Rattle.linked_list.specs.declared.spot.Spot.{Spot}
use Rattle.linked_list.specs.Edits.{spot_in}
use Rattle.linked_list.specs.Links.{At, Sound}
use Rattle.records.specs.declared.handles.BlockPtr.{BlockPtr}
use Rattle.records.specs.declared.handles.OpPtr.{OpPtr}
use Rattle.records.specs.declared.handles.RegionPtr.{RegionPtr}
use Rattle.records.specs.declared.making.MadeOperation.{MadeOperation}
use Rattle.records.specs.declared.region.Region.{Region}
use Rattle.records.specs.declared.shape.Shape.{Shape}
use Rattle.records.specs.Makings.{AllKept, with_block, with_operation}
use Rattle.records.specs.Models.{Model}
use Rattle.records.specs.Nodes.{Owned, is, is_body, is_symbol, is_table, of_table, owner, table_bound}
use Rattle.records.specs.Notes.{NotedIn}
use Rattle.records.specs.Views.{block_links, but_block_links, but_op_links, endless_region, op_links}
use Rattle.records.proofs.Rests.{block_edit_links, op_edit_links, same_mapped}
use Rattle.result.specs.declared.refusal.Refusal.{Refusal}
use Rattle.forest.specs.declared.forest.Forest.{Forest}
use Rattle.forest.specs.Calls.{MakesBlock, MakesOperation, Notes}
use Rattle.forest.specs.Forests.{model}
use Rattle.forest.specs.Linkings.{LinksBlock, LinksOp, OpLinked, OpUnlinked, UnlinksBlock, UnlinksOp}
use Rattle.forest.proofs.Frames.{noted_block_links, noted_op_links}
use Rattle.forest.proofs.Listed.{clash}
use Rattle.forest.proofs.Tables.{tables_of}
use Rattle.symbol_table.specs.Bodies.{Body, Bodied, Follows, Named, name_of}
use Rattle.symbol_table.proofs.Faces.{block_edit_faces, bodied_links, named_same, noted_faces, op_edit_faces}
use Rattle.symbol_table.proofs.Following.{follows_around, follows_moved, follows_still}
use Rattle.symbol_table.proofs.Growing.{block_bodied, block_loose, block_named, bodied_grown, follows_grown, named_grown, new_body, new_loose, new_named}
use Rattle.symbol_table.proofs.Regioning.{bodied_around}

-- what always holds of the nodes and the mappings of a store
pub record Whole (m : Model) (g : OpPtr → ℕ → Option OpPtr) : Type 0 where
  pub bodied : ∥ Bodied m ∥₁
  pub named : ∥ Named m ∥₁
  pub follows : ∥ Follows m g ∥₁

-- out of a truncation into another
pub into : {A B : Type 0} → ∥ A ∥₁ → (A → ∥ B ∥₁) → ∥ B ∥₁
into a f = ∥∥₁_elim a ∥∥₁_prop f

-- what is known of a store but for its truncation
pub whole_of : {m : Model} {g : OpPtr → ℕ → Option OpPtr} → ∥ Whole m g ∥₁ → Whole m g
whole_of w = record { bodied = into w (λ x. x.bodied); named = into w (λ x. x.named); follows = into w (λ x. x.follows) }

-- out of the truncated ghost field
pub named_of : (m : Model) → ∥ Named m ∥₁ → Named m
named_of m h = record { symbols = λ op. ∥∥₁_elim h (Bool-set (is_symbol m op) (is_some (name_of m op))) (λ x. x.symbols op) }

-- what stands nowhere stands in no table
nothing_is : {X : Type 0} (f : X → Bool) (x : Option X) → (is_some x ≡ true → ⊥) → is f x ≡ true → ⊥
nothing_is f None h e = clash (sym e)
nothing_is f (Some y) h e = h refl

and_false : (a b : Bool) → (b ≡ true → ⊥) → (a && b) ≡ true → ⊥
and_false true b h e = h e
and_false false b h e = clash (sym e)

module _ (m n : Model) (g : OpPtr → ℕ → Option OpPtr) (w : Whole m g) where
  -- edits of links of operations: which region is whose stays, and which block stands where
  module _ (rest : but_op_links n ≡ but_op_links m) where
    pub op_owners : (r : RegionPtr) → owner n r ≡ owner m r
    op_owners r = ap (λ (a : Shelf Region). option_map (λ (z : Region). z.parent_op) (at a r.handle)) (ap (λ (a : Model). a.regions) rest)

    pub op_bodied : ∥ Bodied n ∥₁
    op_bodied = ∥∥₁_map w.bodied (bodied_links m n (op_edit_faces m n rest) (op_edit_links m n rest))

    pub op_named : ∥ Named n ∥₁
    op_named = ∥∥₁_map w.named (named_same m n (op_edit_faces m n rest))

  op_linked : (op : OpPtr) (spot : Spot OpPtr BlockPtr) → (is_some ((op_links m).within op) ≡ true → ⊥) → OpLinked m op spot n → ((b : BlockPtr) → spot_in (op_links m) spot ≡ Some b → table_bound m op (Some b) ≡ true → ⊥) → Whole n g
  op_linked op spot loose e free = record {
    bodied = op_bodied e.rests;
    named = op_named e.rests;
    follows = ∥∥₁_map w.follows
        (follows_moved m n (op_edit_faces m n e.rests) (op_edit_links m n e.rests) (op_owners e.rests) (named_of m w.named) op (Some e.container) e.inserts.moves
        (and_false (is_symbol m op) (is (is_body m) ((op_links m).within op)) (nothing_is (is_body m) ((op_links m).within op) loose)) (free e.container e.into) g);
  }

  op_unlinked : (op : OpPtr) → OpUnlinked m op n → (table_bound m op ((op_links m).within op) ≡ true → ⊥) → Whole n g
  op_unlinked op e free = record {
    bodied = op_bodied e.rests;
    named = op_named e.rests;
    follows = ∥∥₁_map w.follows
        (follows_moved m n (op_edit_faces m n e.rests) (op_edit_links m n e.rests) (op_owners e.rests) (named_of m w.named) op None e.removes.moves free
        (and_false (is_symbol m op) false (λ z. clash (sym z))) g);
  }

  -- edits of links of blocks
  module _ (own : Owned m) (s : Sound (block_links m)) (t : Sound (block_links n)) (rest : but_block_links n ≡ but_block_links m) (c : BlockPtr) (x : Option RegionPtr)
      (moves : At (block_links m).within (block_links n).within c x) (live : (block_links n).live ≡ (block_links m).live) (held : (block_links n).held ≡ (block_links m).held)
      (before : is (of_table m) ((block_links m).within c) ≡ true → ⊥) (after : is (of_table m) x ≡ true → ⊥) where
    block_owners : (r : RegionPtr) → owner n r ≡ owner m r
    block_owners r = same_mapped endless_region m.regions n.regions (ap (λ (a : Model). a.regions) rest) (λ (z : Region). z.parent_op) (λ z. refl) r.handle

    block_moved : Whole n g
    block_moved = record {
      bodied = into s (λ l. into t (λ k. ∥∥₁_map w.bodied (bodied_around m n (block_edit_faces m n rest) own l.0 k.0 l.1 k.1 live held c x moves before after)));
      named = ∥∥₁_map w.named (named_same m n (block_edit_faces m n rest));
      follows = ∥∥₁_map w.follows (follows_around m n (block_edit_faces m n rest) (block_edit_links m n rest) block_owners c x moves before after g);
    }

  -- makings
  module _ (kept : AllKept m n) (own : ∥ Owned m ∥₁) (ls : Sound (op_links m)) (ks : Sound (block_links m))
      (loose : (o : OpPtr) → (op_links m).live o ≡ false → (op_links n).within o ≡ None)
      (named : (o : OpPtr) → (op_links m).live o ≡ false → is_symbol n o ≡ is_some (name_of n o))
      (body : (t : OpPtr) → (op_links m).live t ≡ false → is_table n t ≡ true → Body n t) where
    grown : Whole n g
    grown = record {
      bodied = ∥∥₁_map w.bodied (bodied_grown m n kept body);
      named = ∥∥₁_map w.named (named_grown m n kept named);
      follows = into own (λ o. into ls (λ l. into ks (λ k. ∥∥₁_map w.follows (follows_grown m n kept l.0 k.0 l.1 k.1 o loose g))));
    }

module _ (f t : Forest) (g : OpPtr → ℕ → Option OpPtr) (w : Whole (model f) g) where
  stays : t ≡ f → Whole (model t) g
  stays same = subst (λ (h : Forest). Whole (model h) g) (sym same) w

  pub linked_op : (op : OpPtr) (spot : Spot OpPtr BlockPtr) (r : Result (Unit {0}) Refusal) → LinksOp f op spot r t → Whole (model t) g
  linked_op op spot (Err e) a = stays a.1
  linked_op op spot (Ok u) a =
      op_linked (model f) (model t) g w op spot a.0.1.0 a.1 (λ b e h. a.0.1.1.1.1.0 (ap (table_bound (model f) op) e ∙ h))

  pub unlinked_op : (op : OpPtr) (r : Result (Unit {0}) Refusal) → UnlinksOp f op r t → Whole (model t) g
  unlinked_op op (Err e) a = stays a.1
  unlinked_op op (Ok u) a = op_unlinked (model f) (model t) g w op a.1 a.0.1.1.0

  pub linked_block : (block : BlockPtr) (spot : Spot BlockPtr RegionPtr) (r : Result (Unit {0}) Refusal) → LinksBlock f block spot r t → Whole (model t) g
  linked_block block spot (Err e) a = stays a.1
  linked_block block spot (Ok u) a =
      let m = model f in
      let n = model t in
      whole_of (∥∥₁_map f.owned (λ own.
      block_moved m n g w own f.blocklists t.blocklists a.1.rests block (Some a.1.container) a.1.inserts.moves a.1.inserts.live a.1.inserts.held
      (nothing_is (of_table m) ((block_links m).within block) a.0.1.0)
      (λ h. a.0.1.1.1.0 (ap (is (of_table m)) a.1.into ∙ h))))

  pub unlinked_block : (block : BlockPtr) (r : Result (Unit {0}) Refusal) → UnlinksBlock f block r t → Whole (model t) g
  unlinked_block block (Err e) a = stays a.1
  unlinked_block block (Ok u) a =
      let m = model f in
      let n = model t in
      whole_of (∥∥₁_map f.owned (λ own.
      block_moved m n g w own f.blocklists t.blocklists a.1.rests block None a.1.removes.moves a.1.removes.live a.1.removes.held a.0.1.1.0 (λ h. clash (sym h))))

  pub noted : (op : OpPtr) (note : ℕ) (r : Result (Unit {0}) Refusal) → Notes f op note r t → Whole (model t) g
  noted op note (Err e) a = stays a.1
  noted op note (Ok u) a =
      let m = model f in
      let n = model t in
      let e = a.1 in
      let ops = noted_faces f t op note e in
      let was : NotedIn m op note n = record { old = e.old; was = e.was; places = e.places; only = e.only; blocks = e.blocks; regions = e.regions } in
      let links = noted_block_links m n op note was in
      record {
        bodied = ∥∥₁_map w.bodied (bodied_links m n ops links);
        named = ∥∥₁_map w.named (named_same m n ops);
        follows = ∥∥₁_map w.follows
            (follows_still m n ops links (λ r. ap (λ (s : Shelf Region). option_map (λ (z : Region). z.parent_op) (at s r.handle)) e.regions) (noted_op_links m n op note was) g);
      }

  pub made_block : (r : Result BlockPtr Refusal) → MakesBlock f r t → Whole (model t) g
  made_block (Err e) a = stays a.1
  made_block (Ok b) a =
      let m = model f in
      let kept = subst (AllKept m) a.1.after a.1.kept in
      subst (λ (n : Model). Whole n g) (sym a.1.after)
      (grown m (with_block m) g w kept f.owned f.oplists f.blocklists (block_loose m) (block_named m) (block_bodied m))

  pub made_operation : (shape : Shape) (name : Option ℕ) → shape.kind.symbol ≡ is_some name → (r : Result MadeOperation Refusal) → MakesOperation f shape name r t → Whole (model t) g
  made_operation shape name same (Err e) a = stays a.1
  made_operation shape name same (Ok x) a =
      let m = model f in
      let n = with_operation shape.kind name shape.count m in
      let kept = subst (AllKept m) a.1.after a.1.kept in
      let tables = tables_of f.records in
      subst (λ (n : Model). Whole n g) (sym a.1.after)
      (grown m n g w kept f.owned f.oplists f.blocklists
      (new_loose m tables shape.kind name shape.count a.1.roomy) (new_named m tables shape.kind name shape.count a.1.roomy same) (new_body m tables shape.kind name shape.count a.1.roomy shape.one))
