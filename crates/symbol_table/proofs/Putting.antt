-- A symbol put into a body: which rows are left to linking, that there is room for its mapping, and that mappings go on to follow the
-- bodies. Assumes nothing.
use Rattle.std.proofs.Common.{◌≡◌, ℕ, ◌<◌, Bool, true, false, ◌⊎◌, ◌&&◌, [], ◌∷◌, is_some, Some, None, Option, sym, ap, ◌∙◌, subst, inl, inr, arith}
use mathlib.Core.Logic.{∥∥₁_elim}
use Rattle.std.proofs.Math.Bool.{Bool-set}
use Rattle.std.proofs.lemmas.Bool.{cases_eq}
use Rattle.std.proofs.lemmas.Bool.Decides.{Decides-eqb}
use Rattle.std.specs.Option.{option_map}
use Rattle.arena.specs.declared.handle.Handle.{Handle}
use Rattle.arena.specs.Pools.{Pool, is_live, live, slot_at}
use Rattle.arena.proofs.Shelving.{live_within_table, same_handle}
use Rattle.linked_list.specs.declared.spot.Spot.{Spot}
use Rattle.linked_list.specs.declared.spot.Spot.TheVariants.{After, AtBack, AtFront, Before}
use Rattle.linked_list.specs.Edits.{spot_in, spot_live}
use Rattle.linked_list.specs.Links.{At, Sound}
use Rattle.trees.specs.Climbs.{Within, below}
use Rattle.trees.proofs.Climbing.{inside_up}
use Rattle.records.specs.declared.handles.BlockPtr.{BlockPtr}
use Rattle.records.specs.declared.handles.OpPtr.{OpPtr}
use Rattle.records.specs.declared.handles.RegionPtr.{RegionPtr}
use Rattle.records.specs.declared.ir_node.IRNode.TheVariants as node
use Rattle.records.specs.declared.operation.Operation.{Operation}
use Rattle.records.specs.Models.{Model, operation_at}
use Rattle.records.specs.Nodes.{Owned, is_table, op_target, owner, parent}
use Rattle.records.specs.Views.{block_links, op_links, part}
use Rattle.records.specs.Writes.{op_same, same_opptr}
use Rattle.result.specs.declared.refusal.Refusal.{Refusal}
use Rattle.result.specs.declared.refusal.Refusal.TheVariants.{AlreadyLinked, WouldContainItself}
use Rattle.result.specs.Rows.{NoRow, Uppermost}
use Rattle.forest.specs.Linkings.{Dead}
use Rattle.forest.specs.Placings.{place_op_rows}
use Rattle.forest.proofs.Listed.{clash}
use Rattle.forest.proofs.Owning.{named_live}
use Rattle.mappings.specs.Laws.{Apart, Spare}
use Rattle.symbol_table.specs.declared.admitting.Admitted.{Admitted}
use Rattle.symbol_table.specs.declared.op_insertion_point.OpInsertionPoint.{OpInsertionPoint}
use Rattle.symbol_table.specs.declared.symbol_tables.SymbolTables.{SymbolTables}
use Rattle.symbol_table.specs.Bodies.{Bodied, Follows, Stands, block_parent, body_in, name_of, parent_op}
use Rattle.symbol_table.specs.Carried.{nodes}
use Rattle.symbol_table.specs.Inserting.{AnyDead, BodyInside, insert_rows}
use Rattle.symbol_table.specs.Points.{goes_to, has_spot, names_live}
use Rattle.symbol_table.specs.Steps.{AdmittedFor}
use Rattle.symbol_table.proofs.Faces.{SameOps, same_name, same_table}
use Rattle.symbol_table.proofs.Findings.{follows_in, op_set, some_same}
use Rattle.symbol_table.proofs.Following.{none_some, part_none, same_parent}
use Rattle.symbol_table.proofs.Growing.{part_some}
use Rattle.symbol_table.proofs.Regioning.{body_owner}
use Rattle.symbol_table.proofs.Spots.{body_is, end_live}

-- The rows.

module _ (m : Model) (s : Sound (op_links m)) (h : ∥ Bodied m ∥₁) (t op : OpPtr) (point : Option OpInsertionPoint) (a : Admitted) (p : AdmittedFor m t op point a) where
  body_held : (op_links m).held p.found.body ≡ true
  body_held =
      ∥∥₁_elim h (Bool-set ((op_links m).held p.found.body) true) (λ x.
      let b = x.body t p.wanted.table in
      subst (λ (c : BlockPtr). (op_links m).held c ≡ true) (some_same (sym (body_is m t b) ∙ p.found.is_body)) b.blocks.run.0.live)

  goes_live : (x : Option OpInsertionPoint) → goes_to m p.found.body x ≡ Some a.spot → has_spot (op_links m) x ≡ true → spot_live (op_links m) a.spot ≡ true
  goes_live None e l = ap (spot_live (op_links m)) (sym (some_same e)) ∙ end_live m s p.found.body body_held
  goes_live (Some x) e l = sym (ap (names_live (op_links m)) e) ∙ l

  not_dead : Dead (op_links m) op a.spot → ⊥
  not_dead (inl d) = clash (sym p.wanted.alive ∙ d)
  not_dead (inr d) = clash (sym (goes_live point p.found.goes p.there) ∙ d)

  none_dead : AnyDead m t op point → ⊥
  none_dead (inl (inl d)) = clash (sym p.wanted.held ∙ d)
  none_dead (inl (inr d)) = clash (sym p.wanted.alive ∙ d)
  none_dead (inr d) = clash (sym p.there ∙ d)

  marked : spot_in (op_links m) a.spot ≡ None → ⊥
  marked e = none_some (sym e ∙ p.found.lies)

  module _ (loose : is_some ((op_links m).within op) ≡ true → ⊥) where
    other_mark : (k : OpPtr) → (op_links m).within k ≡ Some p.found.body → node.Operation k ≡ node.Operation op → ⊥
    other_mark k e q = let same : k ≡ op = cc in loose (ap is_some (sym (ap (op_links m).within same) ∙ e))

    above_mark : (k : OpPtr) → (op_links m).within k ≡ Some p.found.body → Within (parent m) (node.Operation op) (node.Operation k) → Within (parent m) (node.Operation op) (node.BasicBlock p.found.body)
    above_mark k e w = inside_up (parent m) (node.Operation op) (node.Operation k) (node.BasicBlock p.found.body) (ap (option_map node.BasicBlock) e) (other_mark k e) w

    inside_body : (spot : Spot OpPtr BlockPtr) → spot_in (op_links m) spot ≡ Some p.found.body → Within (parent m) (node.Operation op) (op_target spot) → Within (parent m) (node.Operation op) (node.BasicBlock p.found.body)
    inside_body (AtFront b) e w = subst (λ (c : BlockPtr). Within (parent m) (node.Operation op) (node.BasicBlock c)) (some_same e) w
    inside_body (AtBack b) e w = subst (λ (c : BlockPtr). Within (parent m) (node.Operation op) (node.BasicBlock c)) (some_same e) w
    inside_body (Before k) e w = above_mark k e w
    inside_body (After k) e w = above_mark k e w

  inside_spot : (spot : Spot OpPtr BlockPtr) → spot_in (op_links m) spot ≡ Some p.found.body → Within (parent m) (node.Operation op) (node.BasicBlock p.found.body) → Within (parent m) (node.Operation op) (op_target spot)
  inside_spot (AtFront b) e w = subst (λ (c : BlockPtr). Within (parent m) (node.Operation op) (node.BasicBlock c)) (sym (some_same e)) w
  inside_spot (AtBack b) e w = subst (λ (c : BlockPtr). Within (parent m) (node.Operation op) (node.BasicBlock c)) (sym (some_same e)) w
  inside_spot (Before k) e w = below (node.BasicBlock p.found.body) (ap (option_map node.BasicBlock) e) w
  inside_spot (After k) e w = below (node.BasicBlock p.found.body) (ap (option_map node.BasicBlock) e) w

  -- what the tests passed, and then the rows of linking
  below_tests : (e : Refusal) → Uppermost ((AlreadyLinked, is_some ((op_links m).within op) ≡ true) ∷ (WouldContainItself, BodyInside m t op) ∷ []) e → Uppermost (insert_rows m t op point) e
  below_tests e u =
      inr (none_dead, inr ((λ d. clash (sym p.wanted.table ∙ d)), inr ((λ d. clash (sym p.wanted.symbol ∙ d)), inr (p.new, inr (p.only, inr (p.found.blocked, inr (p.found.same, u)))))))

  -- the refusal of linking is that of the insertion
  pub refused : (e : Refusal) → Uppermost (place_op_rows m op a.spot) e → Uppermost (insert_rows m t op point) e
  refused e (inl d) = absurd (not_dead d.1)
  refused e (inr (n, inl l)) = below_tests e (inl l)
  refused e (inr (n, inr (l, inl d))) = absurd (marked d.1)
  refused e (inr (n, inr (l, inr (k, inl w)))) =
      below_tests e (inr (l, inl (w.0, record { body = p.found.body; is_body = p.found.is_body; inside = inside_body l a.spot p.found.lies w.1 })))
  refused e (inr (n, inr (l, inr (k, inr (w, u))))) = absurd u

  outside : (Within (parent m) (node.Operation op) (op_target a.spot) → ⊥) → BodyInside m t op → ⊥
  outside out b =
      out (inside_spot a.spot p.found.lies
      (subst (λ (c : BlockPtr). Within (parent m) (node.Operation op) (node.BasicBlock c)) (some_same (sym b.is_body ∙ p.found.is_body)) b.inside))

  -- where linking is not refused, the insertion is not
  pub passed : NoRow (place_op_rows m op a.spot) → NoRow (insert_rows m t op point)
  passed r = (
    none_dead,
    (
      (λ d. clash (sym p.wanted.table ∙ d)),
      ((λ d. clash (sym p.wanted.symbol ∙ d)), (p.new, (p.only, (p.found.blocked, (p.found.same, (r.1.0, (outside r.1.1.1.0, tt))))))),
    ),
  )

-- The room for a mapping.

and_right : (a b : Bool) → (a && b) ≡ true → b ≡ true
and_right true b e = e
and_right false b e = absurd (clash (sym e))

-- two live handles of one place are one
one_live : (p : Pool) (h k : Handle) → live p h ≡ true → live p k ≡ true → h.place ≡ k.place → h ≡ k
one_live p h k a b e =
    let v = (Decides-eqb (slot_at p h.place).version h.version).0 (and_right (is_live (slot_at p h.place).state) _ a) in
    let w = (Decides-eqb (slot_at p k.place).version k.version).0 (and_right (is_live (slot_at p k.place).state) _ b) in
    same_handle h k e (sym v ∙ ap (λ (i : ℕ). (slot_at p i).version) e ∙ w)

-- what stands in a table is live
pub stands_live : (m : Model) (t op : OpPtr) → parent_op m op ≡ Some t → (op_links m).live op ≡ true
stands_live m t op e =
    let b = part_some (block_parent m) ((op_links m).within op) t e in
    let o = part_some (λ (x : Operation). x.container) (operation_at m op) b.it b.is in
    named_live m.operations op.handle o.it o.is

module _ (s : SymbolTables) where
  pub place_few : (op : OpPtr) → (op_links (nodes s)).live op ≡ true → op.handle.place < 512
  place_few op l =
      let h = live_within_table s.forest.records.operations op.handle l in
      let k = s.forest.records.ops in
      omega arith

  -- the operations that are mapped stand at places of their own
  pub apart : Apart s.mappings 512
  apart = record {
    within = λ t i op e. place_few op (stands_live (nodes s) t op ((follows_in s).found t i op e).parent);
    apart = λ t u i j o p e f q.
        let a = (follows_in s).found t i o e in
        let b = (follows_in s).found u j p f in
        let same : o ≡ p = same_opptr o p (one_live (nodes s).operations.pool o.handle p.handle (stands_live (nodes s) t o a.parent) (stands_live (nodes s) u p b.parent) q) in
        (some_same (sym a.parent ∙ ap (parent_op (nodes s)) same ∙ b.parent), some_same (sym a.name ∙ ap (name_of (nodes s)) same ∙ b.name));
  }

  -- and none stands at the place of a live operation that stands nowhere
  pub spare : (op : OpPtr) → (op_links (nodes s)).live op ≡ true → (op_links (nodes s)).within op ≡ None → Spare s.mappings op.handle.place
  spare op l none = record {
    spare = λ t i o e q.
        let a = (follows_in s).found t i o e in
        let same : o ≡ op = same_opptr o op (one_live (nodes s).operations.pool o.handle op.handle (stands_live (nodes s) t o a.parent) l q) in
        part_none (block_parent (nodes s)) ((op_links (nodes s)).within op) t none (sym (ap (parent_op (nodes s)) same) ∙ a.parent);
  }

-- The mappings.

-- a name in a table is this one or another
pub this_name : (t u : OpPtr) (i j : ℕ) → ((u ≡ t) × (j ≡ i)) ⊎ (u ≡ t → j ≡ i → ⊥)
this_name t u i j =
    elim (op_same u t) [
      | inl e ↦ elim (cases_eq j i) [ inl f ↦ inl (e, f) | inr f ↦ inr (λ z. f) ]
      | inr e ↦ inr (λ z. absurd (e z))
    ]

module _ (m n : Model) (ops : SameOps m n) (blocks : block_links n ≡ block_links m) (owners : (r : RegionPtr) → owner n r ≡ owner m r) (f g : OpPtr → ℕ → Option OpPtr) (h : Follows m f)
    (t op : OpPtr) (i : ℕ) (table : is_table m t ≡ true) (name : name_of m op ≡ Some i) (others : (u : OpPtr) (j : ℕ) → (u ≡ t → j ≡ i → ⊥) → g u j ≡ f u j) where
  -- what stood in a body and is not the one that moves stands there, and the converse
  stays : (x : Option BlockPtr) → At (op_links m).within (op_links n).within op x → (u o : OpPtr) (j : ℕ) → (o ≡ op → ⊥) → Stands m u j o → Stands n u j o
  stays x moves u o j ne s = record { parent = same_parent m n ops blocks owners o (moves.other o ne) ∙ s.parent; table = same_table m n ops u ∙ s.table; name = same_name m n ops o ∙ s.name }

  stayed : (x : Option BlockPtr) → At (op_links m).within (op_links n).within op x → (u o : OpPtr) (j : ℕ) → (o ≡ op → ⊥) → Stands n u j o → Stands m u j o
  stayed x moves u o j ne s =
      record { parent = sym (same_parent m n ops blocks owners o (moves.other o ne)) ∙ s.parent; table = sym (same_table m n ops u) ∙ s.table; name = sym (same_name m n ops o) ∙ s.name }

  module _ (b : BlockPtr) (moves : At (op_links m).within (op_links n).within op (Some b)) (loose : (op_links m).within op ≡ None) (up : block_parent n b ≡ Some t)
      (unmapped : f t i ≡ None) (here : g t i ≡ Some op) where
    parent_now : parent_op n op ≡ Some t
    parent_now = ap (part (block_parent n)) moves.here ∙ up

    put_found : (u : OpPtr) (j : ℕ) (o : OpPtr) → g u j ≡ Some o → Stands n u j o
    put_found u j o e =
        elim (this_name t u i j) [
          | inl z ↦
              (let same : op ≡ o = some_same (sym here ∙ sym (ap (λ (v : OpPtr). g v i) z.0) ∙ sym (ap (g u) z.1) ∙ e) in
              record {
                parent = ap (parent_op n) (sym same) ∙ parent_now ∙ ap Some (sym z.0);
                table = same_table m n ops u ∙ ap (is_table m) z.0 ∙ table;
                name = ap (name_of n) (sym same) ∙ same_name m n ops op ∙ name ∙ ap Some (sym z.1);
              })
          | inr z ↦
              (let s = h.found u j o (sym (others u j z) ∙ e) in
              stays (Some b) moves u o j (λ q. part_none (block_parent m) ((op_links m).within op) u loose (sym (ap (parent_op m) q) ∙ s.parent)) s)
        ]

    put_kept : (u : OpPtr) (j : ℕ) (o : OpPtr) → Stands n u j o → g u j ≡ Some o
    put_kept u j o s =
        elim (op_same o op) [
          | inl q ↦
              (let tu : u ≡ t = some_same (sym s.parent ∙ ap (parent_op n) q ∙ parent_now) in
              let ji : j ≡ i = some_same (sym s.name ∙ ap (name_of n) q ∙ same_name m n ops op ∙ name) in
              ap (λ (v : OpPtr). g v j) tu ∙ ap (g t) ji ∙ here ∙ ap Some (sym q))
          | inr ne ↦
              (let e = h.kept u j o (stayed (Some b) moves u o j ne s) in
              others u j (λ tu ji. none_some (sym unmapped ∙ sym (ap (λ (v : OpPtr). f v i) tu) ∙ sym (ap (f u) ji) ∙ e)) ∙ e)
        ]

    -- the symbol that was put is mapped
    pub follows_put : Follows n g
    follows_put = record { found = put_found; kept = put_kept }

  module _ (moves : At (op_links m).within (op_links n).within op None) (stood : parent_op m op ≡ Some t) (gone : g t i ≡ None) where
    take_found : (u : OpPtr) (j : ℕ) (o : OpPtr) → g u j ≡ Some o → Stands n u j o
    take_found u j o e =
        elim (this_name t u i j) [
          | inl z ↦ absurd (none_some (sym gone ∙ sym (ap (λ (v : OpPtr). g v i) z.0) ∙ sym (ap (g u) z.1) ∙ e))
          | inr z ↦
              (let s = h.found u j o (sym (others u j z) ∙ e) in
              stays None moves u o j (λ q. z (some_same (sym s.parent ∙ ap (parent_op m) q ∙ stood)) (some_same (sym s.name ∙ ap (name_of m) q ∙ name))) s)
        ]

    take_kept : (u : OpPtr) (j : ℕ) (o : OpPtr) → Stands n u j o → g u j ≡ Some o
    take_kept u j o s =
        elim (op_same o op) [
          | inl q ↦ absurd (part_none (block_parent n) ((op_links n).within op) u moves.here (sym (ap (parent_op n) q) ∙ s.parent))
          | inr ne ↦
              (let e = h.kept u j o (stayed None moves u o j ne s) in
              let old = h.kept t i op (record { parent = stood; table = table; name = name }) in
              others u j (λ tu ji. ne (some_same (sym e ∙ ap (λ (v : OpPtr). f v j) tu ∙ ap (f t) ji ∙ old))) ∙ e)
        ]

    -- the symbol that was taken is mapped no more
    pub follows_taken : Follows n g
    follows_taken = record { found = take_found; kept = take_kept }

-- the body of a table stands in the table
pub body_parent : (m : Model) → ∥ Bodied m ∥₁ → ∥ Owned m ∥₁ → (t : OpPtr) → is_table m t ≡ true → (b : BlockPtr) → body_in m t ≡ Some b → block_parent m b ≡ Some t
body_parent m h own t i b e =
    ∥∥₁_elim h (op_set (block_parent m b) (Some t)) (λ x. ∥∥₁_elim own (op_set (block_parent m b) (Some t)) (λ o.
    let y = x.body t i in
    ap (block_parent m) (some_same (sym e ∙ body_is m t y)) ∙ ap (part (owner m)) y.blocks.run.0.within ∙ body_owner m o t y))
