-- Tables and names, in the store and in the ledger that it is as. Assumes nothing.
use Rattle.std.proofs.Common.{◌≡◌, ℕ, true, false, List, [], ◌∷◌, Some, None, Option, sym, refl, ap, ◌∙◌, subst, inl}
use Rattle.std.specs.Option.{option_map}
use Rattle.linked_list.specs.Links.{In}
use Rattle.linked_list.proofs.Lists.{none_some, some_same}
use Rattle.records.specs.declared.handles.BlockPtr.{BlockPtr}
use Rattle.records.specs.declared.handles.OpPtr.{OpPtr}
use Rattle.records.specs.declared.handles.RegionPtr.{RegionPtr}
use Rattle.records.specs.declared.operation.Operation.{Operation}
use Rattle.records.specs.Children.{regions_in as record_regions}
use Rattle.records.specs.Models.{operation_at}
use Rattle.records.specs.Nodes.{is_table, owner, regions_of}
use Rattle.records.specs.Views.{block_links, op_links, part}
use Rattle.forest.proofs.Listed.{clash}
use Rattle.symbol_table.specs.Bodies.{block_parent, parent_op}
use Rattle.symbol_table.specs.Laws.{OneBody}
use Rattle.symbol_table.specs.Lookups.{Nearest as Nearer, itself, above as up, nowhere}
use Rattle.symbol_table.proofs.Owned.{has_one_body}
use Rattle.ir.specs.declared.context.Context.{Context}
use Rattle.ir.specs.Stores.{name_of, names, nodes}
use Rattle.ir.specs.Tables.{Found, FoundIn, Stands}
use Rattle.ir.proofs.Tabling.{one_of_a_name}
use Rattle.histories.specs.Feeding.{BodyOf}
use Rattle.histories.specs.Law.{HasBody, NamesRight}
use Rattle.histories.specs.Ledgers.{Ledger, OpEntry, blocks_in, name_in}
use Rattle.histories.specs.Ledgers.{is_table as table_in}
use Rattle.histories.specs.Represents.{Represents, entry}
use Rattle.histories.specs.Tables.{Follows, FollowsNearest, IsNearest, Nearest, ParentOp, StandsAs, above, here}
use Rattle.histories.proofs.Nodes as the
use Rattle.histories.proofs.Nodes.{block_has_op, block_in_region, op_has_region, op_in_block, region_has_block, region_in_op}
use Rattle.histories.proofs.Standing as standing

-- a part of what may be there
pub part_some : {A B : Type 0} (f : A → Option B) (o : Option A) (y : B) → part f o ≡ Some y → (x : A) × (o ≡ Some x) × (f x ≡ Some y)
part_some f None y e = absurd (none_some e)
part_some f (Some x) y e = (x, refl, e)

pub part_mapped : {A B : Type 0} (f : A → Option B) (o : Option A) (y : B) → part f o ≡ Some y → option_map f o ≡ Some (Some y)
part_mapped f None y e = absurd (none_some e)
part_mapped f (Some x) y e = ap Some e

pub mapped_part : {A B : Type 0} (f : A → Option B) (o : Option A) (y : B) → option_map f o ≡ Some (Some y) → part f o ≡ Some y
mapped_part f None y e = absurd (none_some e)
mapped_part f (Some x) y e = some_same e

pub regions_some : (o : Option Operation) (xs : List RegionPtr) → option_map regions_of o ≡ Some xs → record_regions o ≡ xs
regions_some None xs e = absurd (none_some e)
regions_some (Some o) xs e = some_same e

one_same : {X : Type 0} {x y : X} → x ∷ [] ≡ y ∷ [] → x ≡ y
one_same e = cc

module _ (s : Context) (l : Ledger) (r : Represents s l) where
  -- Parent operations.

  pub to_parent : (op p : OpPtr) (b : BlockPtr) (x : RegionPtr) → (op_links (nodes s)).within op ≡ Some b → (block_links (nodes s)).within b ≡ Some x → owner (nodes s) x ≡ Some p → ParentOp l op p
  to_parent op p b x e f g =
      record { block = b; in_block = block_has_op s l r op b e; region = x; in_region = region_has_block s l r b x f; of_op = op_has_region s l r x p g }

  pub from_parent : (op p : OpPtr) (w : ParentOp l op p) → ((op_links (nodes s)).within op ≡ Some w.block) × ((block_links (nodes s)).within w.block ≡ Some w.region) × (owner (nodes s) w.region ≡ Some p)
  from_parent op p w = (op_in_block s l r op w.block w.in_block, block_in_region s l r w.block w.region w.in_region, region_in_op s l r w.region p w.of_op)

  pub one_parent : (op p q : OpPtr) → ParentOp l op p → ParentOp l op q → p ≡ q
  one_parent op p q v w =
      let a = from_parent op p v in
      let b = from_parent op q w in
      let same_block : v.block ≡ w.block = some_same (sym a.0 ∙ b.0) in
      let same_region : v.region ≡ w.region = some_same (sym a.1 ∙ ap (λ (z : BlockPtr). (block_links (nodes s)).within z) same_block ∙ b.1) in
      some_same (sym a.2 ∙ ap (owner (nodes s)) same_region ∙ b.2)

  -- there is one nearest table at most
  pub one_nearest : {op t u : OpPtr} → Nearest l op t → Nearest l op u → t ≡ u
  one_nearest (here e) (here f) = refl
  one_nearest (here e) (above q f w y) = absurd (clash (sym e ∙ f))
  one_nearest (above p e v x) (here f) = absurd (clash (sym f ∙ e))
  one_nearest {op} {t} {u} (above p e v x) (above q f w y) = one_nearest x (subst (λ (z : OpPtr). Nearest l z u) (sym (one_parent op p q v w)) y)

  pub to_parent_op : (op p : OpPtr) → parent_op (nodes s) op ≡ Some p → ParentOp l op p
  to_parent_op op p e =
      let b = part_some (block_parent (nodes s)) ((op_links (nodes s)).within op) p e in
      let x = part_some (owner (nodes s)) ((block_links (nodes s)).within b.0) p b.2 in
      to_parent op p b.0 x.0 b.1 x.1 x.2

  pub from_parent_op : (op p : OpPtr) → ParentOp l op p → parent_op (nodes s) op ≡ Some p
  from_parent_op op p w = let e = from_parent op p w in ap (part (block_parent (nodes s))) e.0 ∙ ap (part (owner (nodes s))) e.1 ∙ e.2

  -- what is nearest to an operation that is no table is nearest to its parent
  not_here : {op t : OpPtr} → table_in l op ≡ false → Nearest l op t → (p : OpPtr) × ParentOp l op p × Nearest l p t
  not_here e (here j) = absurd (clash (sym j ∙ e))
  not_here e (above q j v y) = (q, v, y)

  -- the nearest table
  near : {op : OpPtr} {x : Option OpPtr} → Nearer (nodes s) op x → IsNearest l op x
  near {op} (itself i e) t =
      ((λ q. subst (Nearest l op) (some_same (sym e ∙ q)) (here (the.table_is s l r op ∙ i))), (λ w. e ∙ ap (λ (z : OpPtr). Some z) (one_nearest (here (the.table_is s l r op ∙ i)) w)))
  near {op} (up p i e n) t = (
    (λ q. above p (the.table_is s l r op ∙ i) (to_parent_op op p e) ((near n t).0 q)),
    (λ w. let v = not_here (the.table_is s l r op ∙ i) w in (near n t).1 (subst (λ (z : OpPtr). Nearest l z t) (one_parent op v.0 p v.1 (to_parent_op op p e)) v.2)),
  )
  near {op} (nowhere i e f) t =
      ((λ q. absurd (none_some (sym f ∙ q))), (λ w. let v = not_here (the.table_is s l r op ∙ i) w in absurd (none_some (sym e ∙ from_parent_op op v.0 v.1))))

  -- Names.

  read_all : (o : Option Operation) → option_map (λ (x : OpEntry). x.name) (option_map (entry (names s)) o) ≡ option_map (name_of (names s)) o
  read_all None = refl
  read_all (Some o) = refl

  pub name_read : (op : OpPtr) → name_in l op ≡ option_map (name_of (names s)) (operation_at (nodes s) op)
  name_read op = ap (option_map (λ (x : OpEntry). x.name)) (r.operations op) ∙ read_all (operation_at (nodes s) op)

  -- the body of a table
  pub body_of : (table : OpPtr) (b : OneBody (nodes s) table) → BodyOf l table b.body
  body_of table b = record {
    region = b.region;
    only_region = the.regions_are s l r table ∙ regions_some (operation_at (nodes s) table) (b.region ∷ []) b.regions;
    only_block = b.alone (blocks_in l) r.blocks_hold;
  }

  pub one_body : (table : OpPtr) (x y : BlockPtr) → BodyOf l table x → BodyOf l table y → x ≡ y
  one_body table x y v w =
      let e : v.region ≡ w.region = one_same (sym v.only_region ∙ w.only_region) in
      one_same (sym v.only_block ∙ ap (blocks_in l) e ∙ w.only_block)

  pub to_stands : (table : OpPtr) (name : List ℕ) (op : OpPtr) → Stands s table name op → StandsAs l table name op
  to_stands table name op x =
      let b = has_one_body s.tables table x.table in
      record {
        is_one = the.table_is s l r table ∙ x.table;
        body = b.body;
        is_body = body_of table b;
        in_body = block_has_op s l r op b.body (x.child ∙ ap (λ (z : BlockPtr). Some z) (some_same (sym x.is_body ∙ b.is_body)));
        named = name_read op ∙ part_mapped (name_of (names s)) (operation_at (nodes s) op) name x.name;
      }

  pub from_stands : (table : OpPtr) (name : List ℕ) (op : OpPtr) → StandsAs l table name op → Stands s table name op
  from_stands table name op w =
      let table_is : is_table (nodes s) table ≡ true = sym (the.table_is s l r table) ∙ w.is_one in
      let b = has_one_body s.tables table table_is in
      record {
        table = table_is;
        body = b.body;
        is_body = b.is_body;
        child = op_in_block s l r op w.body w.in_body ∙ ap (λ (z : BlockPtr). Some z) (one_body table w.body b.body w.is_body (body_of table b));
        name = mapped_part (name_of (names s)) (operation_at (nodes s) op) name (sym (name_read op) ∙ w.named);
      }

  follows : (table : OpPtr) (name : List ℕ) (x : Option OpPtr) → Found s table name x → Follows l table name x
  follows table name (Some x) f op =
      ((λ e. to_stands table name op (subst (Stands s table name) (some_same e) f.stands)), (λ w. ap (λ (z : OpPtr). Some z) (sym (f.alone op (from_stands table name op w)))))
  follows table name None f op = ((λ e. absurd (none_some e)), (λ w. absurd (f op (from_stands table name op w))))

  follows_in : (op : OpPtr) (name : List ℕ) (x table : Option OpPtr) → Nearer (nodes s) op table → FoundIn s table name x → FollowsNearest l op name x
  follows_in op name x None n f y = ((λ q. absurd (none_some (sym f ∙ q))), (λ t v w. absurd (none_some ((near n t).1 v))))
  follows_in op name x (Some table) n f y = (
    (λ q. (table, (near n table).0 refl, (follows table name x f y).0 q)),
    (λ t v w. (follows table name x f y).1 (subst (λ (z : OpPtr). StandsAs l z name y) (sym (some_same ((near n t).1 v))) w)),
  )

  -- every table has its body
  bodied : (table : OpPtr) → table_in l table ≡ true → HasBody l table
  bodied table e =
      let b = has_one_body s.tables table (sym (the.table_is s l r table) ∙ e) in
      let is = body_of table b in
      let held = standing.in_live (block_links (nodes s)) l.region r.regions r.blocks_hold (the.loose_block s l r) b.body is.region (subst (In b.body) (sym is.only_block) (inl refl)) in
      let ops = standing.some_is (l.block b.body) (r.blocks b.body ∙ held) in
      record { body = b.body; is_body = is; ops = ops.0; lives = ops.1 }

  pub names_right : NamesRight s l
  names_right = record {
    found = λ table name x h. follows table name x h.1;
    nearest = λ op x h. near h.1;
    found_nearest = λ op name x h. follows_in op name x h.1.table h.1.nearest h.1.found;
    alone = λ table op other name v w. one_of_a_name s table name op other (from_stands table name op v) (from_stands table name other w);
    bodies = bodied;
  }
