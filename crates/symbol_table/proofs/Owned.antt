-- The body of each table out of the truncation, and what stands in it. Assumes nothing.
use Rattle.std.proofs.Common.{◌≡◌, ℕ, zero, suc, true, List, [], ◌∷◌, Some, None, Option, sym, refl, ap, ◌∙◌, subst}
use mathlib.Core.HLevel.{⊥_prop}
use mathlib.Core.Logic.{∥∥₁_elim, ∥∥₁_map}
use Rattle.std.proofs.Math.Bool.{Bool-set}
use Rattle.std.specs.Option.{option_map}
use Rattle.linked_list.specs.Links.{Chain, In, Node}
use Rattle.trees.proofs.Climbing.{option_set}
use Rattle.arena.specs.Shelves.{item}
use Rattle.records.specs.declared.basic_block.BasicBlock.{BasicBlock}
use Rattle.records.specs.declared.handles.BlockPtr.{BlockPtr}
use Rattle.records.specs.declared.handles.OpPtr.{OpPtr}
use Rattle.records.specs.declared.handles.RegionPtr.{RegionPtr}
use Rattle.records.specs.declared.region.Region.{Region}
use Rattle.records.specs.Models.{Model, block_at, operation_at, region_at}
use Rattle.records.specs.Nodes.{is_table, owner, regions_of}
use Rattle.records.specs.Views.{block_links, op_links, part}
use Rattle.records.specs.Writes.{region_same}
use Rattle.forest.proofs.Owning.{named_live}
use Rattle.symbol_table.specs.declared.symbol_tables.SymbolTables.{SymbolTables}
use Rattle.symbol_table.specs.Bodies.{Body, Stands, block_parent}
use Rattle.symbol_table.specs.Carried.{nodes}
use Rattle.symbol_table.specs.Laws.{OneBody}
use Rattle.symbol_table.proofs.Findings.{follows_in, some_same}
use Rattle.symbol_table.proofs.Following.{none_some}
use Rattle.symbol_table.proofs.Growing.{part_some}
use Rattle.symbol_table.proofs.Ones.{one_list, only_that}
use Rattle.symbol_table.proofs.Putting.{body_parent}
use Rattle.symbol_table.proofs.Regioning.{body_held, mapped_some}
use Rattle.symbol_table.proofs.Spots.{block_set, body_is}

region_set : IsSet (Option RegionPtr)
region_set = option_set region_same

module _ (m : Model) (t : OpPtr) (b : ∥ Body m t ∥₁) where
  -- a region that is the first of them is the only one
  one_more : (r q : RegionPtr) (rs : List RegionPtr) → option_map regions_of (operation_at m t) ≡ Some (r ∷ (q ∷ rs)) → ⊥
  one_more r q rs e = ∥∥₁_elim b ⊥_prop (λ x. two (some_same (sym x.regions ∙ e)))
    where
      two : {y : RegionPtr} → y ∷ [] ≡ r ∷ (q ∷ rs) → ⊥
      two z = cc

  none_left : option_map regions_of (operation_at m t) ≡ Some [] → ⊥
  none_left e = ∥∥₁_elim b ⊥_prop (λ x. one (some_same (sym x.regions ∙ e)))
    where
      one : {y : RegionPtr} → y ∷ [] ≡ [] → ⊥
      one z = cc

  module _ (r : RegionPtr) (e : option_map regions_of (operation_at m t) ≡ Some (r ∷ [])) where
    same_region : (x : Body m t) → x.region ≡ r
    same_region x = head (some_same (sym x.regions ∙ e))
      where
        head : {y : RegionPtr} → y ∷ [] ≡ r ∷ [] → y ≡ r
        head z = cc

    module _ (k : BlockPtr) (f : (block_links m).head r ≡ Some k) where
      same_block : (x : Body m t) → x.block ≡ k
      same_block x = some_same (sym x.blocks.head ∙ ap (block_links m).head (same_region x) ∙ f)

      node_in : Node (block_links m) r None k None
      node_in = record {
        prev = ∥∥₁_elim b (block_set ((block_links m).prev k) None) (λ x. ap (block_links m).prev (sym (same_block x)) ∙ x.blocks.run.0.prev);
        next = ∥∥₁_elim b (block_set ((block_links m).next k) None) (λ x. ap (block_links m).next (sym (same_block x)) ∙ x.blocks.run.0.next);
        within = ∥∥₁_elim b (region_set ((block_links m).within k) (Some r)) (λ x. ap (block_links m).within (sym (same_block x)) ∙ x.blocks.run.0.within ∙ ap Some (same_region x));
        live = ∥∥₁_elim b (Bool-set ((block_links m).live k) true) (λ x. ap (block_links m).live (sym (same_block x)) ∙ x.blocks.run.0.live);
      }

      chain_in : Chain (block_links m) r (k ∷ [])
      chain_in = record {
        head = f;
        tail = ∥∥₁_elim b (block_set ((block_links m).tail r) (Some k)) (λ x. ap (block_links m).tail (sym (same_region x)) ∙ x.blocks.tail ∙ ap Some (same_block x));
        run = (node_in, tt);
        apart = ((λ z. z), tt);
      }

    with_head : (x : Option BlockPtr) → (block_links m).head r ≡ x → Body m t
    with_head None f = absurd (∥∥₁_elim b ⊥_prop (λ x. none_some (sym f ∙ ap (block_links m).head (sym (same_region x)) ∙ x.blocks.head)))
    with_head (Some k) f = record { region = r; block = k; regions = e; blocks = chain_in k f }

  with_regions : (rs : List RegionPtr) → option_map regions_of (operation_at m t) ≡ Some rs → Body m t
  with_regions [] e = absurd (none_left e)
  with_regions (r ∷ []) e = with_head r e ((block_links m).head r) refl
  with_regions (r ∷ (q ∷ rs)) e = absurd (one_more r q rs e)

  with_operation : (x : Option (List RegionPtr)) → option_map regions_of (operation_at m t) ≡ x → Body m t
  with_operation None e = absurd (∥∥₁_elim b ⊥_prop (λ x. none_some (sym e ∙ x.regions)))
  with_operation (Some rs) e = with_regions rs e

  -- the body of a table
  pub the_body : Body m t
  the_body = with_operation (option_map regions_of (operation_at m t)) refl

one_item : (a : RegionPtr) (j : ℕ) (r : RegionPtr) → item (a ∷ []) j ≡ Some r → r ≡ a
one_item a zero r e = some_same (sym e)
one_item a (suc j) r e = absurd (none_some e)

-- the body is the one block that stands in the table
only_block : (s : SymbolTables) (t : OpPtr) (b : Body (nodes s) t) (k : BlockPtr) → block_parent (nodes s) k ≡ Some t → k ≡ b.block
only_block s t b k e =
    let m = nodes s in
    let r = part_some (owner m) ((block_links m).within k) t e in
    let x = mapped_some (λ (y : Region). y.parent_op) (region_at m r.it) t r.part in
    some_same (∥∥₁_elim s.forest.owned (block_set (Some k) (Some b.block)) (λ own. ∥∥₁_elim s.forest.blocklists (block_set (Some k) (Some b.block)) (λ l.
    let h = own.has r.it x.0 x.1 in
    let regions : regions_of h.is_live ≡ b.region ∷ [] = some_same (sym (ap (option_map regions_of) (ap (operation_at m) (sym x.2) ∙ h.record_is)) ∙ b.regions) in
    let same : r.it ≡ b.region = one_item b.region x.0.index r.it (ap (λ (rs : List RegionPtr). item rs x.0.index) (sym regions) ∙ h.listed) in
    let record_of = part_some (λ (y : BasicBlock). y.container) (block_at m k) r.it r.is in
    let i = (l.1.listed k b.region (named_live m.blocks k.handle record_of.it record_of.is) (r.is ∙ ap Some same)).1 in
    ap Some (only_that b.block k (subst (In k) (one_list (block_links m) b.region b.block (l.0 b.region) b.blocks (l.1.chains b.region (body_held m t b))) i)))))

pub has_one_body : (s : SymbolTables) (t : OpPtr) → is_table (nodes s) t ≡ true → OneBody (nodes s) t
has_one_body s t i =
    let m = nodes s in
    let b = the_body m t (∥∥₁_map s.bodied (λ x. x.body t i)) in
    record {
      region = b.region;
      body = b.block;
      regions = b.regions;
      is_body = body_is m t b;
      alone = λ L h. one_list (block_links m) b.region b.block (L b.region) b.blocks (h.chains b.region (body_held m t b));
      child = λ n op x.
          let k = part_some (block_parent m) ((op_links m).within op) t x.parent in
          (k.is ∙ ap Some (only_block s t b k.it k.part), x.name);
      stands = λ n op e f. record {
        parent = ap (part (block_parent m)) e ∙ body_parent m s.bodied s.forest.owned t i b.block (body_is m t b);
        table = i;
        name = f;
      };
    }

pub one_of_a_name : (s : SymbolTables) (t : OpPtr) (n : ℕ) (op other : OpPtr) → Stands (nodes s) t n op → Stands (nodes s) t n other → op ≡ other
one_of_a_name s t n op other a b = some_same (sym ((follows_in s).kept t n op a) ∙ (follows_in s).kept t n other b)
