-- What is known of a store out of its truncations, and what lookups read. Assumes nothing.
use Rattle.std.proofs.Common.{◌≡◌, ℕ, ◌<◌, true, false, is_some, Some, None, Option, Result, sym, refl, ap, ◌∙◌, subst, inl, inr, ⊎_elim, arith}
use mathlib.Core.Logic.{∥∥₁_elim}
use Rattle.std.proofs.Math.Bool.{Bool-set}
use Rattle.std.proofs.lemmas.Bool.{cases_eq}
use Rattle.std.specs.Option.{ok_or, option_map}
use Rattle.result.specs.declared.refusal.Refusal.{Refusal}
use Rattle.result.specs.declared.refusal.Refusal.TheVariants.{NotASymbol}
use Rattle.trees.specs.Climbs.{Acyclic}
use Rattle.trees.proofs.Climbing.{option_set}
use Rattle.records.specs.declared.handles.BlockPtr.{BlockPtr}
use Rattle.records.specs.declared.handles.OpPtr.{OpPtr}
use Rattle.records.specs.declared.handles.RegionPtr.{RegionPtr}
use Rattle.records.specs.declared.ir_node.IRNode.{IRNode}
use Rattle.records.specs.declared.ir_node.IRNode.TheVariants as node
use Rattle.records.specs.Models.{Model}
use Rattle.records.specs.Nodes.{is_table, owner, parent}
use Rattle.records.specs.Views.{block_links, op_links, part}
use Rattle.records.specs.Writes.{op_same}
use Rattle.forest.proofs.Above.{climbs, to_climb}
use Rattle.forest.proofs.Listed.{clash}
use Rattle.mappings.specs.Held.{mapped}
use Rattle.symbol_table.specs.declared.symbol_tables.SymbolTables.{SymbolTables}
use Rattle.symbol_table.specs.Bodies.{Follows, Named, Stands, block_parent, name_of, parent_op}
use Rattle.symbol_table.specs.Carried.{nodes}
use Rattle.symbol_table.specs.Inserting.{Redefined}
use Rattle.symbol_table.specs.Lookups.{LooksUp, Nearest, above, nowhere}
use Rattle.symbol_table.specs.Steps.{Wants}
use Rattle.symbol_table.proofs.Following.{none_some}

pub op_set : IsSet (Option OpPtr)
op_set = option_set op_same

number_set : IsSet (Option ℕ)
number_set = option_set cases_eq

-- out of the truncated ghost field
pub follows_of : (m : Model) (f : OpPtr → ℕ → Option OpPtr) → ∥ Follows m f ∥₁ → Follows m f
follows_of m f h = record {
  found = λ t n o e. record {
    parent = ∥∥₁_elim h (op_set (parent_op m o) (Some t)) (λ x. (x.found t n o e).parent);
    table = ∥∥₁_elim h (Bool-set (is_table m t) true) (λ x. (x.found t n o e).table);
    name = ∥∥₁_elim h (number_set (name_of m o) (Some n)) (λ x. (x.found t n o e).name);
  };
  kept = λ t n o s. ∥∥₁_elim h (op_set (f t n) (Some o)) (λ x. x.kept t n o s);
}

pub follows_in : (s : SymbolTables) → Follows (nodes s) (mapped s.mappings)
follows_in s = follows_of (nodes s) (mapped s.mappings) s.follows

pub some_same : {X : Type 0} {a b : X} → Some a ≡ Some b → a ≡ b
some_same e = cc

-- what is mapped is what stands in the body
pub looks_up : (m : Model) (f : OpPtr → ℕ → Option OpPtr) → Follows m f → (t : OpPtr) (n : ℕ) (r : Option OpPtr) → r ≡ f t n → LooksUp m t n r
looks_up m f h t n (Some o) e = record { stands = h.found t n o (sym e); alone = λ other s. some_same (sym (h.kept t n other s) ∙ sym e) }
looks_up m f h t n None e = λ o s. none_some (e ∙ h.kept t n o s)

-- the number of a symbol's name, from what is read
pub wants : (m : Model) → Named m → (t op : OpPtr) → (op_links m).live t ≡ true → (op_links m).live op ≡ true → is_table m t ≡ true
    → (r : Result ℕ Refusal) → r ≡ ok_or (name_of m op) NotASymbol → Wants m t op r
wants m h t op a b i r e = subst (Wants m t op) (sym e) (from (name_of m op) refl)
  where
    from : (x : Option ℕ) → name_of m op ≡ x → Wants m t op (ok_or x NotASymbol)
    from (Some k) q = record { held = a; alive = b; table = i; symbol = h.symbols op ∙ ap is_some q; named = q }
    from None q =
        inr (
          ⊎_elim (λ (d : (op_links m).live t ≡ false). clash (sym a ∙ d)) (λ (d : (op_links m).live op ≡ false). clash (sym b ∙ d)),
          inr ((λ d. clash (sym i ∙ d)), inl (refl, h.symbols op ∙ ap is_some q)),
        )

-- The climb to the nearest table.

-- an operation that may be there, as a node
abbrev pub op_node : Option OpPtr → Option IRNode
op_node x = option_map node.Operation x

module _ (m : Model) (a : Acyclic (parent m)) where
  -- from an operation to its parent operation there is less to climb
  pub climbs_up : (o : OpPtr) → to_climb m a (op_node (parent_op m o)) < to_climb m a (op_node (Some o))
  climbs_up o = from_op ((op_links m).within o) refl
    where
      from_region : (r : RegionPtr) → to_climb m a (op_node (owner m r)) < to_climb m a (Some (node.Region r))
      from_region r = climbs m a (node.Region r)

      from_block : (b : BlockPtr) (x : Option RegionPtr) → (block_links m).within b ≡ x → to_climb m a (op_node (part (owner m) x)) < to_climb m a (Some (node.BasicBlock b))
      from_block b None e = omega arith
      from_block b (Some r) e =
          let h = from_region r in
          let k : to_climb m a (Some (node.Region r)) < to_climb m a (Some (node.BasicBlock b))
          = subst (λ (x : Option RegionPtr). to_climb m a (option_map node.Region x) < to_climb m a (Some (node.BasicBlock b))) e (climbs m a (node.BasicBlock b)) in
          omega arith

      from_op : (x : Option BlockPtr) → (op_links m).within o ≡ x → to_climb m a (op_node (part (block_parent m) x)) < to_climb m a (Some (node.Operation o))
      from_op None e = omega arith
      from_op (Some b) e =
          let h = from_block b ((block_links m).within b) refl in
          let k : to_climb m a (Some (node.BasicBlock b)) < to_climb m a (Some (node.Operation o))
          = subst (λ (x : Option BlockPtr). to_climb m a (option_map node.BasicBlock x) < to_climb m a (Some (node.Operation o))) e (climbs m a (node.Operation o)) in
          omega arith

-- x is the nearest table from an operation that may be there, and none from none
abbrev pub Nearest? : Model → Option OpPtr → Option OpPtr → Type 0
Nearest? m None x = x ≡ None
Nearest? m (Some o) x = Nearest m o x

-- what is nearest to the parent operation of an operation that is no table is nearest to the operation
pub nearest_up : (m : Model) (o : OpPtr) (x up : Option OpPtr) → is_table m o ≡ false → parent_op m o ≡ up → Nearest? m up x → Nearest m o x
nearest_up m o x None i e n = nowhere i e n
nearest_up m o x (Some p) i e n = above p i e n

-- where a lookup finds none, no operation stands in the body under the name
pub not_redefined : (m : Model) (t op : OpPtr) (n : ℕ) (r : Option OpPtr) → LooksUp m t n r → is_some r ≡ false → name_of m op ≡ Some n → Redefined m t op → ⊥
not_redefined m t op n None l e q d = l d.other (subst (λ (k : ℕ). Stands m t k d.other) (some_same (sym d.named ∙ q)) d.stands)
not_redefined m t op n (Some o) l e q d = clash e
