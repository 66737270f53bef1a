-- Where a symbol goes in a body lies in the body, and is live. Assumes nothing.
use Rattle.std.proofs.Common.{◌≡◌, Bool, true, false, cond, List, [], ◌∷◌, is_some, Some, None, Option, sym, refl, ap, ◌∙◌}
use mathlib.Core.Logic.{∥∥₁_elim}
use Rattle.std.proofs.Math.Bool.{Bool-set}
use Rattle.std.specs.Prelude.{IsSome}
use Rattle.arena.specs.Shelves.{item}
use Rattle.linked_list.specs.declared.spot.Spot.TheVariants.{AtBack, Before}
use Rattle.linked_list.specs.Edits.{spot_in, spot_live}
use Rattle.linked_list.specs.Links.{Holds, Sound}
use Rattle.linked_list.proofs.Lists.{last_of_in, run_live, run_within}
use Rattle.trees.proofs.Climbing.{option_set}
use Rattle.records.specs.declared.basic_block.BasicBlock.{BasicBlock}
use Rattle.records.specs.declared.handles.BlockPtr.{BlockPtr}
use Rattle.records.specs.declared.handles.OpPtr.{OpPtr}
use Rattle.records.specs.declared.handles.RegionPtr.{RegionPtr}
use Rattle.records.specs.declared.operation.Operation.{Operation}
use Rattle.records.specs.Models.{Model, block_at, operation_at}
use Rattle.records.specs.Nodes.{is_table, regions_of}
use Rattle.records.specs.Views.{block_links, op_links, part}
use Rattle.records.specs.Writes.{block_same}
use Rattle.forest.proofs.Owning.{named_live}
use Rattle.symbol_table.specs.Bodies.{Bodied, Body, body_in, first_region, is_terminator}
use Rattle.symbol_table.specs.Points.{end_before, end_spot}
use Rattle.symbol_table.specs.Steps.{Found}
use Rattle.symbol_table.proofs.Growing.{part_some}
use Rattle.symbol_table.proofs.Regioning.{mapped_some}

pub block_set : IsSet (Option BlockPtr)
block_set = option_set block_same

-- the last operation of a block stands in it, and is live
module _ (m : Model) (s : Sound (op_links m)) (b : BlockPtr) (last : OpPtr) (e : (op_links m).tail b ≡ Some last) where
  held : (op_links m).held b ≡ true
  held = let h = part_some (λ (x : BasicBlock). x.tail) (block_at m b) last e in named_live m.blocks b.handle h.it h.is

  last_in_list : (L : BlockPtr → List OpPtr) → Holds (op_links m) L → ((op_links m).within last ≡ Some b) × ((op_links m).live last ≡ true)
  last_in_list L h =
      let c = h.chains b held in
      let i = last_of_in (L b) last (sym c.tail ∙ e) in
      (run_within (op_links m) b None (L b) None c.run last i, run_live (op_links m) b None (L b) None c.run last i)

  last_within : (op_links m).within last ≡ Some b
  last_within = ∥∥₁_elim s (block_set ((op_links m).within last) (Some b)) (λ h. (last_in_list h.0 h.1).0)

  last_live : (op_links m).live last ≡ true
  last_live = ∥∥₁_elim s (Bool-set ((op_links m).live last) true) (λ h. (last_in_list h.0 h.1).1)

module _ (m : Model) (s : Sound (op_links m)) (b : BlockPtr) where
  either_in : (last : OpPtr) → (op_links m).tail b ≡ Some last → (x : Bool) → spot_in (op_links m) (cond x (Before last) (AtBack b)) ≡ Some b
  either_in last e true = last_within m s b last e
  either_in last e false = refl

  end_in : (x : Option OpPtr) → (op_links m).tail b ≡ x → spot_in (op_links m) (end_before m b x) ≡ Some b
  end_in None e = refl
  end_in (Some last) e = either_in last e (is_terminator m last)

  -- the end of a body lies in the body
  pub end_found : (t : OpPtr) → body_in m t ≡ Some b → Found m t None (end_spot m b)
  end_found t e = record { body = b; is_body = e; goes = refl; lies = end_in ((op_links m).tail b) refl; blocked = λ z. z; same = λ z. z }

  either_live : (op_links m).held b ≡ true → (last : OpPtr) → (op_links m).tail b ≡ Some last → (x : Bool) → spot_live (op_links m) (cond x (Before last) (AtBack b)) ≡ true
  either_live h last e true = last_live m s b last e
  either_live h last e false = h

  end_lives : (op_links m).held b ≡ true → (x : Option OpPtr) → (op_links m).tail b ≡ x → spot_live (op_links m) (end_before m b x) ≡ true
  end_lives h None e = h
  end_lives h (Some last) e = either_live h last e (is_terminator m last)

  pub end_live : (op_links m).held b ≡ true → spot_live (op_links m) (end_spot m b) ≡ true
  end_live h = end_lives h ((op_links m).tail b) refl

-- the body of a table is the block of its region
pub body_is : (m : Model) (t : OpPtr) (b : Body m t) → body_in m t ≡ Some b.block
body_is m t b =
    let o = mapped_some regions_of (operation_at m t) (b.region ∷ []) b.regions in
    let first : first_region m t ≡ Some b.region = ap (part (λ (x : Operation). item (regions_of x) 0)) o.1 ∙ ap (λ (rs : List RegionPtr). item rs 0) o.2 in
    ap (part (block_links m).head) first ∙ b.blocks.head

-- a table has a body
pub has_body : (m : Model) → ∥ Bodied m ∥₁ → (t : OpPtr) → is_table m t ≡ true → IsSome (body_in m t)
has_body m h t i = ∥∥₁_elim h (Bool-set (is_some (body_in m t)) true) (λ x. ap is_some (body_is m t (x.body t i)))
