-- What the iterators over children do.
use Rattle.std.specs.Prelude.{◌≡◌, false, List, [], ◌∷◌, Option}
use Rattle.result.specs.declared.refusal.Refusal.{Refusal}
use Rattle.result.specs.declared.refusal.Refusal.TheVariants.{Dangling}
use Rattle.linked_list.specs.declared.span.Span.{Span}
use Rattle.linked_list.specs.Links.{Holds, View}
use Rattle.linked_list.specs.Spans.{FromBack, FromFront, Spans}
use Rattle.records.specs.declared.handles.BlockPtr.{BlockPtr}
use Rattle.records.specs.declared.handles.OpPtr.{OpPtr}
use Rattle.records.specs.declared.handles.RegionPtr.{RegionPtr}
use Rattle.records.specs.Views.{block_links, op_links}
use Rattle.forest.specs.declared.forest.Forest.{Forest}
use Rattle.forest.specs.Forests.{model}

-- the handle names no live container
abbrev pub iter_rows : {N C : Type 0} → View N C → C → List (Refusal × Type 0)
iter_rows v c = (Dangling, v.held c ≡ false) ∷ []

-- what is left is the whole list of the container
abbrev pub Whole : {N C : Type 0} → View N C → C → Span N → Type 0
Whole {N} {C} v c left = (L : C → List N) → Holds v L → Spans v c (L c) left

-- an iterator over a store, with what it has left: at first all children of the container
pub record Starts {N C : Type 0} (links : Forest → View N C) (f : Forest) (c : C) (g : Forest) (left : Span N) : Type 0 where
  pub store : g ≡ f
  pub all : (L : C → List N) → Holds (links f) L → Spans (links f) c (L c) left

-- one step from the front: the store stays, and the first node that was left comes, or none
pub record Front {N C : Type 0} (links : Forest → View N C) (f : Forest) (left : Span N) (r : Option N) (g : Forest) (after : Span N) : Type 0 where
  pub store : g ≡ f
  pub steps : FromFront (links f) left (record { node = r; left = after })

-- one step from the back
pub record Back {N C : Type 0} (links : Forest → View N C) (f : Forest) (left : Span N) (r : Option N) (g : Forest) (after : Span N) : Type 0 where
  pub store : g ≡ f
  pub steps : FromBack (links f) left (record { node = r; left = after })

-- the links of a store
abbrev pub ops_in : Forest → View OpPtr BlockPtr
ops_in f = op_links (model f)

abbrev pub blocks_in : Forest → View BlockPtr RegionPtr
blocks_in f = block_links (model f)
