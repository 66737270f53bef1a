-- Tables and names in the ledger's words.
use Rattle.std.specs.Prelude.{◌≡◌, ℕ, true, false, List, Some, Option}
use Rattle.linked_list.specs.Links.{In}
use Rattle.records.specs.declared.handles.BlockPtr.{BlockPtr}
use Rattle.records.specs.declared.handles.OpPtr.{OpPtr}
use Rattle.records.specs.declared.handles.RegionPtr.{RegionPtr}
use Rattle.histories.specs.Feeding.{BodyOf}
use Rattle.histories.specs.Ledgers.{Ledger, blocks_in, is_table, name_in, ops_in, regions_in}

-- The operation p has a region in one of whose blocks the operation op stands.
pub record ParentOp (l : Ledger) (op p : OpPtr) : Type 0 where
  pub block : BlockPtr
  pub in_block : In op (ops_in l block)
  pub region : RegionPtr
  pub in_region : In block (blocks_in l region)
  pub of_op : In region (regions_in l p)

-- The first table among an operation and its parent operations.
pub data Nearest (l : Ledger) : OpPtr → OpPtr → Type 0 where
  here : {op : OpPtr} → is_table l op ≡ true → Nearest l op op
  above : {op t : OpPtr} (p : OpPtr) → is_table l op ≡ false → ParentOp l op p → Nearest l p t → Nearest l op t

-- The table that is nearest to an operation, if any is.
abbrev pub IsNearest : Ledger → OpPtr → Option OpPtr → Type 0
IsNearest l op r = (t : OpPtr) → (r ≡ Some t → Nearest l op t) × (Nearest l op t → r ≡ Some t)

-- The operation stands in the body of the table under the name.
pub record StandsAs (l : Ledger) (table : OpPtr) (name : List ℕ) (op : OpPtr) : Type 0 where
  pub is_one : is_table l table ≡ true
  pub body : BlockPtr
  pub is_body : BodyOf l table body
  pub in_body : In op (ops_in l body)
  pub named : name_in l op ≡ Some (Some name)

-- What is found under a name is the operation that stands in the table's body under it, and none only where none does.
abbrev pub Follows : Ledger → OpPtr → List ℕ → Option OpPtr → Type 0
Follows l table name r = (op : OpPtr) → (r ≡ Some op → StandsAs l table name op) × (StandsAs l table name op → r ≡ Some op)

-- The same of the table that is nearest to an operation; nothing is found where no table is.
abbrev pub FollowsNearest : Ledger → OpPtr → List ℕ → Option OpPtr → Type 0
FollowsNearest l op name r = (x : OpPtr) → (r ≡ Some x → (t : OpPtr) × Nearest l op t × StandsAs l t name x) × ((t : OpPtr) → Nearest l op t → StandsAs l t name x → r ≡ Some x)

-- no body holds two operations of one name
abbrev pub Alone : Ledger → Type 0
Alone l = (table op other : OpPtr) (name : List ℕ) → StandsAs l table name op → StandsAs l table name other → op ≡ other
