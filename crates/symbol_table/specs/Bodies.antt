-- Symbol tables among the nodes of a store: their bodies, and which operation stands in a body under which name.
use Rattle.std.specs.Prelude.{◌≡◌, ℕ, Bool, true, [], ◌∷◌, is_some, Some, Option}
use Rattle.std.specs.Option.{option_map}
use Rattle.arena.specs.Shelves.{item}
use Rattle.linked_list.specs.Links.{Chain}
use Rattle.records.specs.declared.handles.BlockPtr.{BlockPtr}
use Rattle.records.specs.declared.handles.OpPtr.{OpPtr}
use Rattle.records.specs.declared.handles.RegionPtr.{RegionPtr}
use Rattle.records.specs.declared.operation.Operation.{Operation}
use Rattle.records.specs.Models.{Model, operation_at}
use Rattle.records.specs.Nodes.{is, is_symbol, is_table, owner, regions_of}
use Rattle.records.specs.Views.{block_links, op_links, part}

-- the operation that a block stands in, and the parent operation of an operation: the one that its block stands in
abbrev pub block_parent : Model → BlockPtr → Option OpPtr
block_parent m b = part (owner m) ((block_links m).within b)

abbrev pub parent_op : Model → OpPtr → Option OpPtr
parent_op m op = part (block_parent m) ((op_links m).within op)

-- the number of an operation's name
abbrev pub name_of : Model → OpPtr → Option ℕ
name_of m op = part (λ (o : Operation). o.name) (operation_at m op)

-- whether an operation ends its block
abbrev pub is_terminator : Model → OpPtr → Bool
is_terminator m op = is (λ (o : Operation). o.kind.terminator) (operation_at m op)

-- the first region of an operation
abbrev pub first_region : Model → OpPtr → Option RegionPtr
first_region m op = part (λ (o : Operation). item (regions_of o) 0) (operation_at m op)

-- the body of a table: the first block of its first region
abbrev pub body_in : Model → OpPtr → Option BlockPtr
body_in m t = part (block_links m).head (first_region m t)

-- the operation has one region, and that one block
pub record Body (m : Model) (t : OpPtr) : Type 0 where
  pub region : RegionPtr
  pub block : BlockPtr
  pub regions : option_map regions_of (operation_at m t) ≡ Some (region ∷ [])
  pub blocks : Chain (block_links m) region (block ∷ [])

-- every table has one region, and that one block, the body
pub record Bodied (m : Model) : Type 0 where
  pub body : (t : OpPtr) → is_table m t ≡ true → Body m t

-- the symbols are the operations that have a name
pub record Named (m : Model) : Type 0 where
  pub symbols : (op : OpPtr) → is_symbol m op ≡ is_some (name_of m op)

-- the operation stands in the body of the table t under the name with the number n
pub record Stands (m : Model) (t : OpPtr) (n : ℕ) (op : OpPtr) : Type 0 where
  pub parent : parent_op m op ≡ Some t
  pub table : is_table m t ≡ true
  pub name : name_of m op ≡ Some n

-- Mappings follow the bodies: a table has an operation under a name exactly if the operation stands in its body under that name.
pub record Follows (m : Model) (mapped : OpPtr → ℕ → Option OpPtr) : Type 0 where
  pub found : (t : OpPtr) (n : ℕ) (op : OpPtr) → mapped t n ≡ Some op → Stands m t n op
  pub kept : (t : OpPtr) (n : ℕ) (op : OpPtr) → Stands m t n op → mapped t n ≡ Some op
