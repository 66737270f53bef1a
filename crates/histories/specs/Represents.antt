-- When a store is as a ledger says.
use Rattle.std.specs.Prelude.{◌≡◌, ℕ, List, is_some}
use Rattle.std.specs.Option.{option_map}
use Rattle.arena.specs.Pools.{live}
use Rattle.linked_list.specs.Links.{Holds}
use Rattle.records.specs.declared.handles.BlockPtr.{BlockPtr}
use Rattle.records.specs.declared.handles.OpPtr.{OpPtr}
use Rattle.records.specs.declared.handles.RegionPtr.{RegionPtr}
use Rattle.records.specs.declared.operation.Operation.{Operation}
use Rattle.records.specs.Models.{operation_at}
use Rattle.records.specs.Views.{block_links, op_links}
use Rattle.ir.specs.declared.context.Context.{Context}
use Rattle.ir.specs.Stores.{name_of, names, nodes}
use Rattle.histories.specs.Ledgers.{Ledger, OpEntry, blocks_in, ops_in}

-- what is written down of an operation's record, where these names are held
abbrev pub entry : List (List ℕ) → Operation → OpEntry
entry held o = record { kind = o.kind; name = name_of held o; regions = o.regions }

-- The live nodes are those that are written down; operations have the kinds, the names and the regions that are written down of them;
-- and the links of the store describe the lists that are.
pub record Represents (s : Context) (l : Ledger) : Type 0 where
  pub operations : (op : OpPtr) → l.operation op ≡ option_map (entry (names s)) (operation_at (nodes s) op)
  pub blocks : (b : BlockPtr) → is_some (l.block b) ≡ live (nodes s).blocks.pool b.handle
  pub regions : (r : RegionPtr) → is_some (l.region r) ≡ live (nodes s).regions.pool r.handle
  pub ops_hold : Holds (op_links (nodes s)) (ops_in l)
  pub blocks_hold : Holds (block_links (nodes s)) (blocks_in l)
