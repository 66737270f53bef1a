-- The edge cases, one by one: of walks, of a table put into itself, and of names.
use Rattle.std.specs.Prelude.{◌≡◌, ℕ, List, [], ◌∷◌, length, Ok, Err, Option, Result, codes}
use Rattle.std.specs.List.{All}
use Rattle.result.specs.declared.refusal.Refusal.{Refusal}
use Rattle.result.specs.declared.refusal.Refusal.TheVariants.{MalformedIdentifier, NameTooLong, WouldContainItself}
use Rattle.orders.specs.declared.walk_result.WalkResult.{WalkResult}
use Rattle.orders.specs.declared.walk_result.WalkResult.TheVariants.{Advance, Skip, Break}
use Rattle.orders.specs.Logs.{AllAdvance, Shown, nodes as shown_nodes}
use Rattle.records.specs.declared.handles.BlockPtr.{BlockPtr}
use Rattle.records.specs.declared.handles.OpPtr.{OpPtr}
use Rattle.records.specs.declared.handles.RegionPtr.{RegionPtr}
use Rattle.records.specs.declared.ir_node.IRNode.{IRNode}
use Rattle.records.specs.declared.ir_node.IRNode.TheVariants.{Operation, BasicBlock, Region}
use Rattle.records.specs.declared.making.MadeOperation.{MadeOperation}
use Rattle.symbol_table.specs.declared.op_insertion_point.OpInsertionPoint.{OpInsertionPoint}
use Rattle.ir.specs.Calls.{MakeOperationCall}
use Rattle.ir.specs.Tables.{InsertSymbolCall}
use Rattle.ir.specs.declared.context.Context.{Context}
use Rattle.ir.specs.Stores.{nodes}
use Rattle.records.specs.Children.{Lists, children}
use Rattle.walkers.specs.Walks.{WalkedIn}
use Rattle.edges.specs.Built.{NestedBuilt, TwoBlocksBuilt}
use Rattle.edges.specs.Examples.{Nested, OnlyAt, TwoBlocks, all_first, operations_last}
use Rattle.edges.specs.Names.{Letter, PassingName, RefusedName}
use Rattle.edges.specs.NewTables.{InBody}

-- Each case holds in any store. A walk's log and last word are given, and of other calls the answer; B is what a visitor says when it
-- ends a walk.
pub record EdgeCases (B : Type 0) : Type 0 where
  -- Skip at a block leaves out what the block holds, and not the block after it.
  pub skip_at_a_block_keeps_the_next_block : (s : Context) (l : Lists (nodes s)) (r : RegionPtr) (b0 b1 : BlockPtr) (log : List (Shown IRNode B)) (say : WalkResult B)
      → TwoBlocks s l r b0 b1 → WalkedIn s all_first (Region r) log say → OnlyAt (BasicBlock b0) Skip log
      → (shown_nodes log ≡ Region r ∷ (BasicBlock b0 ∷ (BasicBlock b1 ∷ []))) × (say ≡ Advance)
  -- Where operations come after their regions and all else comes first, an operation without regions is shown between its
  -- neighbour and the operation that holds both.
  pub operations_come_after_their_regions : (s : Context) (l : Lists (nodes s)) (o0 o1 o2 : OpPtr) (r0 r1 : RegionPtr) (b0 b1 : BlockPtr) (log : List (Shown IRNode B)) (say : WalkResult B)
      → Nested s l o0 o1 o2 r0 r1 b0 b1 → WalkedIn s operations_last (Operation o0) log say → AllAdvance log
      → (shown_nodes log ≡ Region r0 ∷ (BasicBlock b0 ∷ (Region r1 ∷ (BasicBlock b1 ∷ (Operation o1 ∷ (Operation o2 ∷ (Operation o0 ∷ []))))))) × (say ≡ Advance)
  -- Break in a region of a region ends the whole walk: the operation after the inner region's is not shown.
  pub break_in_an_inner_region_ends_the_whole_walk : (s : Context) (l : Lists (nodes s)) (o0 o1 o2 : OpPtr) (r0 r1 : RegionPtr) (b0 b1 : BlockPtr) (log : List (Shown IRNode B)) (say : WalkResult B) (v : B)
      → Nested s l o0 o1 o2 r0 r1 b0 b1 → WalkedIn s all_first (Operation o0) log say → OnlyAt (BasicBlock b1) (Break v) log
      → (shown_nodes log ≡ Operation o0 ∷ (Region r0 ∷ (BasicBlock b0 ∷ (Operation o1 ∷ (Region r1 ∷ (BasicBlock b1 ∷ [])))))) × (say ≡ Break v)
  -- The trees of these walks stand where calls that are granted built them, whichever lists the links then describe; the first of the
  -- two blocks holds one operation.
  pub two_blocks_stand_where_built : (s u : Context) (r : RegionPtr) (b0 b1 : BlockPtr) (o5 : OpPtr) → TwoBlocksBuilt s u r b0 b1 o5 → (l : Lists (nodes u))
      → TwoBlocks u l r b0 b1 × (children (nodes u) l (BasicBlock b0) ≡ Operation o5 ∷ [])
  pub nested_stands_where_built : (s u : Context) (o0 o1 o2 : OpPtr) (r0 r1 : RegionPtr) (b0 b1 : BlockPtr) → NestedBuilt s u o0 o1 o2 r0 r1 b0 b1
      → (l : Lists (nodes u)) → Nested u l o0 o1 o2 r0 r1 b0 b1
  -- A new operation that is a table and a symbol (kind 3, with one region) is not put into its own body: not without a point, and at
  -- neither end. The store stays.
  pub a_new_table_is_not_put_into_itself : (s t u : Context) (name : List ℕ) (made : MadeOperation) (point : Option OpInsertionPoint) (r : Result (Unit {0}) Refusal)
      → MakeOperationCall s 3 1 name (Ok made) t → InBody made.body point → InsertSymbolCall t made.operation made.operation point r u
      → (r ≡ Err WouldContainItself) × (u ≡ t)
  -- A name may not begin with a digit.
  pub a_digit_first_is_malformed : RefusedName (codes "9a") MalformedIdentifier
  -- No bytes are no name.
  pub no_bytes_are_malformed : RefusedName [] MalformedIdentifier
  -- Any 32 letters are a name.
  pub thirty_two_letters_pass : (bytes : List ℕ) → length bytes ≡ 32 → All Letter bytes → PassingName bytes
  -- Any 33 bytes are too long, whether or not they are a name but for that.
  pub thirty_three_bytes_are_too_long : (bytes : List ℕ) → length bytes ≡ 33 → RefusedName bytes NameTooLong
