-- What the calls that read a store answer, in the ledger's words.
use Rattle.std.specs.Prelude.{◌≡◌, ℕ, Bool, List, [], ◌∷◌, ◌++◌, length, is_some, Decides, Some, None, Option, Result}
use Rattle.std.specs.Option.{option_map, option_to_list}
use Rattle.arena.specs.Pools.{live}
use Rattle.arena.specs.Shelves.{item}
use Rattle.linked_list.specs.declared.span.Span.{Span}
use Rattle.linked_list.specs.Links.{In, View, first_or, last_or}
use Rattle.records.specs.declared.handles.BlockPtr.{BlockPtr}
use Rattle.records.specs.declared.handles.OpPtr.{OpPtr}
use Rattle.records.specs.declared.handles.RegionPtr.{RegionPtr}
use Rattle.records.specs.declared.ir_node.IRNode.{IRNode}
use Rattle.records.specs.declared.kind.Kind.{Kind}
use Rattle.records.specs.Nodes.{parent}
use Rattle.identifier.specs.declared.identifier.Identifier.{Identifier}
use Rattle.identifier.specs.Identifiers.{text}
use Rattle.forest.specs.declared.forest.Forest.{Forest}
use Rattle.forest.specs.declared.iter.BlockIter.{BlockIter}
use Rattle.forest.specs.declared.iter.OpIter.{OpIter}
use Rattle.forest.specs.Iters.{Back, Front, Starts}
use Rattle.forest.specs.Iters.{blocks_in as block_links_of, ops_in as op_links_of}
use Rattle.result.specs.declared.refusal.Refusal.{Refusal}
use Rattle.result.specs.declared.refusal.Refusal.TheVariants.{Dangling}
use Rattle.result.specs.Rows.{Answered}
use Rattle.ir.specs.declared.context.Context.{Context}
use Rattle.ir.specs.Calls.{KindRead, NameRead, NumRegions, RegionRead}
use Rattle.ir.specs.Iterating.{IterBlocksCall, IterOpsCall}
use Rattle.ir.specs.Linkings.{BlockIsLinked, OpIsLinked}
use Rattle.ir.specs.Stores.{nodes}
use Rattle.histories.specs.Calls.{Standing}
use Rattle.histories.specs.Judging.{Judged}
use Rattle.histories.specs.Ledgers.{Ledger, blocks_in, children, kind_in, name_in, ops_in, regions_in}

-- An answer about an operation or a block that is refused exactly where that is not live.
abbrev pub OpTold : {X : Type 0} → Ledger → OpPtr → (X → Type 0) → Context → Result X Refusal → Type 0
OpTold l op told t r = Answered ((Dangling, l.operation op ≡ None) ∷ []) (λ x u. told x) t r t

abbrev pub BlockTold : {X : Type 0} → Ledger → BlockPtr → (X → Type 0) → Context → Result X Refusal → Type 0
BlockTold l block told t r = Answered ((Dangling, l.block block ≡ None) ∷ []) (λ x u. told x) t r t

-- The children of a container are gone through: that was begun, and stepped from either end, as these calls promise. So far front was given
-- from the front, the oldest first, and back from the back, the newest first.
pub data GoneThrough {N C : Type 0} (links : Forest → View N C) (f : Forest) (c : C) : Forest → Span N → List N → List N → Type 0 where
  begun : {g : Forest} {left : Span N} → Starts links f c g left → GoneThrough links f c g left [] []
  from_front : {g h : Forest} {left after : Span N} {front back : List N} (r : Option N) → GoneThrough links f c g left front back → Front links g left r h after
      → GoneThrough links f c h after (front ++ option_to_list r) back
  from_back : {g h : Forest} {left after : Span N} {front back : List N} (r : Option N) → GoneThrough links f c g left front back → Back links g left r h after
      → GoneThrough links f c h after front (option_to_list r ++ back)

-- What was given from the front, what is still to come, and what was given from the back are together the list; the next step from the
-- front gives the first that is still to come, and the next from the back the last, or none where all was given.
pub record StillToCome {N C : Type 0} (links : Forest → View N C) (list : List N) (g : Forest) (left : Span N) (front back : List N) : Type 0 where
  pub rest : List N
  pub together : front ++ (rest ++ back) ≡ list
  pub first : (r : Option N) (h : Forest) (after : Span N) → Front links g left r h after → r ≡ first_or rest None
  pub last : (r : Option N) (h : Forest) (after : Span N) → Back links g left r h after → r ≡ last_or rest None

-- The live nodes are those that are written down; a node stands in another exactly where it is among the children of that.
-- An operation's kind, its name and its regions are those written down; it is linked exactly where it stands among the operations of some
-- block; a block's operations are gone through as the list that is written down; and the same of blocks.
pub record Tells (t : Context) (l : Ledger) : Type 0 where
  pub op_lives : (op : OpPtr) → live (nodes t).operations.pool op.handle ≡ is_some (l.operation op)
  pub block_lives : (block : BlockPtr) → live (nodes t).blocks.pool block.handle ≡ is_some (l.block block)
  pub region_lives : (region : RegionPtr) → live (nodes t).regions.pool region.handle ≡ is_some (l.region region)
  pub parent : (n p : IRNode) → (parent (nodes t) n ≡ Some p → In n (children l p)) × (In n (children l p) → parent (nodes t) n ≡ Some p)
  pub kind : (op : OpPtr) (r : Result Kind Refusal) → KindRead t op r → OpTold l op (λ k. kind_in l op ≡ Some k) t r
  pub name : (op : OpPtr) (r : Result (Option Identifier) Refusal) → NameRead t op r → OpTold l op (λ x. name_in l op ≡ Some (option_map text x)) t r
  pub num_regions : (op : OpPtr) (r : Result ℕ Refusal) → NumRegions t op r → OpTold l op (λ n. n ≡ length (regions_in l op)) t r
  pub region : (op : OpPtr) (i : ℕ) (r : Result (Option RegionPtr) Refusal) → RegionRead t op i r → OpTold l op (λ x. x ≡ item (regions_in l op) i) t r
  pub op_linked : (op : OpPtr) (r : Result Bool Refusal) → OpIsLinked t op r → OpTold l op (λ b. Decides b (Standing (ops_in l) op)) t r
  pub block_linked : (block : BlockPtr) (r : Result Bool Refusal) → BlockIsLinked t block r → BlockTold l block (λ b. Decides b (Standing (blocks_in l) block)) t r
  pub ops_judged : (block : BlockPtr) (r : Result OpIter Refusal) → IterOpsCall t block r → Judged ((Dangling, l.block block ≡ None) ∷ []) r
  pub ops : (block : BlockPtr) (g : Forest) (left : Span OpPtr) (front back : List OpPtr) → GoneThrough op_links_of t.tables.forest block g left front back
      → StillToCome op_links_of (ops_in l block) g left front back
  pub blocks_judged : (region : RegionPtr) (r : Result BlockIter Refusal) → IterBlocksCall t region r → Judged ((Dangling, l.region region ≡ None) ∷ []) r
  pub blocks : (region : RegionPtr) (g : Forest) (left : Span BlockPtr) (front back : List BlockPtr) → GoneThrough block_links_of t.tables.forest region g left front back
      → StillToCome block_links_of (blocks_in l region) g left front back
