-- A making as a whole, from its parts, and the tables' lengths. Assumes nothing.
use Rattle.std.proofs.Common.{◌≡◌, ℕ, zero, suc, ◌<◌, ◌≤◌, Bool, true, false, cond, List, length, Some, None, Option, sym, refl, ap, ◌∙◌, arith}
use Rattle.arena.specs.declared.arena.Arena.{Arena}
use Rattle.arena.specs.Pools.{room}
use Rattle.arena.specs.Recorded.{shelf, capacity}
use Rattle.arena.proofs.Filling.{long}
use Rattle.arena.proofs.Shelving.{take_long}
use Rattle.arena.specs.Shelves.{Shelf, entered}
use Rattle.records.specs.declared.basic_block.BasicBlock.{BasicBlock}
use Rattle.records.specs.declared.handles.BlockPtr.{BlockPtr}
use Rattle.records.specs.declared.handles.OpPtr.{OpPtr}
use Rattle.records.specs.declared.handles.RegionPtr.{RegionPtr}
use Rattle.records.specs.declared.kind.Kind.{Kind}
use Rattle.records.specs.declared.making.MadeOperation.{MadeOperation}
use Rattle.records.specs.declared.operation.Operation.{Operation}
use Rattle.records.specs.declared.region.Region.{Region}
use Rattle.records.specs.Makings.{body_of, new_block, new_operation, operation_made, region_ptrs, regions_made, with_body, with_operation, with_regions}
use Rattle.records.specs.Models.{Model, next_block, next_op, next_region}

-- Lengths.

pub regions_long : (op : OpPtr) (body : Option BlockPtr) (n : ℕ) (a : Shelf Region) → length (with_regions op body n a).pool.slots ≡ length a.pool.slots
unfolding with_regions
regions_long op body zero a = refl
regions_long op body (suc n) a = take_long (with_regions op body n a).pool ∙ regions_long op body n a

-- a table that became another one with as many places
pub as_long : {T : Type 0} (a b : Arena T) (c : Shelf T) → shelf b ≡ c → length c.pool.slots ≡ length (shelf a).pool.slots → capacity b ≡ capacity a
as_long a b c e l = long b ∙ ap (λ (d : Shelf _). length d.pool.slots) e ∙ l ∙ sym (long a)

pub body_long : {T : Type 0} (b : Bool) (a : Shelf T) (x : T) → length (cond b (entered x a) a).pool.slots ≡ length a.pool.slots
body_long true a x = take_long a.pool
body_long false a x = refl

-- The whole making, from what its parts answer.

three : {A B C E : Type 0} (f : A → B → C → E) {a a' : A} {b b' : B} {c c' : C} → a ≡ a' → b ≡ b' → c ≡ c' → f a b c ≡ f a' b' c'
three f p q r = cc

body_is : (b : Bool) (m : Model) → cond b (Some (next_block m)) None ≡ body_of b m
body_is true m = refl
body_is false m = refl

body_after : (b : Bool) (count : ℕ) (m : Model) (region : Option RegionPtr) → cond b count 1 ≡ 1 → count ≤ room m.regions.pool
    → (0 < room m.regions.pool → region ≡ Some (next_region m)) → cond b (entered (new_block region) m.blocks) m.blocks ≡ with_body b m
body_after true count m region one h f = ap (λ (o : Option RegionPtr). entered (new_block o) m.blocks) (f (omega arith))
body_after false count m region one h f = refl

-- what the parts of a making answered, and what they left
pub record Steps (m : Model) (kind : Kind) (name : Option ℕ) (count : ℕ) (r : MadeOperation) (n : Model) : Type 0 where
  pub one : cond kind.table count 1 ≡ 1
  pub roomy : count ≤ room m.regions.pool
  pub operation : r.operation ≡ next_op m
  pub region : Option RegionPtr
  pub is_next : 0 < room m.regions.pool → region ≡ Some (next_region m)
  pub body : r.body ≡ cond kind.table (Some (next_block m)) None
  pub blocks : n.blocks ≡ cond kind.table (entered (new_block region) m.blocks) m.blocks
  pub ptrs : r.regions ≡ region_ptrs r.operation r.body count m.regions
  pub regions : n.regions ≡ with_regions r.operation r.body count m.regions
  pub operations : n.operations ≡ entered (new_operation kind name r.regions) m.operations

module _ (m : Model) (kind : Kind) (name : Option ℕ) (count : ℕ) (r : MadeOperation) (n : Model) (s : Steps m kind name count r n) where
  has_body : r.body ≡ body_of kind.table m
  has_body = s.body ∙ body_is kind.table m

  all_ptrs : r.regions ≡ regions_made kind count m
  all_ptrs =
      s.ptrs
      ∙ ap (λ (o : OpPtr). region_ptrs o r.body count m.regions) s.operation
      ∙ ap (λ (b : Option BlockPtr). region_ptrs (next_op m) b count m.regions) has_body

  all_regions : n.regions ≡ (with_operation kind name count m).regions
  all_regions =
      s.regions
      ∙ ap (λ (o : OpPtr). with_regions o r.body count m.regions) s.operation
      ∙ ap (λ (b : Option BlockPtr). with_regions (next_op m) b count m.regions) has_body

  pub steps_answer : r ≡ operation_made kind count m
  steps_answer =
      three (λ (o : OpPtr) (ps : List RegionPtr) (b : Option BlockPtr). record { operation = o; regions = ps; body = b })
      s.operation all_ptrs has_body

  pub steps_after : n ≡ with_operation kind name count m
  steps_after =
      three (λ (a : Shelf Operation) (b : Shelf BasicBlock) (c : Shelf Region). record { operations = a; blocks = b; regions = c })
      (s.operations ∙ ap (λ (ps : List RegionPtr). entered (new_operation kind name ps) m.operations) all_ptrs)
      (s.blocks ∙ body_after kind.table count m s.region s.one s.roomy s.is_next)
      all_regions
