-- What stays where nodes end one after another: every other node. Assumes nothing.
use Rattle.std.proofs.Common.{◌≡◌, ℕ, Bool, true, false, List, [], ◌∷◌, ◌++◌, ◌⊎◌, Some, None, Option, sym, refl, ap, ◌∙◌, subst, inl, inr, arith}
use Rattle.std.specs.Option.{option_map}
use Rattle.arena.proofs.Shelving.{end_only, free_dead, free_live_other}
use Rattle.linked_list.specs.Links.{Apart, In}
use Rattle.records.specs.declared.handles.OpPtr.{OpPtr}
use Rattle.records.specs.declared.handles.RegionPtr.{RegionPtr}
use Rattle.records.specs.declared.ir_node.IRNode.{IRNode}
use Rattle.records.specs.declared.ir_node.IRNode.TheVariants as node
use Rattle.records.specs.declared.region.Region.{Region}
use Rattle.records.specs.Children.{is_live}
use Rattle.records.specs.Endings.{but_links, without, without_all}
use Rattle.records.specs.Models.{Model, operation_at, region_at}
use Rattle.records.specs.Nodes.{regions_of}
use Rattle.records.specs.Views.{endless_region, loose_op}
use Rattle.records.specs.Writes.{same_blockptr, same_opptr, same_regionptr}
use Rattle.records.proofs.Rests.{at_all, mapped_all}

pub clash : true ≡ false → ⊥
clash e = let z : ◌≡◌ {A = ℕ} 0 1 = cc in omega arith

pub no_some : {X : Type 0} (x : X) (o : Option X) → o ≡ None → o ≡ Some x → ⊥
no_some x o p q = let z : ◌≡◌ {A = ℕ} 0 1 = cc in omega arith

pub decide : (b : Bool) → (b ≡ true) ⊎ (b ≡ false)
decide true = inl refl
decide false = inr refl

-- where a region stands: its operation, and its place among its regions
abbrev pub stand : Region → OpPtr × ℕ
stand x = (x.parent_op, x.index)

-- the regions of an operation, and where a region stands, as the tables have them
abbrev pub regions_at : Model → OpPtr → Option (List RegionPtr)
regions_at m p = option_map regions_of (operation_at m p)

abbrev pub stands_at : Model → RegionPtr → Option (OpPtr × ℕ)
stands_at m r = option_map stand (region_at m r)

-- links say nothing of these
pub core_live : (m : Model) (x : IRNode) → is_live (but_links m) x ≡ is_live m x
core_live m (node.Operation p) = refl
core_live m (node.BasicBlock p) = refl
core_live m (node.Region p) = refl

pub core_regions : (m : Model) (p : OpPtr) → regions_at (but_links m) p ≡ regions_at m p
core_regions m p = ap (option_map regions_of) (at_all loose_op m.operations p.handle) ∙ mapped_all loose_op regions_of (λ o. refl) (operation_at m p)

pub core_stands : (m : Model) (r : RegionPtr) → stands_at (but_links m) r ≡ stands_at m r
core_stands m r = ap (option_map stand) (at_all endless_region m.regions r.handle) ∙ mapped_all endless_region stand (λ x. refl) (region_at m r)

-- One end.

pub ended_dead : (m : Model) (n : IRNode) → is_live m n ≡ true → is_live (without n m) n ≡ false
ended_dead m (node.Operation p) e = free_dead p.handle p.handle m.operations.pool e refl
ended_dead m (node.BasicBlock p) e = free_dead p.handle p.handle m.blocks.pool e refl
ended_dead m (node.Region p) e = free_dead p.handle p.handle m.regions.pool e refl

pub ended_live : (m : Model) (n x : IRNode) → is_live m n ≡ true → (x ≡ n → ⊥) → is_live (without n m) x ≡ is_live m x
ended_live m (node.Operation p) (node.Operation q) e ne = free_live_other p.handle q.handle m.operations.pool e (λ z. ne (ap node.Operation (same_opptr q p z)))
ended_live m (node.Operation p) (node.BasicBlock q) e ne = refl
ended_live m (node.Operation p) (node.Region q) e ne = refl
ended_live m (node.BasicBlock p) (node.Operation q) e ne = refl
ended_live m (node.BasicBlock p) (node.BasicBlock q) e ne = free_live_other p.handle q.handle m.blocks.pool e (λ z. ne (ap node.BasicBlock (same_blockptr q p z)))
ended_live m (node.BasicBlock p) (node.Region q) e ne = refl
ended_live m (node.Region p) (node.Operation q) e ne = refl
ended_live m (node.Region p) (node.BasicBlock q) e ne = refl
ended_live m (node.Region p) (node.Region q) e ne = free_live_other p.handle q.handle m.regions.pool e (λ z. ne (ap node.Region (same_regionptr q p z)))

ended_op : (m : Model) (n : IRNode) (q : OpPtr) → is_live m n ≡ true → (node.Operation q ≡ n → ⊥) → operation_at (without n m) q ≡ operation_at m q
ended_op m (node.Operation p) q e ne = (end_only m.operations p.handle e).others q.handle (λ z. ne (ap node.Operation (same_opptr q p z)))
ended_op m (node.BasicBlock p) q e ne = refl
ended_op m (node.Region p) q e ne = refl

ended_region : (m : Model) (n : IRNode) (q : RegionPtr) → is_live m n ≡ true → (node.Region q ≡ n → ⊥) → region_at (without n m) q ≡ region_at m q
ended_region m (node.Operation p) q e ne = refl
ended_region m (node.BasicBlock p) q e ne = refl
ended_region m (node.Region p) q e ne = (end_only m.regions p.handle e).others q.handle (λ z. ne (ap node.Region (same_regionptr q p z)))

-- Ends one after another.

abbrev pub AllLive : Model → List IRNode → Type 0
AllLive m ns = (x : IRNode) → In x ns → is_live m x ≡ true

still_live : (m : Model) (n : IRNode) (ns : List IRNode) → AllLive m (n ∷ ns) → (In n ns → ⊥) → AllLive (without n m) ns
still_live m n ns a out x i = ended_live m n x (a n (inl refl)) (λ z. out (subst (λ (y : IRNode). In y ns) z i)) ∙ a x (inr i)

pub others_live : (ns : List IRNode) (m : Model) → AllLive m ns → Apart ns → (x : IRNode) → (In x ns → ⊥) → is_live (without_all ns m) x ≡ is_live m x
unfolding without_all
others_live [] m a p x out = refl
others_live (n ∷ ns) m a p x out =
    others_live ns (without n m) (still_live m n ns a p.0) p.1 x (λ i. out (inr i)) ∙ ended_live m n x (a n (inl refl)) (λ z. out (inl z))

pub all_dead : (ns : List IRNode) (m : Model) → AllLive m ns → Apart ns → (x : IRNode) → In x ns → is_live (without_all ns m) x ≡ false
unfolding without_all
all_dead [] m a p x i = elim i [ ]
all_dead (n ∷ ns) m a p x (inl z) =
    ap (is_live (without_all ns (without n m))) z ∙ others_live ns (without n m) (still_live m n ns a p.0) p.1 n p.0 ∙ ended_dead m n (a n (inl refl))
all_dead (n ∷ ns) m a p x (inr i) = all_dead ns (without n m) (still_live m n ns a p.0) p.1 x i

pub others_op : (ns : List IRNode) (m : Model) → AllLive m ns → Apart ns → (q : OpPtr) → (In (node.Operation q) ns → ⊥) → operation_at (without_all ns m) q ≡ operation_at m q
unfolding without_all
others_op [] m a p q out = refl
others_op (n ∷ ns) m a p q out =
    others_op ns (without n m) (still_live m n ns a p.0) p.1 q (λ i. out (inr i)) ∙ ended_op m n q (a n (inl refl)) (λ z. out (inl z))

pub others_region : (ns : List IRNode) (m : Model) → AllLive m ns → Apart ns → (q : RegionPtr) → (In (node.Region q) ns → ⊥) → region_at (without_all ns m) q ≡ region_at m q
unfolding without_all
others_region [] m a p q out = refl
others_region (n ∷ ns) m a p q out =
    others_region ns (without n m) (still_live m n ns a p.0) p.1 q (λ i. out (inr i)) ∙ ended_region m n q (a n (inl refl)) (λ z. out (inl z))

pub without_join : (ns ks : List IRNode) (m : Model) → without_all (ns ++ ks) m ≡ without_all ks (without_all ns m)
unfolding without_all
without_join [] ks m = refl
without_join (n ∷ ns) ks m = without_join ns ks (without n m)

pub without_last : (ns : List IRNode) (n : IRNode) (m : Model) → without_all (ns ++ (n ∷ [])) m ≡ without n (without_all ns m)
unfolding without_all
without_last [] n m = refl
without_last (k ∷ ns) n m = without_last ns n (without k m)

-- links say nothing of an end
pub core_without : (n : IRNode) (m : Model) → but_links (without n m) ≡ without n (but_links m)
core_without (node.Operation p) m = refl
core_without (node.BasicBlock p) m = refl
core_without (node.Region p) m = refl

-- From one store to another from which some nodes ended, links aside.
pub record Fewer (s t : Model) (ends : List IRNode) : Type 0 where
  pub alive : AllLive s ends
  pub once : Apart ends
  pub places : but_links t ≡ without_all ends (but_links s)

module _ {s t : Model} {ends : List IRNode} (f : Fewer s t ends) where
  core_alive : AllLive (but_links s) ends
  core_alive x i = core_live s x ∙ f.alive x i

  pub outside_live : (x : IRNode) → (In x ends → ⊥) → is_live t x ≡ is_live s x
  outside_live x out =
      sym (core_live t x) ∙ ap (λ (m : Model). is_live m x) f.places ∙ others_live ends (but_links s) core_alive f.once x out ∙ core_live s x

  pub inside_dead : (x : IRNode) → In x ends → is_live t x ≡ false
  inside_dead x i = sym (core_live t x) ∙ ap (λ (m : Model). is_live m x) f.places ∙ all_dead ends (but_links s) core_alive f.once x i

  pub live_outside : (x : IRNode) → is_live t x ≡ true → In x ends → ⊥
  live_outside x e i = clash (sym e ∙ inside_dead x i)

  pub was_live : (x : IRNode) → is_live t x ≡ true → is_live s x ≡ true
  was_live x e = sym (outside_live x (live_outside x e)) ∙ e

  pub outside_regions : (p : OpPtr) → (In (node.Operation p) ends → ⊥) → regions_at t p ≡ regions_at s p
  outside_regions p out =
      sym (core_regions t p) ∙ ap (λ (m : Model). regions_at m p) f.places ∙ ap (option_map regions_of) (others_op ends (but_links s) core_alive f.once p out) ∙ core_regions s p

  pub outside_stands : (r : RegionPtr) → (In (node.Region r) ends → ⊥) → stands_at t r ≡ stands_at s r
  outside_stands r out =
      sym (core_stands t r) ∙ ap (λ (m : Model). stands_at m r) f.places ∙ ap (option_map stand) (others_region ends (but_links s) core_alive f.once r out) ∙ core_stands s r

  -- what is no link stays of every other operation and region
  pub outside_op : (p : OpPtr) → (In (node.Operation p) ends → ⊥) → option_map loose_op (operation_at t p) ≡ option_map loose_op (operation_at s p)
  outside_op p out =
      sym (at_all loose_op t.operations p.handle) ∙ ap (λ (m : Model). operation_at m p) f.places ∙ others_op ends (but_links s) core_alive f.once p out ∙ at_all loose_op s.operations p.handle

  pub outside_region : (r : RegionPtr) → (In (node.Region r) ends → ⊥) → option_map endless_region (region_at t r) ≡ option_map endless_region (region_at s r)
  outside_region r out =
      sym (at_all endless_region t.regions r.handle) ∙ ap (λ (m : Model). region_at m r) f.places ∙ others_region ends (but_links s) core_alive f.once r out ∙ at_all endless_region s.regions r.handle
