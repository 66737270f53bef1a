-- Erasing a node, with all that lies below it, keeps the store as the ledger says, and the ledger can take it down. Assumes nothing.
use Rattle.std.proofs.Common.{◌≡◌, ℕ, false, ◌⊎◌, List, [], ◌∷◌, is_some, Some, None, Option, sym, refl, ap, ◌∙◌, subst, inl, inr, ⊎_elim}
use Rattle.std.specs.Option.{option_map}
use Rattle.arena.specs.Pools.{live}
use Rattle.arena.proofs.Shelving.{at_dead}
use Rattle.linked_list.specs.Links.{Holds}
use Rattle.orders.specs.Order.{done, keep, drop}
use Rattle.trees.specs.Climbs.{Within}
use Rattle.records.specs.declared.handles.BlockPtr.{BlockPtr}
use Rattle.records.specs.declared.handles.OpPtr.{OpPtr}
use Rattle.records.specs.declared.handles.RegionPtr.{RegionPtr}
use Rattle.records.specs.declared.ir_node.IRNode.{IRNode}
use Rattle.records.specs.declared.ir_node.IRNode.TheVariants as node
use Rattle.records.specs.declared.operation.Operation.{Operation}
use Rattle.records.specs.Models.{operation_at}
use Rattle.records.specs.Nodes.{parent}
use Rattle.records.specs.Views.{block_links, loose_op, op_links}
use Rattle.forest.proofs.Above.{node_same}
use Rattle.ir.specs.declared.context.Context.{Context}
use Rattle.ir.specs.Stores.{names, nodes}
use Rattle.records.specs.Children.{is_live}
use Rattle.histories.specs.Feeding.{Ending, Erased, Without}
use Rattle.histories.specs.Ledgers.{Below, Ledger, blocks_in, children, listed, ops_in}
use Rattle.histories.specs.Represents.{Represents, entry}
use Rattle.histories.proofs.Deciding.{below_or_not}
use Rattle.histories.proofs.Nodes.{below_within, within_below}

-- What a call leaves that erases the node n: the node and all within it are dead, every other node is live if it was, its record stays
-- but for links, and the lists are those that were there without n.
pub record Erases (s : Context) (n : IRNode) (t : Context) : Type 0 where
  pub held : names t ≡ names s
  pub ends : (x : IRNode) → Within (parent (nodes s)) n x → is_live (nodes t) x ≡ false
  pub stays : (x : IRNode) → (Within (parent (nodes s)) n x → ⊥) → is_live (nodes t) x ≡ is_live (nodes s) x
  pub ops : (op : OpPtr) → (Within (parent (nodes s)) n (node.Operation op) → ⊥) → option_map loose_op (operation_at (nodes t) op) ≡ option_map loose_op (operation_at (nodes s) op)
  pub op_lists : (L M : BlockPtr → List OpPtr) → Holds (op_links (nodes s)) L
      → ((b : BlockPtr) → (Within (parent (nodes s)) n (node.BasicBlock b) → ⊥) → Without node.Operation n (L b) (M b)) → Holds (op_links (nodes t)) M
  pub block_lists : (L M : RegionPtr → List BlockPtr) → Holds (block_links (nodes s)) L
      → ((r : RegionPtr) → (Within (parent (nodes s)) n (node.Region r) → ⊥) → Without node.BasicBlock n (L r) (M r)) → Holds (block_links (nodes t)) M

entry_loose : (held : List (List ℕ)) (o : Option Operation) → option_map (entry held) (option_map loose_op o) ≡ option_map (entry held) o
entry_loose held None = refl
entry_loose held (Some o) = refl

-- what is written of a handle that does not end
module _ {A X : Type 0} (ofkind : A → IRNode) (within : X → X → Type 0) (l : Ledger) (n : IRNode) (f g : A → Option X) (e : Ending ofkind within l n f g) (a : A) (out : Below (children l) n (ofkind a) → ⊥) where
  left_some : (o : Option X) → f a ≡ o → is_some (g a) ≡ is_some (f a)
  left_some None q = ap is_some (e.gone a q) ∙ sym (ap is_some q)
  left_some (Some x) q = ap is_some (e.stays a x out q).1 ∙ sym (ap is_some q)

  left_same : ((x y : X) → within x y → y ≡ x) → (o : Option X) → f a ≡ o → g a ≡ f a
  left_same same None q = e.gone a q ∙ sym q
  left_same same (Some x) q = let w = e.stays a x out q in w.1 ∙ ap (λ (z : X). Some z) (same x w.0 w.2) ∙ sym q

left_list : {A N : Type 0} (ofkind : A → IRNode) (inner : N → IRNode) (l : Ledger) (n : IRNode) (f g : A → Option (List N)) (e : Ending ofkind (Without inner n) l n f g) (a : A) (out : Below (children l) n (ofkind a) → ⊥)
    → (o : Option (List N)) → f a ≡ o → Without inner n (listed (f a)) (listed (g a))
left_list ofkind inner l n f g e a out None q =
    subst (λ (z : Option (List _)). Without inner n (listed z) (listed (g a))) (sym q)
    (subst (λ (z : Option (List _)). Without inner n [] (listed z)) (sym (e.gone a q)) done)
left_list ofkind inner l n f g e a out (Some xs) q =
    let w = e.stays a xs out q in
    subst (λ (z : Option (List _)). Without inner n (listed z) (listed (g a))) (sym q)
    (subst (λ (z : Option (List _)). Without inner n xs (listed z)) (sym w.1) w.2)

module _ (s t : Context) (l m : Ledger) (r : Represents s l) (n : IRNode) (d : Erases s n t) (w : Erased l n m) where
  outside : (x : IRNode) → (Below (children l) n x → ⊥) → Within (parent (nodes s)) n x → ⊥
  outside x out i = out (within_below s l r i)

  outer : (x : IRNode) → (Within (parent (nodes s)) n x → ⊥) → Below (children l) n x → ⊥
  outer x out i = out (below_within s l r i)

  operations : (op : OpPtr) → m.operation op ≡ option_map (entry (names t)) (operation_at (nodes t) op)
  operations op =
      ⊎_elim
      (λ (b : Below (children l) n (node.Operation op)).
      w.operations.ends op b ∙ sym (ap (option_map (entry (names t))) (at_dead (nodes t).operations op.handle (d.ends (node.Operation op) (below_within s l r b)))))
      (λ (out : Below (children l) n (node.Operation op) → ⊥).
      left_same node.Operation (λ x y. y ≡ x) l n l.operation m.operation w.operations op out (λ x y e. e) (l.operation op) refl
      ∙ r.operations op
      ∙ ap (λ (h : List (List ℕ)). option_map (entry h) (operation_at (nodes s) op)) (sym d.held)
      ∙ sym (sym (entry_loose (names t) (operation_at (nodes t) op)) ∙ ap (option_map (entry (names t))) (d.ops op (outside (node.Operation op) out)) ∙ entry_loose (names t) (operation_at (nodes s) op)))
      (below_or_not s l r n (node.Operation op))

  blocks : (b : BlockPtr) → is_some (m.block b) ≡ live (nodes t).blocks.pool b.handle
  blocks b =
      ⊎_elim
      (λ (i : Below (children l) n (node.BasicBlock b)). ap is_some (w.blocks.ends b i) ∙ sym (d.ends (node.BasicBlock b) (below_within s l r i)))
      (λ (out : Below (children l) n (node.BasicBlock b) → ⊥).
      left_some node.BasicBlock (Without node.Operation n) l n l.block m.block w.blocks b out (l.block b) refl ∙ r.blocks b ∙ sym (d.stays (node.BasicBlock b) (outside (node.BasicBlock b) out)))
      (below_or_not s l r n (node.BasicBlock b))

  regions : (x : RegionPtr) → is_some (m.region x) ≡ live (nodes t).regions.pool x.handle
  regions x =
      ⊎_elim
      (λ (i : Below (children l) n (node.Region x)). ap is_some (w.regions.ends x i) ∙ sym (d.ends (node.Region x) (below_within s l r i)))
      (λ (out : Below (children l) n (node.Region x) → ⊥).
      left_some node.Region (Without node.BasicBlock n) l n l.region m.region w.regions x out (l.region x) refl ∙ r.regions x ∙ sym (d.stays (node.Region x) (outside (node.Region x) out)))
      (below_or_not s l r n (node.Region x))

  pub represents : Represents t m
  represents = record {
    operations = operations;
    blocks = blocks;
    regions = regions;
    ops_hold = d.op_lists (ops_in l) (ops_in m) r.ops_hold
        (λ b out. left_list node.BasicBlock node.Operation l n l.block m.block w.blocks b (outer (node.BasicBlock b) out) (l.block b) refl);
    blocks_hold = d.block_lists (blocks_in l) (blocks_in m) r.blocks_hold
        (λ x out. left_list node.Region node.BasicBlock l n l.region m.region w.regions x (outer (node.Region x) out) (l.region x) refl);
  }

-- What is written when a node is erased.

-- a list without a node
less_some : {N : Type 0} (inner : N → IRNode) (n : IRNode) (xs : List N) → (ys : List N) × Without inner n xs ys
less_some inner n [] = ([], done)
less_some inner n (x ∷ xs) =
    let w = less_some inner n xs in
    ⊎_elim (λ (e : inner x ≡ n). (w.0, drop (λ ne. ne e) w.1)) (λ (ne : inner x ≡ n → ⊥). (x ∷ w.0, keep ne w.1)) (node_same (inner x) n)

module _ {A X : Type 0} (ofkind : A → IRNode) (within : X → X → Type 0) (l : Ledger) (n : IRNode) (f : A → Option X) (some : (x : X) → (y : X) × within x y)
    (decide : (x : IRNode) → Below (children l) n x ⊎ (Below (children l) n x → ⊥)) where
  after : Option X → Option X
  after None = None
  after (Some x) = Some (some x).0

  picked : (a : A) → Below (children l) n (ofkind a) ⊎ (Below (children l) n (ofkind a) → ⊥) → Option X
  picked a (inl b) = None
  picked a (inr out) = after (f a)

  picked_end : (a : A) (d : Below (children l) n (ofkind a) ⊎ (Below (children l) n (ofkind a) → ⊥)) → Below (children l) n (ofkind a) → picked a d ≡ None
  unfolding picked
  picked_end a (inl b) i = refl
  picked_end a (inr out) i = absurd (out i)

  picked_none : (a : A) (d : Below (children l) n (ofkind a) ⊎ (Below (children l) n (ofkind a) → ⊥)) → f a ≡ None → picked a d ≡ None
  unfolding picked after
  picked_none a (inl b) e = refl
  picked_none a (inr out) e = ap after e

  picked_some : (a : A) (d : Below (children l) n (ofkind a) ⊎ (Below (children l) n (ofkind a) → ⊥)) (x : X) → (Below (children l) n (ofkind a) → ⊥) → f a ≡ Some x → picked a d ≡ Some (some x).0
  unfolding picked after
  picked_some a (inl b) x out e = absurd (out b)
  picked_some a (inr o) x out e = ap after e

  ending_some : (g : A → Option X) × Ending ofkind within l n f g
  ending_some = (
    (λ a. picked a (decide (ofkind a))),
    record {
      ends = λ a b. picked_end a (decide (ofkind a)) b;
      gone = λ a e. picked_none a (decide (ofkind a)) e;
      stays = λ a x out e. ((some x).0, picked_some a (decide (ofkind a)) x out e, (some x).1);
    },
  )

-- the ledger can take down an erasing
pub erased_some : (s : Context) (l : Ledger) → Represents s l → (n : IRNode) → (m : Ledger) × Erased l n m
erased_some s l r n =
    let decide = below_or_not s l r n in
    let ops = ending_some node.Operation (λ x y. y ≡ x) l n l.operation (λ x. (x, refl)) decide in
    let blocks = ending_some node.BasicBlock (Without node.Operation n) l n l.block (less_some node.Operation n) decide in
    let regions = ending_some node.Region (Without node.BasicBlock n) l n l.region (less_some node.BasicBlock n) decide in
    (record { operation = ops.0; block = blocks.0; region = regions.0 }, record { operations = ops.1; blocks = blocks.1; regions = regions.1 })
