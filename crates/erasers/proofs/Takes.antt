-- A child is taken out of the list of its node. Assumes nothing.
use Rattle.std.proofs.Common.{◌≡◌, ◌+◌, ◌≤◌, Bool, true, cond, List, [], ◌∷◌, map, Some, None, sym, refl, ap, ◌∙◌, subst, inl, inr, arith}
use mathlib.Core.Bool.{Bool-set}
use mathlib.Core.Logic.{∥∥₁_elim}
use Rattle.arena.specs.Shelves.{item}
use Rattle.linked_list.specs.Links.{Chain, Holds, In, View, first_or}
use Rattle.linked_list.specs.Edits.{Removes}
use Rattle.linked_list.proofs.Lists.{none_some, some_same}
use Rattle.linked_list.proofs.Relist.{put, relist}
use Rattle.trees.proofs.Climbing.{option_set}
use Rattle.records.specs.declared.basic_block.BasicBlock.{BasicBlock}
use Rattle.records.specs.declared.handles.BlockPtr.{BlockPtr}
use Rattle.records.specs.declared.handles.OpPtr.{OpPtr}
use Rattle.records.specs.declared.handles.RegionPtr.{RegionPtr}
use Rattle.records.specs.declared.ir_node.IRNode.{IRNode}
use Rattle.records.specs.declared.ir_node.IRNode.TheVariants as node
use Rattle.records.specs.declared.operation.Operation.{Operation}
use Rattle.records.specs.Children.{Lists, children, is_live}
use Rattle.records.specs.Endings.{but_links, without_all}
use Rattle.records.specs.Models.{Model, operation_at}
use Rattle.records.specs.Nodes.{regions_of}
use Rattle.records.specs.Views.{block_links, but_block_links, but_op_links, endless_block, loose_block, loose_op, op_links}
use Rattle.records.specs.Writes.{block_same, op_same, region_same}
use Rattle.records.proofs.Rests.{block_edit_core, block_edit_links, op_edit_core, op_edit_links, same_pool, was}
use Rattle.erasers.specs.Erasings.{Closed, Loose, Open, in_lists}
use Rattle.erasers.proofs.Counts.{one_fewer, same_many}
use Rattle.erasers.proofs.Ends.{Fewer, no_some, outside_regions}
use Rattle.erasers.proofs.Spares.{belongs_kept, region_kept}

-- the lists k are the lists l, but at the node n
pub record But (n : IRNode) {s t : Model} (l : Lists s) (k : Lists t) : Type 0 where
  pub ops : (b : BlockPtr) → (node.BasicBlock b ≡ n → ⊥) → k.ops b ≡ l.ops b
  pub blocks : (r : RegionPtr) → (node.Region r ≡ n → ⊥) → k.blocks r ≡ l.blocks r

-- the lists after the child c of n was taken out
pub record Cut (t u : Model) (n c : IRNode) (l : Lists t) : Type 0 where
  pub lists : Lists u
  pub parts : children t l n ≡ c ∷ children u lists n
  pub but : But n l lists

-- u is t with the first child c of n taken out of its list
pub record Taken (t u : Model) (n c : IRNode) : Type 0 where
  pub alive : is_live t c ≡ true
  pub core : but_links u ≡ but_links t
  pub fewer : in_lists u + 1 ≤ in_lists t
  pub cut : (l : Lists t) → Cut t u n c l
  pub alone : (A : List OpPtr) → Loose u A c
  pub others : (A : List OpPtr) (x : IRNode) → Loose t A x → Loose u A x
  pub closed : (A : List OpPtr) → Open t A → Closed A c

-- nothing ended where only links changed
pub none_ended : (t u : Model) → but_links u ≡ but_links t → Fewer t u []
unfolding without_all
none_ended t u e = record { alive = λ x i. elim i [ ]; once = tt; places = e }

pub cut_open : (t u : Model) → but_links u ≡ but_links t → ((p : OpPtr) → (op_links t).within p ≡ None → (op_links u).within p ≡ None) → (A : List OpPtr) → Open t A → Open u A
cut_open t u e within A o = record {
  loose = λ p a. within p (o.loose p a);
  belongs = λ p x i r not is listed.
      let f = none_ended t u e in
      let old = was regions_of (operation_at t p) (operation_at u p) x (outside_regions f p (λ z. z)) is in
      belongs_kept f p i r (o.belongs p old.it i r not old.is (ap (λ (rs : List RegionPtr). item rs i) old.alike ∙ listed)) (λ z. z);
}

-- a list that begins with a node
begins : {N : Type 0} (ns : List N) (n : N) → first_or ns None ≡ Some n → (rest : List N) × (ns ≡ n ∷ rest)
begins [] n e = absurd (none_some e)
begins (k ∷ ns) n e = (ns, ap (λ (x : _). x ∷ ns) (some_same e))

module _ {N C : Type 0} (v : View N C) (L : C → List N) (h : Holds v L) (c : C) (held : v.held c ≡ true) where
  pub head_first : (n : N) → v.head c ≡ Some n → (rest : List N) × (L c ≡ n ∷ rest)
  head_first n e = begins (L c) n (sym (h.chains c held).head ∙ e)

  pub head_none : v.head c ≡ None → L c ≡ []
  head_none e = none_first (L c) (sym (h.chains c held).head ∙ e)
    where
      none_first : (ns : List N) → first_or ns None ≡ None → ns ≡ []
      none_first [] q = refl
      none_first (k ∷ ns) q = absurd (none_some (sym q))

  -- the first node of a list is live and stands in the container
  pub head_node : (n : N) → v.head c ≡ Some n → (v.live n ≡ true) × (v.within n ≡ Some c)
  head_node n e =
      let r = head_first n e in
      let run = (subst (λ (ns : List N). Chain v c ns) r.1 (h.chains c held)).run in
      (run.0.live, run.0.within)

open_loose : (t u : Model) (A : List OpPtr) (x : IRNode) → ((p : OpPtr) → (op_links t).within p ≡ None → (op_links u).within p ≡ None)
    → ((b : BlockPtr) → (block_links t).within b ≡ None → (block_links u).within b ≡ None) → but_links u ≡ but_links t → Loose t A x → Loose u A x
open_loose t u A (node.Operation p) f g e w = f p w
open_loose t u A (node.BasicBlock b) f g e w = g b w
open_loose t u A (node.Region r) f g e w =
    let y = region_kept (none_ended t u e) r w.0 w.1 (λ z. z) in
    (y.0, y.1, subst (λ (q : OpPtr). In q A) (sym y.2) w.2)

-- what is said at true
pub at_true : (b : Bool) (xs : List IRNode) → b ≡ true → cond b xs [] ≡ xs
at_true b xs e = ap (λ (z : Bool). cond z xs []) e

-- an operation out of a block
module _ (t u : Model) (b : BlockPtr) (op : OpPtr) (lists : ∥ Lists t ∥₁) (held : (op_links t).held b ≡ true) (head : (op_links t).head b ≡ Some op)
    (removes : (c : BlockPtr) → (op_links t).within op ≡ Some c → Removes (op_links t) (op_links u) op c) (rest : but_op_links u ≡ but_op_links t) where
  op_within : (op_links t).within op ≡ Some b
  op_within = ∥∥₁_elim lists (option_set block_same _ _) (λ l. (head_node (op_links t) l.ops l.ops_hold b held op head).1)

  removed : Removes (op_links t) (op_links u) op b
  removed = removes b op_within

  op_none : (p : OpPtr) → (op_links t).within p ≡ None → (op_links u).within p ≡ None
  op_none p e = elim (op_same p op) [ inl z ↦ ap (op_links u).within z ∙ removed.moves.here | inr ne ↦ removed.moves.other p ne ∙ e ]

  block_none : (c : BlockPtr) → (block_links t).within c ≡ None → (block_links u).within c ≡ None
  block_none c e = ap (λ (v : View BlockPtr RegionPtr). v.within c) (op_edit_links t u rest) ∙ e

  cut_op : (l : Lists t) → Cut t u (node.BasicBlock b) (node.Operation op) l
  cut_op l =
      let r = head_first (op_links t) l.ops l.ops_hold b held op head in
      let re = relist block_same l.ops b r.0 in
      let k : Lists u = record {
        ops = put block_same l.ops b r.0;
        blocks = l.blocks;
        ops_hold = removed.lists l.ops (put block_same l.ops b r.0) l.ops_hold ([], r.0, r.1, re.0) re.1;
        blocks_hold = subst (λ (v : View BlockPtr RegionPtr). Holds v l.blocks) (sym (op_edit_links t u rest)) l.blocks_hold;
      } in
      let now : (op_links u).held b ≡ true = ap (λ (f : BlockPtr → Bool). f b) removed.held ∙ held in
      record {
        lists = k;
        parts = at_true _ _ held ∙ ap (map node.Operation) (r.1 ∙ ap (λ (ns : List OpPtr). op ∷ ns) (sym re.0)) ∙ ap (λ (ns : List IRNode). node.Operation op ∷ ns) (sym (at_true _ _ now));
        but = record { ops = λ c ne. re.1 c (λ z. ne (ap node.BasicBlock z)); blocks = λ d ne. refl };
      }

  pub taken_op : Taken t u (node.BasicBlock b) (node.Operation op)
  taken_op =
      let alive = ∥∥₁_elim lists (Bool-set _ true) (λ l. (head_node (op_links t) l.ops l.ops_hold b held op head).0) in
      record {
        alive = alive;
        core = op_edit_core t u rest;
        fewer =
            let one = one_fewer (λ (o : Operation). o.container) t.operations u.operations op.handle b (same_pool loose_op t.operations u.operations (ap (λ (m : Model). m.operations) rest)) alive op_within removed.moves.here
            (λ k ne. removed.moves.other (record { handle = k }) (λ e. ne (ap (λ (p : OpPtr). p.handle) e))) in
            let same = same_many (λ (y : BasicBlock). y.container) t.blocks u.blocks (same_pool endless_block t.blocks u.blocks (ap (λ (m : Model). m.blocks) rest))
            (λ k. ap (λ (v : View BlockPtr RegionPtr). v.within (record { handle = k })) (op_edit_links t u rest)) in
            omega arith;
        cut = cut_op;
        alone = λ A. removed.moves.here;
        others = λ A x. open_loose t u A x op_none block_none (op_edit_core t u rest);
        closed = λ A o a. no_some b ((op_links t).within op) (o.loose op a) op_within;
      }

  pub taken_op_open : (A : List OpPtr) → Open t A → Open u A
  taken_op_open = cut_open t u (op_edit_core t u rest) op_none

-- a block out of a region
module _ (t u : Model) (r : RegionPtr) (b : BlockPtr) (lists : ∥ Lists t ∥₁) (held : (block_links t).held r ≡ true) (head : (block_links t).head r ≡ Some b)
    (removes : (c : RegionPtr) → (block_links t).within b ≡ Some c → Removes (block_links t) (block_links u) b c) (rest : but_block_links u ≡ but_block_links t) where
  block_within : (block_links t).within b ≡ Some r
  block_within = ∥∥₁_elim lists (option_set region_same _ _) (λ l. (head_node (block_links t) l.blocks l.blocks_hold r held b head).1)

  gone : Removes (block_links t) (block_links u) b r
  gone = removes r block_within

  no_block : (c : BlockPtr) → (block_links t).within c ≡ None → (block_links u).within c ≡ None
  no_block c e = elim (block_same c b) [ inl z ↦ ap (block_links u).within z ∙ gone.moves.here | inr ne ↦ gone.moves.other c ne ∙ e ]

  no_op : (p : OpPtr) → (op_links t).within p ≡ None → (op_links u).within p ≡ None
  no_op p e = ap (λ (v : View OpPtr BlockPtr). v.within p) (block_edit_links t u rest) ∙ e

  cut_block : (l : Lists t) → Cut t u (node.Region r) (node.BasicBlock b) l
  cut_block l =
      let f = head_first (block_links t) l.blocks l.blocks_hold r held b head in
      let re = relist region_same l.blocks r f.0 in
      let k : Lists u = record {
        ops = l.ops;
        blocks = put region_same l.blocks r f.0;
        ops_hold = subst (λ (v : View OpPtr BlockPtr). Holds v l.ops) (sym (block_edit_links t u rest)) l.ops_hold;
        blocks_hold = gone.lists l.blocks (put region_same l.blocks r f.0) l.blocks_hold ([], f.0, f.1, re.0) re.1;
      } in
      let now : (block_links u).held r ≡ true = ap (λ (g : RegionPtr → Bool). g r) gone.held ∙ held in
      record {
        lists = k;
        parts = at_true _ _ held ∙ ap (map node.BasicBlock) (f.1 ∙ ap (λ (ns : List BlockPtr). b ∷ ns) (sym re.0)) ∙ ap (λ (ns : List IRNode). node.BasicBlock b ∷ ns) (sym (at_true _ _ now));
        but = record { ops = λ c ne. refl; blocks = λ d ne. re.1 d (λ z. ne (ap node.Region z)) };
      }

  pub taken_block : Taken t u (node.Region r) (node.BasicBlock b)
  taken_block =
      let alive = ∥∥₁_elim lists (Bool-set _ true) (λ l. (head_node (block_links t) l.blocks l.blocks_hold r held b head).0) in
      record {
        alive = alive;
        core = block_edit_core t u rest;
        fewer =
            let one = one_fewer (λ (y : BasicBlock). y.container) t.blocks u.blocks b.handle r (same_pool loose_block t.blocks u.blocks (ap (λ (m : Model). m.blocks) rest)) alive block_within gone.moves.here
            (λ k ne. gone.moves.other (record { handle = k }) (λ e. ne (ap (λ (p : BlockPtr). p.handle) e))) in
            let same = same_many (λ (o : Operation). o.container) t.operations u.operations (ap (λ (m : Model). m.operations.pool) rest)
            (λ k. ap (λ (v : View OpPtr BlockPtr). v.within (record { handle = k })) (block_edit_links t u rest)) in
            omega arith;
        cut = cut_block;
        alone = λ A. gone.moves.here;
        others = λ A x. open_loose t u A x no_op no_block (block_edit_core t u rest);
        closed = λ A o. tt;
      }

  pub taken_block_open : (A : List OpPtr) → Open t A → Open u A
  taken_block_open = cut_open t u (block_edit_core t u rest) no_op
