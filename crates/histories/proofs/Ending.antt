-- What the calls that erase leave is what the ledger takes down of an erasing. Assumes nothing.
use Rattle.std.proofs.Common.{◌≡◌, ℕ, true, false, ◌⊎◌, List, [], ◌∷◌, ◌++◌, Some, None, Option, sym, refl, ap, ◌∙◌, subst, inl, inr, ⊎_elim, arith}
use Rattle.std.specs.Option.{option_map}
use Rattle.linked_list.specs.Links.{Apart, Holds, In, View}
use Rattle.linked_list.proofs.Lists.{in_right, none_some, run_within, some_same}
use Rattle.orders.specs.Order.{done, keep, drop}
use Rattle.trees.specs.Climbs.{Within}
use Rattle.records.specs.declared.handles.BlockPtr.{BlockPtr}
use Rattle.records.specs.declared.handles.OpPtr.{OpPtr}
use Rattle.records.specs.declared.ir_node.IRNode.{IRNode}
use Rattle.records.specs.declared.ir_node.IRNode.TheVariants as node
use Rattle.records.specs.Children.{is_live}
use Rattle.records.specs.Models.{operation_at}
use Rattle.records.specs.Nodes.{parent}
use Rattle.records.specs.Views.{block_links, loose_op, op_links}
use Rattle.records.specs.Writes.{block_same, region_same}
use Rattle.erasers.proofs.Ends.{outside_op}
use Rattle.forest.specs.Erasings.{Ended, TakenOut}
use Rattle.forest.proofs.Listed.{clash}
use Rattle.forest.proofs.Subtrees.{fewer_ended, less_away, less_of}
use Rattle.std.proofs.lemmas.Bool.{true_from_ne_false}
use Rattle.ir.specs.declared.context.Context.{Context}
use Rattle.ir.specs.Erasings.{BlockEnded, OpEnded}
use Rattle.ir.specs.Stores.{nodes}
use Rattle.histories.specs.Feeding.{Without}
use Rattle.histories.specs.Ledgers.{Ledger, blocks_in, ops_in}
use Rattle.histories.specs.Represents.{Represents}
use Rattle.histories.proofs.Erases.{Erases}
use Rattle.histories.proofs.Held.{holds_same}
use Rattle.histories.proofs.Nodes as the

-- a list is the same without what it does not have
pub less_same : {N : Type 0} (inner : N → IRNode) (n : IRNode) {xs ys : List N} → ((x : N) → In x xs → inner x ≡ n → ⊥) → Without inner n xs ys → ys ≡ xs
less_same inner n out done = refl
less_same inner n out (keep {x} ne w) = ap (λ (zs : List _). x ∷ zs) (less_same inner n (λ y i. out y (inr i)) w)
less_same inner n out (drop {x} hid w) = absurd (hid (out x (inl refl)))

-- a list without the one node n
less_one : {N : Type 0} (inner : N → IRNode) (n : N) → ((x : N) → inner x ≡ inner n → x ≡ n) → (xs ys : List N) {zs : List N} → Apart (xs ++ n ∷ ys) → Without inner (inner n) (xs ++ n ∷ ys) zs → zs ≡ xs ++ ys
less_one inner n inj [] ys a (keep ne w) = absurd (ne refl)
less_one inner n inj [] ys a (drop hid w) = less_same inner (inner n) (λ x i e. a.0 (subst (λ z. In z ys) (inj x e) i)) w
less_one inner n inj (x ∷ xs) ys a (keep ne w) = ap (λ (z : List _). x ∷ z) (less_one inner n inj xs ys a.1 w)
less_one inner n inj (x ∷ xs) ys a (drop hid w) =
    absurd (hid (λ e. a.0 (subst (λ z. In z (xs ++ n ∷ ys)) (sym (inj x e)) (in_right n xs (n ∷ ys) (inl refl)))))

-- lists from which a node was taken out are those without it
module _ {N C : Type 0} (same : (a b : C) → (a ≡ b) ⊎ (a ≡ b → ⊥)) (v : View N C) (inner : N → IRNode) (n : N) (inj : (x : N) → inner x ≡ inner n → x ≡ n)
    (L K M : C → List N) (h : Holds v L) (less : TakenOut v n L K) where
  away : (c : C) → v.held c ≡ true → Without inner (inner n) (L c) (M c) → (v.within n ≡ Some c → ⊥) → K c ≡ M c
  away c k w ne =
      less_away v n L K less c ne
      ∙ sym (less_same inner (inner n) (λ x i e. ne (subst (λ z. v.within z ≡ Some c) (inj x e) (run_within v c None (L c) None (h.chains c k).run x i))) w)

  here : (c : C) → v.held c ≡ true → Without inner (inner n) (L c) (M c) → v.within n ≡ Some c → K c ≡ M c
  here c k w e =
      let t = (less.linked c e).0 in
      t.3 ∙ sym (less_one inner n inj t.0 t.1 (subst Apart t.2 (h.chains c k).apart) (subst (λ z. Without inner (inner n) z (M c)) t.2 w))

  by_container : (c : C) → v.held c ≡ true → Without inner (inner n) (L c) (M c) → (o : Option C) → v.within n ≡ o → K c ≡ M c
  by_container c k w None e = away c k w (λ z. none_some (sym e ∙ z))
  by_container c k w (Some d) e = ⊎_elim (λ (q : c ≡ d). here c k w (e ∙ ap Some (sym q))) (λ ne. away c k w (λ z. ne (some_same (sym z ∙ e)))) (same c d)

  pub taken_same : (c : C) → v.held c ≡ true → Without inner (inner n) (L c) (M c) → K c ≡ M c
  taken_same c k w = by_container c k w (v.within n) refl

pub op_inj : (x y : OpPtr) → node.Operation x ≡ node.Operation y → x ≡ y
op_inj x y e = cc

block_inj : (x y : BlockPtr) → node.BasicBlock x ≡ node.BasicBlock y → x ≡ y
block_inj x y e = cc

pub block_no_op : (b : BlockPtr) (op : OpPtr) → node.BasicBlock b ≡ node.Operation op → ⊥
block_no_op b op e = let z : ◌≡◌ {A = ℕ} 0 1 = cc in omega arith

module _ (s t : Context) (l : Ledger) (r : Represents s l) (n : IRNode) (e : Ended (nodes s) n (nodes t)) where
  -- what stays of an operation outside n
  ops_stay : (op : OpPtr) → (Within (parent (nodes s)) n (node.Operation op) → ⊥) → option_map loose_op (operation_at (nodes t) op) ≡ option_map loose_op (operation_at (nodes s) op)
  ops_stay op out =
      let ls = the.lists s l r in
      outside_op (fewer_ended e ls) op (λ i. out ((e.whole ls).below (node.Operation op) i))

-- what is live after it was outside n, and live before
module _ (s t : Context) (n : IRNode) (gone : (x : IRNode) → Within (parent (nodes s)) n x → is_live (nodes t) x ≡ false)
    (stays : (x : IRNode) → (Within (parent (nodes s)) n x → ⊥) → is_live (nodes t) x ≡ is_live (nodes s) x) where
  pub is_out : (x : IRNode) → is_live (nodes t) x ≡ true → Within (parent (nodes s)) n x → ⊥
  is_out x k i = clash (sym k ∙ gone x i)

  pub was_there : (x : IRNode) → is_live (nodes t) x ≡ true → is_live (nodes s) x ≡ true
  was_there x k = sym (stays x (is_out x k)) ∙ k

pub op_erases : (s t : Context) (l : Ledger) → Represents s l → (op : OpPtr) → ((op_links (nodes s)).live op ≡ false → ⊥) → OpEnded s op t → Erases s (node.Operation op) t
op_erases s t l r op live d =
    let n = node.Operation op in
    let e = d.erased.erased in
    let v = op_links (nodes s) in
    let alive : v.live op ≡ true = true_from_ne_false _ live in
    record {
      held = d.held;
      ends = e.ended.gone;
      stays = e.ended.stays;
      ops = ops_stay s t l r n e.ended;
      op_lists = λ L M h w.
          let less = less_of block_same v op L h alive in
          holds_same (op_links (nodes t)) less.0 M (e.lists (record { ops = L; blocks = blocks_in l; ops_hold = h; blocks_hold = r.blocks_hold }) less.0 less.1).0
          (λ b k. taken_same block_same v node.Operation op (λ x z. op_inj x op z) L less.0 M h less.1 b (was_there s t n e.ended.gone e.ended.stays (node.BasicBlock b) k) (w b (is_out s t n e.ended.gone e.ended.stays (node.BasicBlock b) k)));
      block_lists = λ L M h w.
          let less = less_of block_same v op (ops_in l) r.ops_hold alive in
          holds_same (block_links (nodes t)) L M (e.lists (record { ops = ops_in l; blocks = L; ops_hold = r.ops_hold; blocks_hold = h }) less.0 less.1).1
          (λ x k. sym (less_same node.BasicBlock n (λ b i z. block_no_op b op z) (w x (is_out s t n e.ended.gone e.ended.stays (node.Region x) k))));
    }

pub block_erases : (s t : Context) (l : Ledger) → Represents s l → (block : BlockPtr) → ((block_links (nodes s)).live block ≡ false → ⊥) → BlockEnded s block t → Erases s (node.BasicBlock block) t
block_erases s t l r block live d =
    let n = node.BasicBlock block in
    let e = d.erased.erased in
    let v = block_links (nodes s) in
    let alive : v.live block ≡ true = true_from_ne_false _ live in
    record {
      held = d.held;
      ends = e.ended.gone;
      stays = e.ended.stays;
      ops = ops_stay s t l r n e.ended;
      op_lists = λ L M h w.
          let less = less_of region_same v block (blocks_in l) r.blocks_hold alive in
          holds_same (op_links (nodes t)) L M (e.lists (record { ops = L; blocks = blocks_in l; ops_hold = h; blocks_hold = r.blocks_hold }) less.0 less.1).0
          (λ b k. sym (less_same node.Operation n (λ op i z. block_no_op block op (sym z)) (w b (is_out s t n e.ended.gone e.ended.stays (node.BasicBlock b) k))));
      block_lists = λ L M h w.
          let less = less_of region_same v block L h alive in
          holds_same (block_links (nodes t)) less.0 M (e.lists (record { ops = ops_in l; blocks = L; ops_hold = r.ops_hold; blocks_hold = h }) less.0 less.1).1
          (λ x k. taken_same region_same v node.BasicBlock block (λ y z. block_inj y block z) L less.0 M h less.1 x (was_there s t n e.ended.gone e.ended.stays (node.Region x) k) (w x (is_out s t n e.ended.gone e.ended.stays (node.Region x) k)));
    }
