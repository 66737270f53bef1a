-- Mappings go on to follow the bodies through every call that puts no symbol into a body and takes none out. Assumes nothing.
use Rattle.std.proofs.Common.{◌≡◌, ℕ, Bool, true, ◌&&◌, is_some, Some, None, Option, sym, refl, ap, ◌∙◌, inl, inr, arith}
use Rattle.linked_list.specs.Links.{At, View}
use Rattle.records.specs.declared.handles.BlockPtr.{BlockPtr}
use Rattle.records.specs.declared.handles.OpPtr.{OpPtr}
use Rattle.records.specs.declared.handles.RegionPtr.{RegionPtr}
use Rattle.records.specs.Models.{Model}
use Rattle.records.specs.Nodes.{is, is_body, is_symbol, is_table, of_table, owner, table_bound}
use Rattle.records.specs.Views.{block_links, op_links, part}
use Rattle.records.specs.Writes.{block_same, op_same}
use Rattle.symbol_table.specs.Bodies.{Follows, Named, Stands, block_parent, name_of, parent_op}
use Rattle.symbol_table.proofs.Faces.{SameOps, same_name, same_table}

-- what has something as a part, of which a thing holds, is so
pub through : {X Y : Type 0} (f : X → Option Y) (g : Y → Bool) (x : Option X) (y : Y) → part f x ≡ Some y → g y ≡ true → is (λ (z : X). is g (f z)) x ≡ true
through f g None y e h = let z : ◌≡◌ {A = ℕ} 0 1 = cc in absurd (omega arith)
through f g (Some x) y e h = ap (is g) e ∙ h

-- a block that stands in a table is its body
pub in_body : (m : Model) (t : OpPtr) (b : BlockPtr) → block_parent m b ≡ Some t → is_table m t ≡ true → is_body m b ≡ true
in_body m t b = through (owner m) (is_table m) ((block_links m).within b) t

-- an operation with a name is a symbol
pub symbol_named : (m : Model) → Named m → (op : OpPtr) (n : ℕ) → name_of m op ≡ Some n → is_symbol m op ≡ true
symbol_named m h op n e = h.symbols op ∙ ap is_some e

both : (a b : Bool) → a ≡ true → b ≡ true → (a && b) ≡ true
both a b p q = ap (λ (x : Bool). x && b) p ∙ q

pub bound : (m : Model) → Named m → (op : OpPtr) (n : ℕ) (t : OpPtr) (b : BlockPtr) → name_of m op ≡ Some n → block_parent m b ≡ Some t → is_table m t ≡ true → table_bound m op (Some b) ≡ true
bound m h op n t b e p i = both (is_symbol m op) (is_body m b) (symbol_named m h op n e) (in_body m t b p i)

module _ (m n : Model) (ops : SameOps m n) (f : OpPtr → ℕ → Option OpPtr) where
  stands_on : (t o : OpPtr) (k : ℕ) → parent_op n o ≡ Some t → Stands m t k o → Stands n t k o
  stands_on t o k e s = record { parent = e; table = same_table m n ops t ∙ s.table; name = same_name m n ops o ∙ s.name }

  stood_on : (t o : OpPtr) (k : ℕ) → parent_op m o ≡ Some t → Stands n t k o → Stands m t k o
  stood_on t o k e s = record { parent = e; table = sym (same_table m n ops t) ∙ s.table; name = sym (same_name m n ops o) ∙ s.name }

  -- the symbols of each body go on to stand there, and no other comes to stand there
  pub follows_when : ((t o : OpPtr) (k : ℕ) → Stands m t k o → parent_op n o ≡ Some t) → ((t o : OpPtr) (k : ℕ) → Stands n t k o → parent_op m o ≡ Some t) → Follows m f → Follows n f
  follows_when there back h = record {
    found = λ t k o e. let s = h.found t k o e in stands_on t o k (there t o k s) s;
    kept = λ t k o s. h.kept t k o (stood_on t o k (back t o k s) s);
  }

pub none_some : {X : Type 0} {x : X} → None ≡ Some x → ⊥
none_some e = let z : ◌≡◌ {A = ℕ} 0 1 = cc in omega arith

-- nothing is in what is not there
pub part_none : {X Y : Type 0} (f : X → Option Y) (x : Option X) (y : Y) → x ≡ None → part f x ≡ Some y → ⊥
part_none f x y e p = none_some (sym (ap (part f) e) ∙ p)

-- equal functions read equal parts
pub part_like : {X Y : Type 0} (f g : X → Option Y) → ((x : X) → f x ≡ g x) → (x : Option X) → part f x ≡ part g x
part_like f g e None = refl
part_like f g e (Some x) = e x

-- one operation has another block
module _ (m n : Model) (ops : SameOps m n) (blocks : block_links n ≡ block_links m) (owners : (r : RegionPtr) → owner n r ≡ owner m r) where
  pub same_block_parent : (b : BlockPtr) → block_parent n b ≡ block_parent m b
  same_block_parent b = ap (λ (v : View BlockPtr RegionPtr). part (owner n) (v.within b)) blocks ∙ part_like (owner n) (owner m) owners ((block_links m).within b)

  pub same_parent : (o : OpPtr) → (op_links n).within o ≡ (op_links m).within o → parent_op n o ≡ parent_op m o
  same_parent o e = ap (part (block_parent n)) e ∙ part_like (block_parent n) (block_parent m) same_block_parent ((op_links m).within o)

  pub follows_still : op_links n ≡ op_links m → (f : OpPtr → ℕ → Option OpPtr) → Follows m f → Follows n f
  follows_still e f =
      let same : (o : OpPtr) → parent_op n o ≡ parent_op m o = λ o. same_parent o (ap (λ (v : View OpPtr BlockPtr). v.within o) e) in
      follows_when m n ops f (λ t o k s. same o ∙ s.parent) (λ t o k s. sym (same o) ∙ s.parent)

  module _ (named : Named m) (op : OpPtr) (x : Option BlockPtr) (moves : At (op_links m).within (op_links n).within op x)
      (before : table_bound m op ((op_links m).within op) ≡ true → ⊥) (after : table_bound m op x ≡ true → ⊥) where
    -- a named operation stands in the block's parent, which is a table
    stands_bound : (t : OpPtr) (k : ℕ) (y : Option BlockPtr) → part (block_parent m) y ≡ Some t → is_table m t ≡ true → name_of m op ≡ Some k → table_bound m op y ≡ true
    stands_bound t k None p i e = absurd (none_some p)
    stands_bound t k (Some b) p i e = bound m named op k t b e p i

    pub follows_moved : (f : OpPtr → ℕ → Option OpPtr) → Follows m f → Follows n f
    follows_moved f =
        follows_when m n ops f
        (λ t o k s. elim (op_same o op) [
          | inl e ↦ absurd (before (stands_bound t k ((op_links m).within op) (sym (ap (parent_op m) e) ∙ s.parent) s.table (sym (ap (name_of m) e) ∙ s.name)))
          | inr ne ↦ same_parent o (moves.other o ne) ∙ s.parent
        ])
        (λ t o k s. elim (op_same o op) [
          | inl e ↦
              absurd (after (stands_bound t k x
              (sym (part_like (block_parent n) (block_parent m) same_block_parent x) ∙ sym (ap (part (block_parent n)) moves.here) ∙ sym (ap (parent_op n) e) ∙ s.parent)
              (sym (same_table m n ops t) ∙ s.table) (sym (same_name m n ops op) ∙ sym (ap (name_of n) e) ∙ s.name)))
          | inr ne ↦ sym (same_parent o (moves.other o ne)) ∙ s.parent
        ])

-- one block has another region, and neither is a table's
module _ (m n : Model) (ops : SameOps m n) (links : op_links n ≡ op_links m) (owners : (r : RegionPtr) → owner n r ≡ owner m r)
    (c : BlockPtr) (x : Option RegionPtr) (moves : At (block_links m).within (block_links n).within c x)
    (before : is (of_table m) ((block_links m).within c) ≡ true → ⊥) (after : is (of_table m) x ≡ true → ⊥) where
  other_parent : (b : BlockPtr) → (b ≡ c → ⊥) → block_parent n b ≡ block_parent m b
  other_parent b ne = ap (part (owner n)) (moves.other b ne) ∙ part_like (owner n) (owner m) owners ((block_links m).within b)

  parent_now : block_parent n c ≡ part (owner m) x
  parent_now = ap (part (owner n)) moves.here ∙ part_like (owner n) (owner m) owners x

  block_there : (t : OpPtr) (b : BlockPtr) → is_table m t ≡ true → block_parent m b ≡ Some t → block_parent n b ≡ Some t
  block_there t b i e =
      elim (block_same b c) [
        | inl z ↦ absurd (before (through (owner m) (is_table m) ((block_links m).within c) t (sym (ap (block_parent m) z) ∙ e) i))
        | inr ne ↦ other_parent b ne ∙ e
      ]

  block_back : (t : OpPtr) (b : BlockPtr) → is_table m t ≡ true → block_parent n b ≡ Some t → block_parent m b ≡ Some t
  block_back t b i e =
      elim (block_same b c) [
        | inl z ↦ absurd (after (through (owner m) (is_table m) x t (sym parent_now ∙ sym (ap (block_parent n) z) ∙ e) i))
        | inr ne ↦ sym (other_parent b ne) ∙ e
      ]

  part_to : {X : Type 0} (f g : X → Option OpPtr) (t : OpPtr) → ((b : X) → f b ≡ Some t → g b ≡ Some t) → (y : Option X) → part f y ≡ Some t → part g y ≡ Some t
  part_to f g t h None e = e
  part_to f g t h (Some b) e = h b e

  same_within : (o : OpPtr) → (op_links n).within o ≡ (op_links m).within o
  same_within o = ap (λ (v : View OpPtr BlockPtr). v.within o) links

  pub follows_around : (f : OpPtr → ℕ → Option OpPtr) → Follows m f → Follows n f
  follows_around f =
      follows_when m n ops f
      (λ t o k s. ap (part (block_parent n)) (same_within o) ∙ part_to (block_parent m) (block_parent n) t (λ b e. block_there t b s.table e) ((op_links m).within o) s.parent)
      (λ t o k s.
      part_to (block_parent n) (block_parent m) t (λ b e. block_back t b (sym (same_table m n ops t) ∙ s.table) e) ((op_links m).within o)
      (sym (ap (part (block_parent n)) (same_within o)) ∙ s.parent))
