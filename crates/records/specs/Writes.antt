-- One record of a table is written: what its readers see. Assumes nothing.
use Rattle.std.specs.Prelude.{◌≡◌, ◌&&◌, ◌==◌, ◌⊎◌, Decides, Some, Option, ◌≢◌, refl}
use Rattle.std.proofs.Common.{sym, ap, ◌∙◌, inl, inr, ⊎_elim}
use Rattle.std.proofs.lemmas.Bool.{cases_eq}
use Rattle.std.proofs.lemmas.Bool.Decides.{Decides-and, Decides-eqb, Decides-like}
use Rattle.arena.specs.declared.handle.Handle.{Handle}
use Rattle.arena.specs.Shelves.{Only, Shelf, at, changed}
use Rattle.arena.proofs.Shelving.{changed_only, same_handle}
use Rattle.records.specs.declared.handles.BlockPtr.{BlockPtr}
use Rattle.records.specs.declared.handles.OpPtr.{OpPtr}
use Rattle.records.specs.declared.handles.RegionPtr.{RegionPtr}
use Rattle.records.specs.Models.{block_of, op_of, region_of}
use Rattle.records.specs.Views.{part}

-- two handles are the same or not
pub handles : (h k : Handle) → (h ≡ k) ⊎ (h ≢ k)
handles h k =
    ⊎_elim
    (λ (p : h.place ≡ k.place).
    ⊎_elim
    (λ (v : h.version ≡ k.version). inl (same_handle h k p v))
    (λ (v : h.version ≡ k.version → ⊥). inr (λ e. v (ap (λ (j : Handle). j.version) e)))
    (cases_eq h.version k.version))
    (λ (p : h.place ≡ k.place → ⊥). inr (λ e. p (ap (λ (j : Handle). j.place) e)))
    (cases_eq h.place k.place)

-- comparing handles decides whether they are the same
pub handle_decides : (h k : Handle) → Decides ((h.place == k.place) && (h.version == k.version)) (h ≡ k)
handle_decides h k =
    Decides-like _ (λ e. same_handle h k e.0 e.1) (λ e. (ap (λ (j : Handle). j.place) e, ap (λ (j : Handle). j.version) e))
    (Decides-and _ _ (Decides-eqb h.place k.place) (Decides-eqb h.version k.version))

-- a handle of one kind is its place and version
pub same_opptr : (m n : OpPtr) → m.handle ≡ n.handle → m ≡ n
same_opptr m n e = ap op_of e

pub same_blockptr : (m n : BlockPtr) → m.handle ≡ n.handle → m ≡ n
same_blockptr m n e = ap block_of e

pub same_regionptr : (m n : RegionPtr) → m.handle ≡ n.handle → m ≡ n
same_regionptr m n e = ap region_of e

-- comparing handles of one kind decides whether they are the same
pub op_decides : (m n : OpPtr) → Decides ((m.handle.place == n.handle.place) && (m.handle.version == n.handle.version)) (m ≡ n)
op_decides m n = Decides-like _ (same_opptr m n) (ap (λ (p : OpPtr). p.handle)) (handle_decides m.handle n.handle)

pub block_decides : (m n : BlockPtr) → Decides ((m.handle.place == n.handle.place) && (m.handle.version == n.handle.version)) (m ≡ n)
block_decides m n = Decides-like _ (same_blockptr m n) (ap (λ (p : BlockPtr). p.handle)) (handle_decides m.handle n.handle)

pub region_decides : (m n : RegionPtr) → Decides ((m.handle.place == n.handle.place) && (m.handle.version == n.handle.version)) (m ≡ n)
region_decides m n = Decides-like _ (same_regionptr m n) (ap (λ (p : RegionPtr). p.handle)) (handle_decides m.handle n.handle)

-- two handles of one kind are the same or not
ptr_same : {P : Type 0} (handle : P → Handle) (of : Handle → P) → ((p : P) → of (handle p) ≡ p) → (m n : P) → (m ≡ n) ⊎ (m ≢ n)
ptr_same handle of back m n =
    elim (handles (handle m) (handle n)) [ inl e ↦ inl (sym (back m) ∙ ap of e ∙ back n) | inr ne ↦ inr (λ e. ne (ap handle e)) ]

pub op_same : (m n : OpPtr) → (m ≡ n) ⊎ (m ≢ n)
op_same = ptr_same (λ p. p.handle) op_of (λ p. refl)

pub block_same : (m n : BlockPtr) → (m ≡ n) ⊎ (m ≢ n)
block_same = ptr_same (λ p. p.handle) block_of (λ p. refl)

pub region_same : (m n : RegionPtr) → (m ≡ n) ⊎ (m ≢ n)
region_same = ptr_same (λ p. p.handle) region_of (λ p. refl)

module _ {T : Type 0} (a : Shelf T) (h : Handle) (x y : T) (read : at a h ≡ Some x) where
  only : Only (at a) (at (changed h y a)) h (Some y)
  only = changed_only a h x y read

  -- a part that the write set, read at the handle and at any other
  pub set_here : {B : Type 0} (f : T → Option B) → part f (at (changed h y a) h) ≡ f y
  set_here f = ap (part f) only.here

  pub set_other : {B : Type 0} (f : T → Option B) (k : Handle) → (k ≢ h) → part f (at (changed h y a) k) ≡ part f (at a k)
  set_other f k ne = ap (part f) (only.others k ne)

  -- a part that the write left
  pub left : {B : Type 0} (f : T → Option B) → f y ≡ f x → (k : Handle) → part f (at (changed h y a) k) ≡ part f (at a k)
  left f e k =
      elim (handles k h) [
        | inl z ↦ ap (λ (j : Handle). part f (at (changed h y a) j)) z ∙ set_here f ∙ e ∙ sym (ap (part f) read) ∙ ap (λ (j : Handle). part f (at a j)) (sym z)
        | inr ne ↦ set_other f k ne
      ]
