-- Notes that are set, by a call or on a walk, keep the store as the ledger says. Assumes nothing.
use Rattle.std.proofs.Common.{◌≡◌, ℕ, List, Some, None, Option, sym, refl, ap, ◌∙◌, subst}
use Rattle.std.specs.Option.{option_map}
use Rattle.arena.specs.Pools.{live}
use Rattle.arena.specs.Shelves.{Shelf}
use Rattle.linked_list.specs.Links.{Holds, View}
use Rattle.records.specs.declared.basic_block.BasicBlock.{BasicBlock}
use Rattle.records.specs.declared.handles.BlockPtr.{BlockPtr}
use Rattle.records.specs.declared.handles.OpPtr.{OpPtr}
use Rattle.records.specs.declared.handles.RegionPtr.{RegionPtr}
use Rattle.records.specs.declared.operation.Operation.{Operation}
use Rattle.records.specs.declared.region.Region.{Region}
use Rattle.records.specs.Models.{operation_at}
use Rattle.ir.specs.declared.context.Context.{Context}
use Rattle.ir.specs.Calls.{NoteSet}
use Rattle.ir.specs.Stores.{names, nodes}
use Rattle.walkers.specs.Notes.{OnlyNotes, unnoted}
use Rattle.walkers.proofs.Setting.{set}
use Rattle.walkers.proofs.Unnoted.{block_links_kept, op_links_kept}
use Rattle.histories.specs.Feeding.{Same}
use Rattle.histories.specs.Ledgers.{Ledger, blocks_in, ops_in}
use Rattle.histories.specs.Represents.{Represents, entry}

-- a ledger in which nothing was written is the same
pub same_ledger : (l m : Ledger) → Same l m → m ≡ l
same_ledger l m w = λ i. record { operation = λ x. w.operations x i; block = λ x. w.blocks x i; region = λ x. w.regions x i }

-- an entry does not speak of notes
entry_unnoted : (held : List (List ℕ)) (o : Option Operation) → option_map (entry held) (option_map unnoted o) ≡ option_map (entry held) o
entry_unnoted held None = refl
entry_unnoted held (Some o) = refl

pub noted : (s t : Context) (l : Ledger) → Represents s l → OnlyNotes s t → Represents t l
noted s t l r e = record {
  operations = λ op.
      r.operations op
      ∙ ap (λ (h : List (List ℕ)). option_map (entry h) (operation_at (nodes s) op)) (sym e.held)
      ∙ sym (sym (entry_unnoted (names t) (operation_at (nodes t) op)) ∙ ap (option_map (entry (names t))) (e.kept.operations op) ∙ entry_unnoted (names t) (operation_at (nodes s) op));
  blocks = λ b. r.blocks b ∙ sym (ap (λ (a : Shelf BasicBlock). live a.pool b.handle) e.kept.blocks);
  regions = λ x. r.regions x ∙ sym (ap (λ (a : Shelf Region). live a.pool x.handle) e.kept.regions);
  ops_hold = subst (λ (v : View OpPtr BlockPtr). Holds v (ops_in l)) (sym (op_links_kept (nodes s) (nodes t) e.kept)) r.ops_hold;
  blocks_hold = subst (λ (v : View BlockPtr RegionPtr). Holds v (blocks_in l)) (sym (block_links_kept (nodes s) (nodes t) e.kept)) r.blocks_hold;
}

-- a call that writes nothing and sets at most notes
pub represents : (s t : Context) (l m : Ledger) → Represents s l → OnlyNotes s t → Same l m → Represents t m
represents s t l m r e w = subst (Represents t) (sym (same_ledger l m w)) (noted s t l r e)

-- a note that is set
pub one_note : (s t : Context) (op : OpPtr) (note : ℕ) → NoteSet s op note t → OnlyNotes s t
one_note s t op note e = (set s t op note e).only
