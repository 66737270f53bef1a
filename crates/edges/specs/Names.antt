-- Bytes that are refused as an identifier, in lookups and as the name of a new symbol, and bytes that pass there.
use Rattle.std.specs.Prelude.{◌≡◌, ℕ, ◌<◌, ◌≤◌, true, ◌⊎◌, List, length, Ok, Err, Option, Result}
use Rattle.result.specs.declared.refusal.Refusal.{Refusal}
use Rattle.result.specs.declared.refusal.Refusal.TheVariants.{NamesFull, RecordsFull}
use Rattle.identifier.specs.declared.identifier.Identifier.{Identifier}
use Rattle.identifier.specs.Identifiers.{Named, text}
use Rattle.records.specs.declared.handles.OpPtr.{OpPtr}
use Rattle.records.specs.declared.making.MadeOperation.{MadeOperation}
use Rattle.records.specs.Nodes.{is_table}
use Rattle.records.specs.Views.{op_links}
use Rattle.ir.specs.declared.context.Context.{Context}
use Rattle.ir.specs.Calls.{MakeOperationCall}
use Rattle.ir.specs.Stores.{nodes}
use Rattle.ir.specs.Tables.{Found, FoundNearest, LookupCall, NearestLookupCall}

-- the byte is a letter of ASCII
abbrev pub Letter : ℕ → Type 0
Letter b = ((65 ≤ b) × (b ≤ 90)) ⊎ ((97 ≤ b) × (b ≤ 122))

-- The bytes are refused with e: as an identifier, in a lookup in any table, in a lookup in the table that is nearest to any live
-- operation, and, if there are any, as the name of a new symbol (kind 2) with up to four regions; and then the store stays.
pub record RefusedName (bytes : List ℕ) (e : Refusal) : Type 0 where
  pub as_identifier : (r : Result Identifier Refusal) → Named bytes r → r ≡ Err e
  pub in_a_table : (s : Context) (t : OpPtr) (r : Result (Option OpPtr) Refusal) → is_table (nodes s) t ≡ true → LookupCall s t bytes r → r ≡ Err e
  pub in_the_nearest_table : (s : Context) (op : OpPtr) (r : Result (Option OpPtr) Refusal) → (op_links (nodes s)).live op ≡ true → NearestLookupCall s op bytes r → r ≡ Err e
  pub in_a_making : (s t : Context) (regions : ℕ) (r : Result MadeOperation Refusal) → 0 < length bytes → regions ≤ 4 → MakeOperationCall s 2 regions bytes r t
      → (r ≡ Err e) × (t ≡ s)

-- The bytes pass at the same places: they make the identifier with this text, a lookup says what stands under them, and a symbol of this
-- name is refused only where too many names are held or too few records free.
pub record PassingName (bytes : List ℕ) : Type 0 where
  pub as_identifier : (r : Result Identifier Refusal) → Named bytes r → (n : Identifier) × (r ≡ Ok n) × (text n ≡ bytes)
  pub in_a_table : (s : Context) (t : OpPtr) (r : Result (Option OpPtr) Refusal) → is_table (nodes s) t ≡ true → LookupCall s t bytes r
      → (x : Option OpPtr) × (r ≡ Ok x) × Found s t bytes x
  pub in_the_nearest_table : (s : Context) (op : OpPtr) (r : Result (Option OpPtr) Refusal) → (op_links (nodes s)).live op ≡ true → NearestLookupCall s op bytes r
      → (x : Option OpPtr) × (r ≡ Ok x) × FoundNearest s op bytes x
  pub in_a_making : (s t : Context) (regions : ℕ) (e : Refusal) → regions ≤ 4 → MakeOperationCall s 2 regions bytes (Err e) t → (e ≡ NamesFull) ⊎ (e ≡ RecordsFull)
