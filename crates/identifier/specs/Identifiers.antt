-- What an identifier means, and when one is made.
use Rattle.std.specs.Prelude.{◌≡◌, ℕ, ◌*◌, ◌%◌, ◌^◌, ◌<◌, false, List, [], ◌∷◌, length, take, Ok, Err, fold, Result, bit_xor, Decides, nat_eq}
use Rattle.std.specs.Cmp.Lexicographic.{pointwise}
use Rattle.std.specs.Ordering.{on}
use Rattle.result.specs.declared.refusal.Refusal.{Refusal}
use Rattle.result.specs.declared.refusal.Refusal.TheVariants.{NameTooLong, MalformedIdentifier}
use Rattle.result.specs.Rows.{Uppermost, NoRow}
use Rattle.identifier.specs.Names.{valid_name}
use Rattle.identifier.specs.declared.identifier.Identifier.{Identifier}

-- the bytes of an identifier, which are all that it means
abbrev pub text : Identifier → List ℕ
text n = take n.len n.bytes

-- when bytes make no identifier, in the order in which it is tested
abbrev pub name_rows : List ℕ → List (Refusal × Type 0)
name_rows name = (NameTooLong, 32 < length name) ∷ (MalformedIdentifier, valid_name name ≡ false) ∷ []

-- the identifier with these bytes where no row fits, and else the refusal of the uppermost row that fits
abbrev pub Named : List ℕ → Result Identifier Refusal → Type 0
Named name (Ok n) = NoRow (name_rows name) × (text n ≡ name)
Named name (Err e) = Uppermost (name_rows name) e

-- one byte more in the hash FNV-1a, in 32 bits
unfoldable pub fnv_step : ℕ → ℕ → ℕ
fnv_step h b = (bit_xor h b * 16777619) % 2 ^ 32

-- the hash of an identifier: FNV-1a over its bytes
abbrev pub identifier_hash : Identifier → ℕ
identifier_hash n = fold fnv_step 2166136261 (text n)

-- comparing their bytes tells whether two identifiers are one
abbrev pub EqDecides : Type 0
EqDecides = (a b : Identifier) → Decides (on text (pointwise nat_eq) a b) (a ≡ b)
