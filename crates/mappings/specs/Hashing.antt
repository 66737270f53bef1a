-- The hash of a name in a table.
use Rattle.std.specs.Prelude.{ℕ, ◌*◌, ◌/◌, ◌%◌, ◌^◌, bit_xor}
use Rattle.mappings.specs.declared.name_in.NameIn.{NameIn}

-- one number more in a hash
unfoldable pub mixed : ℕ → ℕ → ℕ
mixed h n = (bit_xor h n * 11400714819323198485) % 2 ^ 64

-- the hash of a name in a table: the table's place and version and the name's number, mixed one after another; of the product, the upper half
abbrev pub name_in_hash : NameIn → ℕ
name_in_hash k = mixed (mixed (mixed 0 k.table.handle.place) k.table.handle.version) k.name / 2 ^ 32
