-- The hash of a pair.
use Rattle.std.specs.Prelude.{ℕ, ◌*◌, ◌/◌, ◌%◌, ◌^◌, bit_xor}
use Rattle.bench_table.specs.declared.pair.Pair.{Pair}

-- x ^ (x >> k): the upper bits of x go into its lower bits
abbrev pub folded_down : ℕ → ℕ → ℕ
folded_down k x = bit_xor x (x / 2 ^ k)

-- both numbers go into every bit, so that near pairs lie far apart
abbrev pub pair_hash : Pair → ℕ
pair_hash p = folded_down 13 ((folded_down 16 (bit_xor ((p.table * 2654435761) % 2 ^ 32) p.name) * 2246822507) % 2 ^ 32)
