-- Which kinds, numbers of regions and names go together.
use Rattle.std.specs.Prelude.{◌≡◌, ℕ, ◌+◌, ◌<◌, Bool, true, false, ◌⊎◌, Some, None, Option, Result, MatchResult, ◌≢◌}
use Rattle.records.specs.declared.kind.Kind.{Kind}
use Rattle.records.specs.declared.kind.UnknownKind.{UnknownKind}
use Rattle.records.specs.declared.shape.Shape.{Shape}

-- a number for a property that is there
abbrev pub worth : ℕ → Bool → ℕ
worth n true = n
worth n false = 0

-- a kind as a sum: 1 for a table, 2 for a symbol, 4 for a terminator
abbrev pub kind_sum : Kind → ℕ
kind_sum k = worth 1 k.table + worth 2 k.symbol + worth 4 k.terminator

-- the kind with this sum, or a refusal of a sum above 7, which no kind has
abbrev pub Summed : ℕ → Result Kind UnknownKind → Type 0
Summed sum r = MatchResult r (λ k. kind_sum k ≡ sum) (λ e. (7 < sum) × (e.0 ≡ sum))

-- a table that does not have exactly one region
abbrev pub BadTable : Kind → ℕ → Type 0
BadTable k regions = (k.table ≡ true) × (regions ≢ 1)

-- a symbol without a name, or a name without a symbol
abbrev pub BadName : Kind → Bool → Type 0
BadName k named = k.symbol ≡ named → ⊥

-- Row 4: the kind is above 7, there are over 4 regions, a table has not exactly 1, a symbol has no name, or what is no
-- symbol has one.
abbrev pub Misshapen : ℕ → ℕ → Bool → Type 0
Misshapen sum regions named =
    (7 < sum) ⊎ ((4 < regions) ⊎ ((k : Kind) × (kind_sum k ≡ sum) × (BadTable k regions ⊎ BadName k named)))

-- a shape is given exactly where row 4 does not fit
abbrev pub Shaped : ℕ → ℕ → Bool → Option Shape → Type 0
Shaped sum regions named None = Misshapen sum regions named
Shaped sum regions named (Some s) = (Misshapen sum regions named → ⊥) × (kind_sum s.kind ≡ sum) × (s.count ≡ regions)
