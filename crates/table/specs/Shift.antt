-- What closing the hole that a removed key leaves does to the entries.
use Rattle.std.specs.Prelude.{◌≡◌, ℕ, ◌%◌, ◌<◌, List, length, Option, slice_set, Some, None}
use Rattle.table.specs.Maps.{MapEntry, Before, entry_at, used, Maps, Probed}
use Rattle.table.specs.Search.{UsedBy}

-- the hole cuts off the key k at i: on the way from its hash the hole comes before it
abbrev pub Cuts : {K : Type 0} → (K → ℕ) → ℕ → ℕ → ℕ → K → Type 0
Cuts hash n hole i k = Before n (hash k % n) hole i

-- the hole does not cut off the key k at i
abbrev pub Spares : {K : Type 0} → (K → ℕ) → ℕ → ℕ → ℕ → K → Type 0
Spares hash n hole i k = Cuts hash n hole i k → ⊥

module _ {K V : Type 0} where
  -- no key stands twice, and no free entry but the hole comes before a key on the way from its hash
  pub record Holed (hash : K → ℕ) (n : ℕ) (es : List (MapEntry K V)) (hole : ℕ) : Type 0 where
    pub apart : (i j : ℕ) (k : K) (v w : V) → entry_at es i ≡ Some (k, v) → entry_at es j ≡ Some (k, w) → i ≡ j
    pub reach : (i j : ℕ) (k : K) (v : V) → entry_at es i ≡ Some (k, v) → Before n (hash k % n) j i → entry_at es j ≡ None → j ≡ hole

  -- the hole cuts no key off any more
  pub record Closed (hash : K → ℕ) (es : List (MapEntry K V)) (hole : ℕ) : Type 0 where
    pub closed : Holed hash (length es) es hole → Probed hash es

  -- the hole cuts off the key at i
  pub record CutOff (hash : K → ℕ) (es : List (MapEntry K V)) (hole i : ℕ) : Type 0 where
    pub within : i < length es
    pub off : UsedBy (Cuts hash (length es) hole i) (entry_at es i)

  -- the entries after that at j was moved into the hole
  abbrev pub moved : List (MapEntry K V) → ℕ → ℕ → List (MapEntry K V)
  moved es hole j = slice_set (slice_set es hole (entry_at es j)) j None

  -- keys were moved until the hole cut none off: each key has what it had
  pub record Shifted (hash : K → ℕ) (es : List (MapEntry K V)) (hole : ℕ) (fs : List (MapEntry K V)) : Type 0 where
    pub long : length fs ≡ length es
    pub counts : used fs ≡ used es
    pub keeps : (k : K) (o : Option V) → Maps es k o → Maps fs k o
    pub probed : Holed hash (length es) es hole → Probed hash fs
