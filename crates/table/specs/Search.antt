-- What the parts of a search answer.
use Rattle.std.specs.Prelude.{◌≡◌, ℕ, ◌%◌, ◌<◌, ◌≤◌, List, length, Some, None, Option}
use Rattle.table.specs.declared.entry.Hit.{Hit}
use Rattle.table.specs.declared.entry.Scan.{Scan}
use Rattle.table.specs.declared.entry.Scan.TheVariants.{Found, Stopped, Through}
use Rattle.table.specs.Maps.{MapEntry, Before, entry_at, used, Maps, Clear, Probed}

-- what a search found
abbrev pub hit_of : {V : Type 0} → Scan V → Option (Hit V)
hit_of (Found x) = Some x
hit_of (Stopped f) = None
hit_of Through = None

module _ {K V : Type 0} where
  -- the entry is used, by a key with the property P
  abbrev pub UsedBy : (K → Type 0) → MapEntry K V → Type 0
  UsedBy P None = ⊥
  UsedBy P (Some (k, v)) = P k

  -- every entry from a up to b is used, and its key has the property P of its place
  pub record Each (P : ℕ → K → Type 0) (es : List (MapEntry K V)) (a b : ℕ) : Type 0 where
    pub each : (i : ℕ) → a ≤ i → i < b → UsedBy (P i) (entry_at es i)

  -- f is the first free entry from a up to b, and each key before it has the property P
  pub record Stop (P : ℕ → K → Type 0) (es : List (MapEntry K V)) (a b f : ℕ) : Type 0 where
    pub low : a ≤ f
    pub high : f < b
    pub within : f < length es
    pub is : entry_at es f ≡ None
    pub before : Each P es a f

  -- what a search from a up to b answers: the place and the value that it found, or that each key that it passed has the
  -- property P, up to a free entry or to b
  abbrev pub Scanned : {T : Type 0} → (ℕ → T → Type 0) → (ℕ → K → Type 0) → List (MapEntry K V) → ℕ → ℕ → Scan T → Type 0
  Scanned F P es a b (Found x) = F x.place x.value
  Scanned F P es a b (Stopped f) = Stop P es a b f
  Scanned F P es a b Through = Each P es a b

  -- the entry at i is used with the value v, by a key with the property W of its place
  pub record Wanted (W : ℕ → K → Type 0) (es : List (MapEntry K V)) (i : ℕ) (v : V) : Type 0 where
    pub within : i < length es
    pub key : K
    pub is : entry_at es i ≡ Some (key, v)
    pub wanted : W i key

  -- f is free, and each entry that comes before it on the way round from a is used, by a key with the property P
  pub record Passed (P : ℕ → K → Type 0) (es : List (MapEntry K V)) (a f : ℕ) : Type 0 where
    pub within : f < length es
    pub is : entry_at es f ≡ None
    pub before : (i : ℕ) → Before (length es) a i f → UsedBy (P i) (entry_at es i)

  -- each entry from a to the end, and from the front up to b, is used by a key with the property P
  pub record Round (P : ℕ → K → Type 0) (es : List (MapEntry K V)) (a b : ℕ) : Type 0 where
    pub upper : Each P es a (length es)
    pub lower : Each P es 0 b

  -- what a search on the way round from a to b answers: a key with the property W, or that each key that it passed has the
  -- property P, up to a free entry or to b
  abbrev pub Walked : (ℕ → K → Type 0) → (ℕ → K → Type 0) → List (MapEntry K V) → ℕ → ℕ → Scan V → Type 0
  Walked W P es a b (Found x) = Wanted W es x.place x.value
  Walked W P es a b (Stopped f) = Passed P es a f
  Walked W P es a b Through = Round P es a b

  -- the key k stands at i with the value v
  pub record At (es : List (MapEntry K V)) (k : K) (i : ℕ) (v : V) : Type 0 where
    pub within : i < length es
    pub is : entry_at es i ≡ Some (k, v)

  -- a free entry with none before it on the way from the hash of k, so that k has its place here if it has none yet
  pub record Vacant (hash : K → ℕ) (es : List (MapEntry K V)) (k : K) (f : ℕ) : Type 0 where
    pub within : f < length es
    pub is : entry_at es f ≡ None
    pub clear : Clear (length es) (hash k % length es) es f
    pub missing : Probed hash es → Maps es k None

  -- every entry is used, by another key than k
  pub record Filled (es : List (MapEntry K V)) (k : K) : Type 0 where
    pub full : used es ≡ length es
    pub missing : Maps es k None

  -- what the search for k round all entries answers
  abbrev pub Searched : (K → ℕ) → List (MapEntry K V) → K → Scan V → Type 0
  Searched hash es k (Found x) = At es k x.place x.value
  Searched hash es k (Stopped f) = Vacant hash es k f
  Searched hash es k Through = Filled es k
