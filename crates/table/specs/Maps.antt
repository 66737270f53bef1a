-- What a list of entries means as a map, what keeps its searches right, and what the calls answer.
use Rattle.std.specs.Prelude.{◌≡◌, ℕ, ◌+◌, ◌%◌, ◌<◌, ◌≤◌, List, [], ◌∷◌, length, Some, None, Ok, Err, Option, Result, ◌≢◌, slice_index_or}
use Rattle.table.specs.declared.entry.Full.{Full}

-- an `Entry` of the source: none where it is free, or the key that uses it with the key's value
abbrev pub MapEntry : Type 0 → Type 0 → Type 0
MapEntry K V = Option (K × V)

-- on the way round n places from h to i, j comes before i
pub data Before (n h j i : ℕ) : Type 0 where
  straight : h ≤ j → j < i → Before n h j i
  to_end : i < h → h ≤ j → j < n → Before n h j i
  from_front : i < h → j < i → Before n h j i

-- 1 for none, 0 for some
abbrev pub fresh : {V : Type 0} → Option V → ℕ
fresh None = 1
fresh (Some v) = 0

-- 0 for none, 1 for some
abbrev pub stood : {V : Type 0} → Option V → ℕ
stood None = 0
stood (Some v) = 1

module _ {K V : Type 0} where
  -- the entry at a place; past the last one, a free entry
  abbrev pub entry_at : List (MapEntry K V) → ℕ → MapEntry K V
  entry_at es i = slice_index_or es i None

  -- 1 for a used entry, 0 for a free one
  abbrev pub weigh : MapEntry K V → ℕ
  weigh None = 0
  weigh (Some (k, v)) = 1

  -- how many entries are used
  unfoldable pub used : List (MapEntry K V) → ℕ
  used [] = 0
  used (e ∷ es) = weigh e + used es

  -- the key has this value (some entry holds it with the key), or none (no entry holds the key)
  abbrev pub Maps : List (MapEntry K V) → K → Option V → Type 0
  Maps es k None = (i : ℕ) (v : V) → entry_at es i ≢ Some (k, v)
  Maps es k (Some v) = (i : ℕ) × (entry_at es i ≡ Some (k, v))

  -- no free entry comes before i on the way from h
  pub record Clear (n h : ℕ) (es : List (MapEntry K V)) (i : ℕ) : Type 0 where
    pub clear : (j : ℕ) → Before n h j i → entry_at es j ≢ None

  -- every used key can be reached from its hash
  pub record Reached (hash : K → ℕ) (n : ℕ) (es : List (MapEntry K V)) : Type 0 where
    pub reach : (i : ℕ) (k : K) (v : V) → entry_at es i ≡ Some (k, v) → Clear n (hash k % n) es i

  -- no key stands twice, and every one can be reached
  pub record Probed (hash : K → ℕ) (es : List (MapEntry K V)) : Type 0 where
    pub apart : (i j : ℕ) (k : K) (v w : V) → entry_at es i ≡ Some (k, v) → entry_at es j ≡ Some (k, w) → i ≡ j
    pub reached : Reached hash (length es) es

  -- every other key has what it had
  pub record Others (es fs : List (MapEntry K V)) (k : K) : Type 0 where
    pub others : (q : K) (o : Option V) → (q ≢ k) → Maps es q o → Maps fs q o

  -- the map's change at one key: what the key had, what it has, and that all else is as it was
  pub record Updated (hash : K → ℕ) (es : List (MapEntry K V)) (k : K) (old new : Option V) (fs : List (MapEntry K V)) : Type 0 where
    pub was : Maps es k old
    pub is : Maps fs k new
    pub others : Others es fs k
    pub probed : Probed hash fs

  -- the key was given the value v: the entries are as many, and one more is used if the key is new
  pub record Put (hash : K → ℕ) (es : List (MapEntry K V)) (k : K) (v : V) (old : Option V) (fs : List (MapEntry K V)) : Type 0 where
    pub long : length fs ≡ length es
    pub counts : used fs ≡ used es + fresh old
    pub map : Probed hash es → Updated hash es k old (Some v) fs

  -- a refusal changes nothing, and comes only for a new key where every entry is used
  pub record Refused (es : List (MapEntry K V)) (k : K) (fs : List (MapEntry K V)) : Type 0 where
    pub same : fs ≡ es
    pub full : used es ≡ length es
    pub new : Maps es k None

  -- what an insert answers and leaves
  abbrev pub Inserted : (K → ℕ) → List (MapEntry K V) → K → V → Result (Option V) Full → List (MapEntry K V) → Type 0
  Inserted hash es k v (Ok old) fs = Put hash es k v old fs
  Inserted hash es k v (Err e) fs = Refused es k fs

  -- what a remove answers and leaves: the key has no value any more, and where it had none nothing changes
  pub record Taken (hash : K → ℕ) (es : List (MapEntry K V)) (k : K) (old : Option V) (fs : List (MapEntry K V)) : Type 0 where
    pub long : length fs ≡ length es
    pub counts : used fs + stood old ≡ used es
    pub map : Probed hash es → Updated hash es k old None fs
    pub same : old ≡ None → fs ≡ es
