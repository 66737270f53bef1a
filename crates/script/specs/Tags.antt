-- The tags of fields.
use Rattle.std.specs.Prelude.{◌≡◌, ℕ, Ok, Err, Result, ◌≢◌}
use Rattle.result.specs.declared.refusal.Refusal.{Refusal}
use Rattle.result.specs.declared.refusal.Refusal.TheVariants.{UnknownTag}
use Rattle.script.specs.declared.tag.Tag.{Tag}
use Rattle.script.specs.declared.tag.Tag.TheVariants.{MakeOperation, MakeBlock, LinkOperation, LinkBlock, UnlinkOperation, UnlinkBlock, InsertSymbol, RemoveSymbol, EraseSymbol, EraseOperation, EraseBlock, Lookup, NearestLookup, Walk, TableWalk}

-- the byte of a tag
abbrev pub code : Tag → ℕ
code MakeOperation = 1
code MakeBlock = 2
code LinkOperation = 3
code LinkBlock = 4
code UnlinkOperation = 5
code UnlinkBlock = 6
code InsertSymbol = 7
code RemoveSymbol = 8
code EraseSymbol = 9
code EraseOperation = 10
code EraseBlock = 11
code Lookup = 12
code NearestLookup = 13
code Walk = 14
code TableWalk = 15

-- the byte is no tag's
abbrev pub Unlisted : ℕ → Type 0
Unlisted b = (b ≢ 1) × (b ≢ 2) × (b ≢ 3) × (b ≢ 4) × (b ≢ 5) × (b ≢ 6) × (b ≢ 7) × (b ≢ 8) × (b ≢ 9) × (b ≢ 10) × (b ≢ 11) × (b ≢ 12) × (b ≢ 13) × (b ≢ 14) × (b ≢ 15)

-- the tag that has a byte is given, or the byte is no tag's, and that is the refusal
abbrev pub TagGiven : ℕ → Result Tag Refusal → Type 0
TagGiven b (Ok t) = code t ≡ b
TagGiven b (Err e) = Unlisted b × (e ≡ UnknownTag)
