-- The bytes of tags: each tag has one of its own.
use Rattle.std.proofs.Common.{◌≡◌, List, [], ◌∷◌, get_or, sym, refl, ap, ◌∙◌}
use Rattle.script.specs.declared.tag.Tag.{Tag}
use Rattle.script.specs.declared.tag.Tag.TheVariants.{MakeOperation, MakeBlock, LinkOperation, LinkBlock, UnlinkOperation, UnlinkBlock, InsertSymbol, RemoveSymbol, EraseSymbol, EraseOperation, EraseBlock, Lookup, NearestLookup, Walk, TableWalk}
use Rattle.script.specs.Tags.{code, Unlisted}

-- the tags by their bytes; the first tag stands where no tag has the byte
tags : List Tag
tags =
    MakeOperation ∷ MakeOperation ∷ MakeBlock ∷ LinkOperation ∷ LinkBlock ∷ UnlinkOperation ∷ UnlinkBlock ∷ InsertSymbol
    ∷ RemoveSymbol ∷ EraseSymbol ∷ EraseOperation ∷ EraseBlock ∷ Lookup ∷ NearestLookup ∷ Walk ∷ TableWalk ∷ []

found : (g : Tag) → get_or tags (code g) MakeOperation ≡ g
unfolding tags
found MakeOperation = refl
found MakeBlock = refl
found LinkOperation = refl
found LinkBlock = refl
found UnlinkOperation = refl
found UnlinkBlock = refl
found InsertSymbol = refl
found RemoveSymbol = refl
found EraseSymbol = refl
found EraseOperation = refl
found EraseBlock = refl
found Lookup = refl
found NearestLookup = refl
found Walk = refl
found TableWalk = refl

-- a tag has a byte of its own, which is listed
pub one_tag : (g h : Tag) → code g ≡ code h → g ≡ h
one_tag g h same = sym (found g) ∙ ap (λ n. get_or tags n MakeOperation) same ∙ found h

pub listed : (g : Tag) → Unlisted (code g) → ⊥
listed MakeOperation h = h.0 refl
listed MakeBlock h = h.1 refl
listed LinkOperation h = h.2 refl
listed LinkBlock h = h.3 refl
listed UnlinkOperation h = h.4 refl
listed UnlinkBlock h = h.5 refl
listed InsertSymbol h = h.6 refl
listed RemoveSymbol h = h.7 refl
listed EraseSymbol h = h.8 refl
listed EraseOperation h = h.9 refl
listed EraseBlock h = h.10 refl
listed Lookup h = h.11 refl
listed NearestLookup h = h.12 refl
listed Walk h = h.13 refl
listed TableWalk h = h.14 refl
