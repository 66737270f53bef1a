-- Gaps of a list: the places between two neighbours, which a spot names.
use Rattle.std.specs.Prelude.{◌≡◌, true, Some, None, Option}
use Rattle.linked_list.specs.declared.spot.Spot.{Spot}
use Rattle.linked_list.specs.declared.spot.Spot.TheVariants.{AtFront, AtBack, Before, After}
use Rattle.linked_list.specs.Links.{View, SetsNext, SetsPrev, SetsHead, SetsTail}

-- What stands before a gap of the container c now points on to x: the node, or where there is none the head.
abbrev pub Forward : {N C : Type 0} → View N C → View N C → C → Option N → Option N → Type 0
Forward v w c (Some a) x = SetsNext v w a x
Forward v w c None x = SetsHead v w c x

-- What stands after a gap of the container c now points back to x: the node, or where there is none the tail.
abbrev pub Backward : {N C : Type 0} → View N C → View N C → C → Option N → Option N → Type 0
Backward v w c (Some b) x = SetsPrev v w b x
Backward v w c None x = SetsTail v w c x

-- What stands before a gap at a spot: the node before it, or none where the gap is at the front.
abbrev pub before_spot : {N C : Type 0} → View N C → Spot N C → Option N
before_spot v (AtFront c) = None
before_spot v (AtBack c) = v.tail c
before_spot v (Before mark) = v.prev mark
before_spot v (After mark) = Some mark

-- What stands after a gap at a spot: the node after it, or none where the gap is at the back.
abbrev pub after_spot : {N C : Type 0} → View N C → Spot N C → Option N
after_spot v (AtFront c) = v.head c
after_spot v (AtBack c) = None
after_spot v (Before mark) = Some mark
after_spot v (After mark) = v.next mark

-- A node that may be absent is one that the store holds.
abbrev pub Live? : {N C : Type 0} → View N C → Option N → Type 0
Live? v (Some a) = v.live a ≡ true
Live? v None = Unit {0}
