-- A refusal is found again from its number.
use Rattle.std.proofs.Common.{◌≡◌, eqb, List, [], ◌∷◌, get_or, Decides, sym, refl, ap, ◌∙◌, rules}
use denote.Enum.Bare.{sameb, same_true, true_same}
use Rattle.result.specs.declared.refusal.Refusal.{Refusal}
use Rattle.result.specs.declared.refusal.Refusal.TheVariants.{Bounds, ScriptCut, UnknownTag, BadField, BadOrdinal, NumberingFull, Dangling, NotATable, NotASymbol, BadShape, NameTooLong, MalformedIdentifier, NamesFull, RecordsFull, SymbolRedefined, SymbolOpAlreadyInAnotherTable, InvalidInsertionPoint, InsertionPointNotInSameTable, SymbolOpNotInTableOp, AlreadyLinked, MarkNotLinked, NotLinked, FixedBody, WouldContainItself, GoesThroughTable}
use Rattle.result.specs.contracts.refusal.Refusal.{the_type}
use Rattle.std.proofs.lemmas.Bool.Decides.{Decides-eqb, Decides-like, same_from_decides}
use Rattle.result.specs.Refusals.{number, DistinctNumbers, EqDecides}

-- the refusals by their numbers; no refusal has the number 0
by_number : List Refusal
by_number =
    Bounds ∷ Dangling ∷ NotATable ∷ NotASymbol ∷ BadShape ∷ NameTooLong ∷ MalformedIdentifier ∷ NamesFull ∷ RecordsFull ∷ SymbolRedefined ∷ SymbolOpAlreadyInAnotherTable ∷ InvalidInsertionPoint ∷ InsertionPointNotInSameTable ∷ SymbolOpNotInTableOp ∷ AlreadyLinked ∷ MarkNotLinked ∷ NotLinked ∷ FixedBody ∷ WouldContainItself ∷ GoesThroughTable ∷ Bounds ∷ ScriptCut ∷ UnknownTag ∷ BadField ∷ BadOrdinal ∷ NumberingFull ∷ []

found : (e : Refusal) → get_or by_number (number e) Bounds ≡ e
unfolding by_number
found Bounds = refl
found ScriptCut = refl
found UnknownTag = refl
found BadField = refl
found BadOrdinal = refl
found NumberingFull = refl
found Dangling = refl
found NotATable = refl
found NotASymbol = refl
found BadShape = refl
found NameTooLong = refl
found MalformedIdentifier = refl
found NamesFull = refl
found RecordsFull = refl
found SymbolRedefined = refl
found SymbolOpAlreadyInAnotherTable = refl
found InvalidInsertionPoint = refl
found InsertionPointNotInSameTable = refl
found SymbolOpNotInTableOp = refl
found AlreadyLinked = refl
found MarkNotLinked = refl
found NotLinked = refl
found FixedBody = refl
found WouldContainItself = refl
found GoesThroughTable = refl

pub distinct : DistinctNumbers
distinct e f same = sym (found e) ∙ ap (λ n. get_or by_number n Bounds) same ∙ found f

-- `==` tells whether two refusals are one
pub told : (e f : Refusal) → Decides (sameb the_type e f) (e ≡ f)
told e f = (same_true the_type (search rules) e f, true_same the_type e f)

-- so does comparing their numbers
pub compared : EqDecides
compared e f = Decides-like (eqb (number e) (number f)) (distinct e f) (ap number) (Decides-eqb (number e) (number f))

-- so both answer alike
pub as_numbers : (e f : Refusal) → sameb the_type e f ≡ eqb (number e) (number f)
as_numbers e f = same_from_decides (sameb the_type e f) (eqb (number e) (number f)) (told e f) (compared e f)
