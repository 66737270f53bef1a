-- The number and the name of each refusal.
use Rattle.std.specs.Prelude.{◌≡◌, ℕ, List, Decides, codes, nat_eq}
use Rattle.std.specs.Ordering.{on}
use Rattle.result.specs.declared.refusal.Refusal.{Refusal}
use Rattle.result.specs.declared.refusal.Refusal.TheVariants.{Bounds, ScriptCut, UnknownTag, BadField, BadOrdinal, NumberingFull, Dangling, NotATable, NotASymbol, BadShape, NameTooLong, MalformedIdentifier, NamesFull, RecordsFull, SymbolRedefined, SymbolOpAlreadyInAnotherTable, InvalidInsertionPoint, InsertionPointNotInSameTable, SymbolOpNotInTableOp, AlreadyLinked, MarkNotLinked, NotLinked, FixedBody, WouldContainItself, GoesThroughTable}

-- the number of the refusal's row
abbrev pub number : Refusal → ℕ
number Bounds = 20
number ScriptCut = 21
number UnknownTag = 22
number BadField = 23
number BadOrdinal = 24
number NumberingFull = 25
number Dangling = 1
number NotATable = 2
number NotASymbol = 3
number BadShape = 4
number NameTooLong = 5
number MalformedIdentifier = 6
number NamesFull = 7
number RecordsFull = 8
number SymbolRedefined = 9
number SymbolOpAlreadyInAnotherTable = 10
number InvalidInsertionPoint = 11
number InsertionPointNotInSameTable = 12
number SymbolOpNotInTableOp = 13
number AlreadyLinked = 14
number MarkNotLinked = 15
number NotLinked = 16
number FixedBody = 17
number WouldContainItself = 18
number GoesThroughTable = 19

-- the refusal's name, as it is printed
abbrev pub name : Refusal → List ℕ
name Bounds = codes "Bounds"
name ScriptCut = codes "ScriptCut"
name UnknownTag = codes "UnknownTag"
name BadField = codes "BadField"
name BadOrdinal = codes "BadOrdinal"
name NumberingFull = codes "NumberingFull"
name Dangling = codes "Dangling"
name NotATable = codes "NotATable"
name NotASymbol = codes "NotASymbol"
name BadShape = codes "BadShape"
name NameTooLong = codes "NameTooLong"
name MalformedIdentifier = codes "MalformedIdentifier"
name NamesFull = codes "NamesFull"
name RecordsFull = codes "RecordsFull"
name SymbolRedefined = codes "SymbolRedefined"
name SymbolOpAlreadyInAnotherTable = codes "SymbolOpAlreadyInAnotherTable"
name InvalidInsertionPoint = codes "InvalidInsertionPoint"
name InsertionPointNotInSameTable = codes "InsertionPointNotInSameTable"
name SymbolOpNotInTableOp = codes "SymbolOpNotInTableOp"
name AlreadyLinked = codes "AlreadyLinked"
name MarkNotLinked = codes "MarkNotLinked"
name NotLinked = codes "NotLinked"
name FixedBody = codes "FixedBody"
name WouldContainItself = codes "WouldContainItself"
name GoesThroughTable = codes "GoesThroughTable"

-- refusals that have one number are one refusal
abbrev pub DistinctNumbers : Type 0
DistinctNumbers = (e f : Refusal) → number e ≡ number f → e ≡ f

-- comparing their numbers tells whether two refusals are one
abbrev pub EqDecides : Type 0
EqDecides = (a b : Refusal) → Decides (on number nat_eq a b) (a ≡ b)
