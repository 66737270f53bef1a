-- Which bytes are a valid name. This rule stands here alone: all else cites `valid_name`.
use Rattle.std.specs.Prelude.{ℕ, Bool, true, false, ◌&&◌, ◌||◌, List, [], ◌∷◌, ◌==◌, nat_le}
use Rattle.std.specs.List.{list_all}
use Rattle.identifier.specs.declared.class.Class.{Class}
use Rattle.identifier.specs.declared.class.Class.TheVariants.{Stop, Head, Tail}

-- b lies between a and c, both included
abbrev pub between : ℕ → ℕ → ℕ → Bool
between a b c = nat_le a b && nat_le b c

-- a name may begin with this byte: a letter of ASCII, or the underscore
abbrev pub starts : ℕ → Bool
starts b = between 65 b 90 || (between 97 b 122 || b == 95)

-- a digit of ASCII
abbrev pub digit : ℕ → Bool
digit b = between 48 b 57

-- a name may go on with this byte
abbrev pub continues : ℕ → Bool
continues b = starts b || digit b

-- the class of a byte, by whether it may begin a name and whether it is a digit
abbrev pub pick : Bool → Bool → Class
pick true d = Head
pick false true = Tail
pick false false = Stop

-- the class of a byte
abbrev pub class_of : ℕ → Class
class_of b = pick (starts b) (digit b)

-- a valid name has a byte or more: the first may begin a name, and the name may go on with the others
abbrev pub valid_name : List ℕ → Bool
valid_name [] = false
valid_name (b ∷ bs) = starts b && list_all continues bs
