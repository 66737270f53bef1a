-- What a byte of a text is.
use Rattle.std.specs.Prelude.{ℕ, ◌-◌, ◌<◌, Bool, cond, ◌&&◌, ◌||◌, ◌==◌, nat_le}
use Rattle.hexadecimal.specs.declared.class.Class.{Class}
use Rattle.hexadecimal.specs.declared.class.Class.TheVariants.{Parting, Hash, Digit, Other}

-- a space, a tab, a carriage return, a line feed or a comma
abbrev pub parts : ℕ → Bool
parts c = c == 32 || (c == 9 || (c == 13 || (c == 10 || c == 44)))

-- the bytes from one to another
abbrev pub among : ℕ → ℕ → ℕ → Bool
among low high c = nat_le low c && nat_le c high

-- the class of a byte: 35 is #, 48 to 57 are the digits, 65 to 70 the letters A to F, and 97 to 102 a to f
abbrev pub class_of : ℕ → Class
class_of c =
    cond (parts c) Parting
    (cond (c == 35) Hash
    (cond (among 48 57 c) (Digit (c - 48))
    (cond (among 65 70 c) (Digit (c - 55))
    (cond (among 97 102 c) (Digit (c - 87)) Other))))

-- the value of a digit is below 16
abbrev pub Valued : Class → Type 0
Valued Parting = Unit {0}
Valued Hash = Unit {0}
Valued (Digit d) = d < 16
Valued Other = Unit {0}

-- what a byte leads to, by its class: one thing for each class, which for a digit may rest on its value
abbrev pub by_class : {X : Type 0} → X → X → (ℕ → X) → X → Class → X
by_class parting hash digit other Parting = parting
by_class parting hash digit other Hash = hash
by_class parting hash digit other (Digit d) = digit d
by_class parting hash digit other Other = other
