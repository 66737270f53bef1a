-- What the text of every identifier is.
use Rattle.std.proofs.Common.{◌≡◌, ◌≤◌, true, length, arith}
use Rattle.identifier.specs.declared.identifier.Identifier.{Identifier}
use Rattle.identifier.specs.Deciding.{text_length}
use Rattle.identifier.specs.Identifiers.{text}
use Rattle.identifier.specs.Names.{valid_name}

-- a text has at most 32 bytes
pub text_short : (a : Identifier) → length (text a) ≤ 32
text_short a = let long = text_length a in let within = a.within in omega arith

-- a text is a valid name
pub text_valid : (a : Identifier) → valid_name (text a) ≡ true
text_valid a = a.valid
