use Rattle.std.proofs.Common.{◌≡◌, ◌^◌, ◌<◌, take, fold}
use Rattle.identifier.specs.Identifiers.{text, fnv_step}
use Rattle.identifier.proofs.key.IdentifierKey.hash.Given as goal

abbrev pub invariant-loop-b : goal.invariant-loop-b
invariant-loop-b l = (l.h ≡ fold fnv_step 2166136261 (take l.b-index (text l.self))) × (l.h < 2 ^ 32)
