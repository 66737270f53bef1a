-- What is written for a script.
use Rattle.std.specs.Prelude.{ℕ, List, Option}
use Rattle.std.specs.Io.KnownBytes.{Appends}
use Rattle.script.specs.Transcripts.{Transcript}

-- the lines of the whole script, and nothing else, are put behind what a writer holds
abbrev pub PrintsLines : List ℕ → Option (List ℕ) → Option (List ℕ) → Type 0
PrintsLines script old new = (bytes : List ℕ) × Transcript script bytes × Appends old new bytes
