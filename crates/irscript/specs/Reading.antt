-- Which script is read.
use Rattle.std.specs.Prelude.{◌≡◌, ℕ, ◌≤◌, Bool, true, false, List, [], length, Ok}
use Rattle.hexadecimal.specs.Texts.{after, decoded}

-- how many bytes are read at most, of a hexadecimal text and of a script: one more than it may have
abbrev pub most_read : Bool → ℕ
most_read true = 1048577
most_read false = 4097

-- the script is what the bytes that were read are, or mean in hexadecimal, of which there are at most 1,048,576
abbrev pub ScriptIn : Bool → List ℕ → List ℕ → Type 0
ScriptIn true text script = (length text ≤ 1048576) × (after [] (decoded text) ≡ Ok script)
ScriptIn false bytes script = script ≡ bytes
