-- What running a whole script prints.
use Rattle.std.specs.Prelude.{ℕ, ◌≤◌, List, [], ◌++◌, length, take}
use Rattle.script.specs.declared.line.Line.TheVariants.{Printed}
use Rattle.script.specs.declared.state.State.{State}
use Rattle.script.specs.Runs.{Ran}
use Rattle.script.specs.Sessions.{Started}

-- A fresh session ran the fields of the script from its start up to a place, each line call going on where the one before said; the
-- bytes are what these calls printed, one after another.
pub data Lines (script : List ℕ) : State → ℕ → List ℕ → Type 0 where
  none : {s : State} → Started s → Lines script s 0 []
  more : {s t : State} {place size next : ℕ} {bytes out out' : List ℕ} → Lines script s place bytes → Ran s script place out (Printed size next) t out'
      → Lines script t next (bytes ++ take size out')

-- the bytes are the lines of the whole script, which has at most 4,096 bytes
pub record Transcript (script bytes : List ℕ) : Type 0 where
  pub state : State
  pub lines : Lines script state (length script) bytes
  pub few : length script ≤ 4096
