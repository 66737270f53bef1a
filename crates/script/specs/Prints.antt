-- The line that tells the answer to a field, and what is written into a lent buffer.
use Rattle.std.specs.Prelude.{◌≡◌, ℕ, ◌+◌, ◌≤◌, List, [], ◌∷◌, ◌++◌, map, length, take, drop, codes, decimal}
use Rattle.std.specs.List.{flat_map}
use Rattle.result.specs.declared.refusal.Refusal.{Refusal}
use Rattle.result.specs.Refusals.{number}
use Rattle.script.specs.declared.node.Node.{Node}
use Rattle.script.specs.declared.node.Node.TheVariants.{Operation, Block, Region}
use Rattle.script.specs.declared.node.Close.{Close}
use Rattle.script.specs.declared.node.Close.TheVariants.{Nothing, Absent, End, Break}

-- what a line tells: a refusal, or the nodes made or shown and what closes the line
pub data Answer : Type 0 where
  refused : Refusal → Answer
  done : List Node → Close → Answer

-- a letter for the kind, and the number
abbrev pub node_word : Node → List ℕ
node_word (Operation n) = codes "o" ++ decimal n
node_word (Block n) = codes "b" ++ decimal n
node_word (Region n) = codes "r" ++ decimal n

-- the word that closes a line, if any
abbrev pub close_words : Close → List (List ℕ)
close_words Nothing = []
close_words Absent = codes "none" ∷ []
close_words End = codes "end" ∷ []
close_words Break = codes "break" ∷ []

-- the words of the line for the field at a place
abbrev pub line_words : ℕ → Answer → List (List ℕ)
line_words place (refused e) = decimal place ∷ codes "refused" ∷ decimal (number e) ∷ []
line_words place (done nodes close) = decimal place ∷ codes "ok" ∷ (map node_word nodes ++ close_words close)

-- each word with a space before it
abbrev pub spaced : List (List ℕ) → List ℕ
spaced words = flat_map (λ w. 32 ∷ w) words

-- the words parted by single spaces
abbrev pub parted : List (List ℕ) → List ℕ
parted [] = []
parted (w ∷ ws) = w ++ spaced ws

-- the whole line: its words, then a line feed
abbrev pub line_bytes : ℕ → Answer → List ℕ
line_bytes place answer = parted (line_words place answer) ++ (10 ∷ [])

-- the line stands at the buffer's start, and what lay beyond it stays
pub record Lined (before : List ℕ) (place : ℕ) (answer : Answer) (size : ℕ) (after : List ℕ) : Type 0 where
  pub len : size ≡ length (line_bytes place answer)
  pub bytes : after ≡ line_bytes place answer ++ drop size before

-- bs stands from the place at to the place next; what stood before it and beyond it stays, and so does the buffer's size
pub record Printed (before : List ℕ) (at : ℕ) (bs : List ℕ) (after : List ℕ) (next : ℕ) : Type 0 where
  pub place : next ≡ at + length bs
  pub front : take next after ≡ take at before ++ bs
  pub beyond : (k : ℕ) → next ≤ k → drop k after ≡ drop k before
  pub size : length after ≡ length before
