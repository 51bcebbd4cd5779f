-- What a store is seen as.
use Rattle.std.specs.Prelude.{◌≡◌, ℕ, ◌<◌, ◌≤◌, ◌+◌, ◌-◌, ◌*◌, Bool, List, [], ◌∷◌, ◌++◌, length, sum, slice_index_or}
use Rattle.xdg_problem.specs.declared.parts.Parts.{Parts}
use Rattle.xdg_problem.specs.Boxes.{IsBox}
use Rattle.xdg_problem.specs.Problems.{IsProblem}
use Rattle.xdg_problem.specs.Vectors.{shape}
use Rattle.xdg_trail.specs.Trailed.{Trailed, past}
use Rattle.xdg_store.specs.Layout.{bit_count, bits_of, box_in}
use Rattle.xdg_facts.specs.Flags.{count_set}

-- the parts of the problem, the present box, all boxes up to it, the oldest first, and the number of turns
pub record State : Type 0 where
  pub parts : Parts
  pub now : List (List Bool)
  pub history : List (List (List Bool))
  pub turns : ℕ

-- what is known of each store
pub record Known (s : State) : Type 0 where
  pub problem : IsProblem s.parts
  pub is_box : IsBox (shape s.parts) s.now
  pub some : 0 < length s.history
  pub last : slice_index_or s.history (length s.history - 1) [] ≡ s.now

-- how many values remain
abbrev pub remaining : List (List Bool) → ℕ
remaining [] = 0
remaining (row ∷ box) = count_set row + remaining box

-- the boxes of the words that stood, the oldest first; the words come newest first
abbrev pub oldest : List (List ℕ) → List (List ℕ) → List (List (List Bool))
oldest bits [] = []
oldest bits (words ∷ before) = oldest bits before ++ (box_in bits words ∷ [])

-- each state is a box, and each further state has lost one value at least
abbrev pub Sound : List ℕ → ℕ → List (List ℕ) → List (List ℕ) → Type 0
Sound sizes total bits [] = Unit {0}
Sound sizes total bits (words ∷ before) =
    (remaining (box_in bits words) + length before ≤ total) × IsBox sizes (box_in bits words) × Sound sizes total bits before

-- what a store keeps of its trail: it has a word for each bit, room for each value that can still be removed, and each
-- earlier time of it says a box
pub record Keeps (parts : Parts) (t : Trailed) : Type 0 where
  pub problem : IsProblem parts
  pub long : bit_count parts ≤ 64 * length t.words
  pub spare : sum (shape parts) ≤ t.spare + length t.records + length (shape parts)
  pub sound : Sound (shape parts) (sum (shape parts)) (bits_of parts) (past t)
