-- Numbers of decisions that have one value left in a box.
use Rattle.std.specs.Prelude.{◌≡◌, ℕ, ◌+◌, ◌≤◌, Bool, List, [], ◌∷◌, ◌++◌, length, map}
use Rattle.xdg_problem.specs.Boxes.{Has, IsOnly}

-- the value v of the decision d remains, and no other
pub record IsAlone (box : List (List Bool)) (d v : ℕ) : Type 0 where
  pub has : Has box d v
  pub only : IsOnly box d v

-- these are the numbers of the decisions from d on that have one value left
abbrev pub AreAlone : List (List Bool) → ℕ → List ℕ → Type 0
AreAlone box d [] = Unit {0}
AreAlone box d (v ∷ rest) = IsAlone box d v × AreAlone box (d + 1) rest

-- n numbers that remain alone behind a prefix were added to it, no more than were asked for, and the same mark for each
pub record Adds (box : List (List Bool)) (mark : ℕ) (old_marks old_numbers marks numbers : List ℕ) (most n : ℕ) : Type 0 where
  pub added : List ℕ
  pub numbers_are : numbers ≡ old_numbers ++ added
  pub marks_are : marks ≡ old_marks ++ map (λ _. mark) added
  pub count : length added ≡ n
  pub within : n ≤ most
  pub alone : AreAlone box (length old_numbers) added
