-- Where the numbers of a list fall, and where they can be turned to the next arrangement.
use Rattle.std.specs.Prelude.{ℕ, ◌+◌, ◌<◌, ◌≤◌, List, [], ◌∷◌, drop, length, slice_index}
use Rattle.std.specs.List.{AllByRecursion}

-- no number is greater than one before it
abbrev pub Falls : List ℕ → Type 0
Falls [] = Unit {0}
Falls (x ∷ xs) = AllByRecursion (λ y. y ≤ x) xs × Falls xs

-- the number at the place is smaller than the next one, and behind it the numbers fall
pub record IsPivot (numbers : List ℕ) (pivot : ℕ) : Type 0 where
  pub within : pivot + 1 < length numbers
  pub rises : slice_index numbers pivot < slice_index numbers (pivot + 1)
  pub falls : Falls (drop (pivot + 1) numbers)

-- the last place behind the pivot whose number is greater than that at the pivot
pub record IsSuccessor (numbers : List ℕ) (pivot successor : ℕ) : Type 0 where
  pub behind : pivot < successor
  pub within : successor < length numbers
  pub greater : slice_index numbers pivot < slice_index numbers successor
  pub last : (k : ℕ) → successor < k → k < length numbers → slice_index numbers k ≤ slice_index numbers pivot
