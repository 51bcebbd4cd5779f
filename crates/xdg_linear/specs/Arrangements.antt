-- What an arrangement is, and which comes next.
use Rattle.std.specs.Prelude.{◌≡◌, ℕ, ◌+◌, ◌==◌, cond, List, [], ◌∷◌, length, Option, Some, None}
use Rattle.xdg_facts.specs.Order.{Less, AtMost}

-- how often a number stands in a list
abbrev pub times : ℕ → List ℕ → ℕ
times n [] = 0
times n (x ∷ xs) = cond (x == n) 1 0 + times n xs

-- the numbers have each rank as often as the ranks of the words have it, and so there are as many
pub record IsArrangement (ranks numbers : List ℕ) : Type 0 where
  pub size : length numbers ≡ length ranks
  pub each : (n : ℕ) → times n numbers ≡ times n ranks

-- the numbers come after the present arrangement; where none is present yet, all do
abbrev pub IsAfter : Option (List ℕ) → List ℕ → Type 0
IsAfter None numbers = Unit {0}
IsAfter (Some present) numbers = Less present numbers

-- the least arrangement that comes after the present one
pub record IsNext (ranks : List ℕ) (present : Option (List ℕ)) (numbers : List ℕ) : Type 0 where
  pub arrangement : IsArrangement ranks numbers
  pub after : IsAfter present numbers
  pub least : (other : List ℕ) → IsArrangement ranks other → IsAfter present other → AtMost numbers other

-- no arrangement comes after the present one
abbrev pub IsLast : List ℕ → Option (List ℕ) → Type 0
IsLast ranks present = (other : List ℕ) → IsArrangement ranks other → IsAfter present other → ⊥
