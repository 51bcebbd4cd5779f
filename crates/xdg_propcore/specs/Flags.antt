-- Flags as bits of words.
use Rattle.std.specs.Prelude.{◌≡◌, ℕ, ◌+◌, ◌*◌, ◌^◌, ◌<◌, ◌≤◌, Bool, true, false, List, length, map, slice_index_or}
use Rattle.xdg_problem.specs.Places.{below}
use Rattle.xdg_store.specs.Layout.{is_set}

-- the flag at a place is set
abbrev pub IsOn : List Bool → ℕ → Type 0
IsOn flags place = slice_index_or flags place false ≡ true

-- the first bits of the words as flags
unfoldable pub flags_of : List ℕ → ℕ → List Bool
flags_of words count = map (is_set words) (below count)

-- the words have a bit for each flag, and no other bit is set
pub record HoldsFlags (words : List ℕ) (count : ℕ) : Type 0 where
  pub small : count < 2 ^ 64
  pub room : count ≤ 64 * length words
  pub tight : 64 * length words ≤ count + 64
  pub none : (bit : ℕ) → is_set words bit ≡ true → bit < count
