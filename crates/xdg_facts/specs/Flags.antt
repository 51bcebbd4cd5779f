-- Lists of truth values as flags.
use Rattle.std.specs.Prelude.{ℕ, ◌+◌, Bool, true, false, List, [], ◌∷◌}

-- how many flags are set
abbrev pub count_set : List Bool → ℕ
count_set [] = 0
count_set (true ∷ flags) = 1 + count_set flags
count_set (false ∷ flags) = count_set flags
