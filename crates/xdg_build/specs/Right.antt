-- Formulas with which nothing is wrong.
use Rattle.std.specs.Prelude.{◌≡◌, ℕ, List, []}
use Rattle.xdg_types.specs.declared.table.DimType.{DimType}
use Rattle.xdg_formula.specs.Formulas.{faults_in}
use Rattle.xdg_formula.specs.Written.{Tree}

-- nothing is wrong with a formula where these names are bound, at the place where it stands
abbrev pub IsRight : List DimType → List (List ℕ) → Tree → Type 0
IsRight dims scope t = (place : ℕ) × (faults_in dims scope place t ≡ [])
