-- The edges with a label out of a mother, as they are read at once.
use Rattle.std.specs.Prelude.{◌≡◌, ◌↔◌, ◌⊎◌, ℕ, Bool, List, IsTrue}
use Rattle.xdg_problem.specs.declared.analysis.Edge.{Edge}
use Rattle.xdg_problem.specs.declared.parts.Parts.{Parts}
use Rattle.xdg_problem.specs.Analyses.{IsPlace}
use Rattle.xdg_problem.specs.Boxes.{May, Must}
use Rattle.xdg_stream.specs.declared.row.Row.{Row}
use Rattle.xdg_facts.specs.Rises.{has}

-- the edge is in the row
pub record IsOf (row : Row) (e : Edge) : Type 0 where
  pub dim : row.dim.0 ≡ e.dim.0
  pub mother : row.mother.0 ≡ e.mother.0
  pub label : row.label.0 ≡ e.label.0

-- of each edge in it the row says whether it may be present, and whether it must
abbrev pub Reads : Parts → List (List Bool) → Row → Type 0
Reads parts box row = (e : Edge) → IsPlace parts e → IsOf row e
    → (IsTrue (has row.may e.daughter.0) ↔ May parts box e) × (IsTrue (has row.must e.daughter.0) ↔ Must parts box e)

-- the row says that the edge to a node must be present, or that it may not be
abbrev pub Says : Row → ℕ → ℕ → Type 0
Says row node value = ((value ≡ 0) × IsTrue (has row.must node)) ⊎ ((value ≡ 1) × (IsTrue (has row.may node) → ⊥))

-- the edge is in the row, and may not be present
abbrev pub IsAbsent : Row → Edge → Type 0
IsAbsent row e = IsOf row e × (IsTrue (has row.may e.daughter.0) → ⊥)
