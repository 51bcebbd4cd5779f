-- What a box on which a propagator is still has decided, where no decision is open.
use Rattle.std.specs.Prelude.{ℕ, Bool, List}
use Rattle.xdg_problem.specs.declared.parts.Parts.{Parts}
use Rattle.xdg_problem.specs.Boxes.{IsBox, IsSingle}
use Rattle.xdg_problem.specs.Problems.{IsProblem}
use Rattle.xdg_problem.specs.Vectors.{shape, analysis_of}
use Rattle.xdg_rules.specs.Boxed.{first_numbers}
use Rattle.xdg_propcore.specs.Uses.{Satisfies}

-- where all values of a box on which the propagator is still are single, their analysis satisfies each principle use for which
-- the propagator stands
abbrev pub Decides : (Parts → ℕ → Type 0) → (Parts → List (List Bool) → Type 0) → Type 0
Decides stands still =
    (parts : Parts) (box : List (List Bool)) → IsProblem parts → IsBox (shape parts) box → IsSingle box → still parts box
    → Satisfies stands parts (analysis_of parts (first_numbers box))
