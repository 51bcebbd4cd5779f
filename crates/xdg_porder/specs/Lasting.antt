-- Edges that may be still.
use Rattle.std.specs.Prelude.{◌≢◌, ◌⊎◌, ℕ, Bool, List}
use Rattle.xdg_problem.specs.declared.parts.Parts.{Parts}
use Rattle.xdg_problem.specs.Boxes.{May}
use Rattle.xdg_store.specs.declared.decision.Decision.{Decision}
use Rattle.xdg_store.specs.declared.decision.Decision.TheVariants as decisions

-- the decision is none on an edge of the dimension, or the edge may be
abbrev pub MayOn : Parts → List (List Bool) → ℕ → Decision → Type 0
MayOn parts box dim (decisions.Entry node) = Unit {0}
MayOn parts box dim (decisions.Attr d node attr) = Unit {0}
MayOn parts box dim (decisions.Place e) = (e.dim.0 ≢ dim) ⊎ May parts box e
