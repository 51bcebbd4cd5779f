-- Decisions, named by what is decided.
use Rattle.std.specs.Prelude.{ℕ, ◌<◌, length}
use Rattle.xdg_problem.specs.declared.parts.Parts.{Parts}
use Rattle.xdg_problem.specs.Analyses.{IsPlace}
use Rattle.xdg_problem.specs.Arguments.{attr_count}
use Rattle.xdg_problem.specs.Boxes.{entry_decision, attr_decision, edge_decision}
use Rattle.xdg_problem.specs.Places.{nodes}
use Rattle.xdg_store.specs.declared.decision.Decision.{Decision}
use Rattle.xdg_store.specs.declared.decision.Decision.TheVariants as decisions

-- the decision is one on the sentence
abbrev pub IsDecision : Parts → Decision → Type 0
IsDecision parts (decisions.Entry node) = node.0 < nodes parts
IsDecision parts (decisions.Attr dim node attr) = (dim.0 < length parts.dims) × (node.0 < nodes parts) × (attr.0 < attr_count parts dim.0)
IsDecision parts (decisions.Place edge) = IsPlace parts edge

-- its number
abbrev pub number_of : Parts → Decision → ℕ
number_of parts (decisions.Entry node) = entry_decision node.0
number_of parts (decisions.Attr dim node attr) = attr_decision parts dim.0 node.0 attr.0
number_of parts (decisions.Place edge) = edge_decision parts edge
