-- What the list of places has.
use Rattle.std.specs.Prelude.{◌↔◌, AllPairs, Contains}
use Rattle.xdg_problem.specs.declared.analysis.Edge.{Edge}
use Rattle.xdg_problem.specs.declared.parts.Parts.{Parts}
use Rattle.xdg_problem.specs.Places.{places}
use Rattle.xdg_problem.specs.Analyses.{Before, IsPlace}

-- exactly the edges that may stand, each before all later ones
pub record HasPlaces (parts : Parts) : Type 0 where
  pub order : AllPairs Before (places parts)
  pub exact : (e : Edge) → Contains (places parts) e ↔ IsPlace parts e
