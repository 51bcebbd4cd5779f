-- What a front of boxed prefixes is seen as, and what it keeps.
use Rattle.std.specs.Prelude.{◌≡◌, ℕ, ◌<◌, ◌≤◌, Bool, List, length}
use Rattle.xdg_problem.specs.declared.analysis.Edge.{Edge}
use Rattle.xdg_problem.specs.declared.parts.Parts.{Parts}
use Rattle.xdg_problem.specs.Places.{places}
use Rattle.xdg_problem.specs.Vectors.{shape}
use Rattle.xdg_stream.specs.Levels.{AreLevels}

-- the parts of the sentence, and the numbers of the prefix
pub record Fronted : Type 0 where
  pub parts : Parts
  pub numbers : List ℕ

-- the edge places are those of the sentence, there are boxes for the fronts of the prefix, and room for longer ones
pub record HasFront (parts : Parts) (history : List (List (List Bool))) (edge_places : List Edge) (marks numbers : List ℕ) (mark_room number_room : ℕ) : Type 0
  where
    pub listed : edge_places ≡ places parts
    pub levels : AreLevels parts history marks numbers
    pub for_numbers : length (shape parts) ≤ number_room
    pub for_marks : length (shape parts) < mark_room
