-- The tests of a principle use on the edges of a whole vector.
use Rattle.std.specs.Prelude.{ℕ, List, map, filter, slice_index}
use Rattle.xdg_problem.specs.declared.analysis.Edge.{Edge}
use Rattle.xdg_problem.specs.declared.parts.Group.{Group}
use Rattle.xdg_problem.specs.declared.parts.Parts.{Parts}
use Rattle.xdg_problem.specs.Places.{nodes}
use Rattle.xdg_problem.specs.Tests.{Test, looks_at, entry_node, test_attrs, Passes}
use Rattle.xdg_problem.specs.Live.{entry_in}

-- a test passes, at entries by their places among the candidates, values of attributes and edges
abbrev pub PassesAt : Parts → Group → List ℕ → List ℕ → List Edge → Test → Type 0
PassesAt parts group candidates attrs edges test = Passes (nodes parts) group test (entry_in (entry_node test) candidates) (map (slice_index attrs) (test_attrs parts group test)) (filter (looks_at group test) edges)
