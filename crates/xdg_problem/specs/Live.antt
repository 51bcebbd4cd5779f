-- Which prefixes of a vector are live: each test whose decisions all stand in the prefix holds, and where all decisions stand in it
-- the rules are true and the bounds are kept.
use Rattle.std.specs.Prelude.{◌≡◌, ℕ, ◌<◌, ◌≤◌, ◌+◌, ◌-◌, List, length, map, filter, drop, false, slice_index, Option, Some, None, All}
use Rattle.xdg_problem.specs.declared.analysis.Edge.{Edge}
use Rattle.xdg_problem.specs.declared.parts.Group.{Group}
use Rattle.xdg_problem.specs.declared.parts.Parts.{Parts}
use Rattle.xdg_problem.specs.Places.{nodes, places}
use Rattle.xdg_problem.specs.Vectors.{shape, first_place, edges_in, analysis_of}
use Rattle.xdg_problem.specs.Relations.{IsKeptWhole}
use Rattle.xdg_problem.specs.Tests.{Test, IsTest, looks_at, entry_node, test_attrs, Passes}

-- the edge places that a prefix leaves open
abbrev pub open_places : Parts → List ℕ → List Edge
open_places parts prefix = drop (length prefix - first_place parts) (places parts)

abbrev pub EntryStands : Option ℕ → List ℕ → Type 0
EntryStands None prefix = Unit {0}
EntryStands (Some node) prefix = node < length prefix

abbrev pub entry_in : Option ℕ → List ℕ → ℕ
entry_in None prefix = 0
entry_in (Some node) prefix = slice_index prefix node

-- the value of an attribute stands in the prefix, behind the entries
abbrev pub AttrStands : Parts → List ℕ → ℕ → Type 0
AttrStands parts prefix place = length parts.candidates + place < length prefix

abbrev pub attr_in : Parts → List ℕ → ℕ → ℕ
attr_in parts prefix place = slice_index prefix (length parts.candidates + place)

-- the decisions that a test looks at all stand in the prefix
pub record Stands (parts : Parts) (group : Group) (test : Test) (prefix : List ℕ) : Type 0 where
  pub entry : EntryStands (entry_node test) prefix
  pub attrs : All (AttrStands parts prefix) (test_attrs parts group test)
  pub edges : All (λ place. looks_at group test place ≡ false) (open_places parts prefix)

-- the test holds of the decisions in the prefix
abbrev pub Holds : Parts → Group → Test → List ℕ → Type 0
Holds parts group test prefix =
    Passes (nodes parts) group test (entry_in (entry_node test) prefix) (map (attr_in parts prefix) (test_attrs parts group test))
    (filter (looks_at group test) (edges_in parts prefix))

-- a prefix is live for a principle use
pub record IsLiveFor (parts : Parts) (group : Group) (prefix : List ℕ) : Type 0 where
  pub tests : (test : Test) → IsTest parts group test → Stands parts group test prefix → Holds parts group test prefix
  pub whole : length (shape parts) ≤ length prefix → IsKeptWhole parts group (analysis_of parts prefix)

abbrev pub Live : Parts → List ℕ → Type 0
Live parts prefix = All (λ group. IsLiveFor parts group prefix) parts.groups
