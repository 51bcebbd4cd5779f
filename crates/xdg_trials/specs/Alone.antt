-- A sentence of one word on a dimension without labels and attributes, whose only principle use is graph.
use Rattle.std.specs.Prelude.{◌≡◌, ℕ, true, List, [], ◌∷◌, None, codes}
use Rattle.xdg_problem.specs.declared.parts.DimPlan.{DimPlan}
use Rattle.xdg_problem.specs.declared.parts.Group.{Group}
use Rattle.xdg_problem.specs.declared.parts.Parts.{Parts}
use Rattle.xdg_problem.specs.declared.parts.Principle.TheVariants as principles
use Rattle.xdg_propcore.specs.Uses.{use_at}
use Rattle.xdg_split.specs.Asked.{Asked, asked}

abbrev pub plan : DimPlan
plan = record { name = codes "id"; labels = []; attrs = []; graph = true }

abbrev pub graph_use : Group
graph_use = record { principle = principles.Graph; dims = record { 0 = 0 } ∷ []; attrs = []; order = []; truths = []; feats = ([] ∷ []) ∷ [] }

abbrev pub alone : Parts
alone = record {
  words = record { text = codes "a"; at = 0 } ∷ [];
  candidates = (record { 0 = 3 } ∷ []) ∷ [];
  dims = plan ∷ [];
  groups = graph_use ∷ [];
}

-- all analyses of it, within ten boxed prefixes
abbrev pub job : Asked
job = asked alone 10 None

-- the same asked twice
abbrev pub pair : List Asked
pair = job ∷ job ∷ []

-- a principle use is one of graph
abbrev pub IsGraph : Parts → ℕ → Type 0
IsGraph parts number = (use_at parts number).principle ≡ principles.Graph
