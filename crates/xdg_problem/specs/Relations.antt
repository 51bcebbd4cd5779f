-- What each principle use asks of an analysis.
use Rattle.std.specs.Prelude.{◌≡◌, ℕ, ◌<◌, List, length, slice_index_or, All}
use Rattle.xdg_facts.specs.Order.{AtMost}
use Rattle.xdg_problem.specs.declared.analysis.Analysis.{Analysis}
use Rattle.xdg_problem.specs.declared.analysis.Edge.{Edge}
use Rattle.xdg_problem.specs.declared.conditions.Condition.{Condition}
use Rattle.xdg_problem.specs.declared.parts.Group.{Group}
use Rattle.xdg_problem.specs.declared.parts.Parts.{Parts}
use Rattle.xdg_problem.specs.Vectors.{entry_places}
use Rattle.xdg_problem.specs.Conditions.{conditions_of, IsTuple}
use Rattle.xdg_problem.specs.Asking.{Asks, AsksWhole}

-- a condition holds: what it asks holds of each tuple in its range
abbrev pub IsKept : Parts → Group → List ℕ → List ℕ → List Edge → Condition → Type 0
IsKept parts group candidates attrs edges condition =
    (tuple : List ℕ) → IsTuple condition parts group edges tuple → Asks condition parts group candidates attrs edges tuple

-- an analysis satisfies one use of a principle: each of its conditions holds
abbrev pub Relation : Parts → Group → Analysis → Type 0
Relation parts group analysis = All (IsKept parts group (entry_places parts.candidates analysis.entries) analysis.attrs analysis.edges) (conditions_of group)

-- what a use of a principle asks of all decisions together holds of an analysis: of a rule or a bound its relation, of others nothing
abbrev pub IsKeptWhole : Parts → Group → Analysis → Type 0
IsKeptWhole parts group analysis = AsksWhole group.principle parts (entry_places parts.candidates analysis.entries) analysis.attrs analysis.edges

-- a tuple in the range of a condition breaks it
pub record Breaks (parts : Parts) (group : Group) (analysis : Analysis) (condition : Condition) (tuple : List ℕ) : Type 0 where
  pub within : IsTuple condition parts group analysis.edges tuple
  pub fails : Asks condition parts group (entry_places parts.candidates analysis.entries) analysis.attrs analysis.edges tuple → ⊥

-- What a verdict names: the first condition of the principle use that is broken, and the least tuple that breaks it,
-- compared item by item.
pub record IsFirstBroken (parts : Parts) (group : Group) (analysis : Analysis) (condition : Condition) (tuple : List ℕ) : Type 0 where
  pub place : ℕ
  pub within : place < length (conditions_of group)
  pub is : slice_index_or (conditions_of group) place condition ≡ condition
  pub before : (earlier : ℕ) → earlier < place
      → IsKept parts group (entry_places parts.candidates analysis.entries) analysis.attrs analysis.edges
      (slice_index_or (conditions_of group) earlier condition)
  pub breaks : Breaks parts group analysis condition tuple
  pub least : (other : List ℕ) → Breaks parts group analysis condition other → AtMost tuple other
