-- What verdicts say.
use Rattle.std.specs.Prelude.{ℕ, List, take}
use Rattle.std.specs.List.{AllZip}
use Rattle.xdg_facts.specs.Order.{AtMost}
use Rattle.xdg_problem.specs.declared.analysis.Analysis.{Analysis}
use Rattle.xdg_problem.specs.declared.conditions.Condition.{Condition}
use Rattle.xdg_problem.specs.declared.conditions.Condition.TheVariants as conditions
use Rattle.xdg_problem.specs.declared.parts.Group.{Group}
use Rattle.xdg_problem.specs.declared.parts.Parts.{Parts}
use Rattle.xdg_problem.specs.Vectors.{entry_places}
use Rattle.xdg_problem.specs.Asking.{Asks}
use Rattle.xdg_problem.specs.Relations.{IsKept, Relation, Breaks, IsFirstBroken}
use Rattle.xdg_judge.specs.declared.verdict.Tuple4.{Tuple4}
use Rattle.xdg_judge.specs.declared.verdict.Verdict.{Verdict}
use Rattle.xdg_judge.specs.declared.verdict.Verdict.TheVariants as verdicts

-- the numbers of a tuple
abbrev pub tuple_of : Tuple4 → List ℕ
tuple_of tuple = take tuple.len tuple.items

-- a verdict on a principle use: it is kept where its relation holds, and else its first broken condition is named with
-- the least tuple that breaks it
abbrev pub IsVerdict : Parts → Analysis → Group → Verdict → Type 0
IsVerdict parts analysis group verdicts.Kept = Relation parts group analysis
IsVerdict parts analysis group (verdicts.Broken condition tuple) = IsFirstBroken parts group analysis condition (tuple_of tuple)

-- a verdict on each principle use, in their order
abbrev pub AreVerdicts : Parts → Analysis → List Group → List Verdict → Type 0
AreVerdicts parts analysis groups verdicts = AllZip (IsVerdict parts analysis) groups verdicts

-- what a condition asks of a tuple of the analysis
abbrev pub AsksHere : Parts → Group → Analysis → Condition → List ℕ → Type 0
AsksHere parts group analysis condition tuple = Asks condition parts group (entry_places parts.candidates analysis.entries) analysis.attrs analysis.edges tuple

-- a condition is kept by the analysis
abbrev pub IsKeptHere : Parts → Group → Analysis → Condition → Type 0
IsKeptHere parts group analysis condition = IsKept parts group (entry_places parts.candidates analysis.entries) analysis.attrs analysis.edges condition

-- a condition is asked of all decisions together, by the empty tuple
abbrev pub IsOfWhole : Condition → Type 0
IsOfWhole conditions.Rule = Unit {0}
IsOfWhole conditions.Bound = Unit {0}
IsOfWhole condition = ⊥

-- the least tuple that breaks a condition
pub record IsLeastBroken (parts : Parts) (group : Group) (analysis : Analysis) (condition : Condition) (tuple : List ℕ) : Type 0 where
  pub breaks : Breaks parts group analysis condition tuple
  pub least : (other : List ℕ) → Breaks parts group analysis condition other → AtMost tuple other
