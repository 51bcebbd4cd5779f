-- Problems with further principle uses: rules, or a bound on costs.
use Rattle.std.specs.Prelude.{◌≡◌, ◌↔◌, ℕ, List, [], ◌∷◌, ◌++◌, map}
use Rattle.xdg_base.specs.declared.ids.EntryNo.{EntryNo}
use Rattle.xdg_problem.specs.declared.analysis.Analysis.{Analysis}
use Rattle.xdg_problem.specs.declared.formula.Formula.{Formula}
use Rattle.xdg_problem.specs.declared.parts.Feat.{Feat}
use Rattle.xdg_problem.specs.declared.parts.Group.{Group}
use Rattle.xdg_problem.specs.declared.parts.Parts.{Parts}
use Rattle.xdg_problem.specs.declared.parts.Principle.{Principle}
use Rattle.xdg_problem.specs.declared.parts.Principle.TheVariants as principles
use Rattle.xdg_problem.specs.Analyses.{IsAnalysis}
use Rattle.xdg_problem.specs.Costs.{CostLists}
use Rattle.xdg_problem.specs.Problems.{IsProblem}
use Rattle.xdg_problem.specs.Solutions.{IsSolution}
use Rattle.xdg_problem.specs.Vectors.{vector}

-- no features for each candidate of each node
abbrev pub no_features : List (List EntryNo) → List (List (List Feat))
no_features candidates = map (λ entries. map (λ entry. []) entries) candidates

-- a principle use that takes nothing but features, and these
abbrev pub bare_use : List (List (List Feat)) → Principle → Group
bare_use feats principle = record { principle = principle; dims = []; attrs = []; order = []; truths = []; feats = feats }

-- the use of a rule or a bound
abbrev pub use_of : Parts → Principle → Group
use_of parts principle = bare_use (no_features parts.candidates) principle

-- a rule for each formula
abbrev pub rules_of : Parts → List Formula → List Group
rules_of parts formulas = map (λ formula. use_of parts (principles.Rule formula)) formulas

-- a bound
abbrev pub bound_of : Parts → CostLists → ℕ → List Group
bound_of parts costs bound = use_of parts (principles.Bound costs bound) ∷ []

-- the parts with further uses behind their own
abbrev pub with_uses : Parts → List Group → Parts
with_uses parts uses = record parts { groups = parts.groups ++ uses }

-- What a problem keeps with further uses: analyses and their order are the same, and a solution is one of the problem without them
-- of which they ask something more.
pub record FurtherLaws (parts : Parts) (uses : List Group) (More : Analysis → Type 0) : Type 0 where
  pub problem : IsProblem (with_uses parts uses)
  pub fits : (analysis : Analysis) → IsAnalysis (with_uses parts uses) analysis ↔ IsAnalysis parts analysis
  pub vectors : (analysis : Analysis) → vector (with_uses parts uses) analysis ≡ vector parts analysis
  pub solutions : (analysis : Analysis) → IsSolution (with_uses parts uses) analysis ↔ (IsSolution parts analysis × More analysis)
