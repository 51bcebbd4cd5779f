-- What a single search finds, and what is cut off.
use Rattle.std.specs.Prelude.{◌≡◌, ℕ, ◌≤◌, List, [], ◌++◌, length, map, take, Option, Some}
use Rattle.xdg_facts.specs.Answered.{Answered}
use Rattle.xdg_facts.specs.Endings.{IsBelow}
use Rattle.xdg_facts.specs.declared.Ending.{Ending}
use Rattle.xdg_facts.specs.declared.Ending.TheVariants as endings
use Rattle.xdg_problem.specs.declared.analysis.Analysis.{Analysis}
use Rattle.xdg_problem.specs.declared.parts.Parts.{Parts}
use Rattle.xdg_problem.specs.Vectors.{analysis_of, shape}
use Rattle.xdg_rules.specs.Boxed.{Boxed}
use Rattle.xdg_split.specs.Asked.{Asked}
use Rattle.xdg_split.specs.Splits.{IsSplit}

-- the analyses of the vectors that a search has answered from the beginning, when it ended so
pub record AreFound (parts : Parts) (budget : ℕ) (wanted : Option ℕ) (ending : Ending) (found : List Analysis) : Type 0 where
  pub vectors : List (List ℕ)
  pub answered : Answered ending (shape parts) (Boxed parts) [] budget wanted vectors
  pub found_are : found ≡ map (analysis_of parts) vectors

-- where as many as wanted are found, these; else all, with their ending
pub record IsCut (wanted : Option ℕ) (ending : Ending) (found : List Analysis) (new_ending : Ending) (new_found : List Analysis) : Type 0 where
  pub first : (n : ℕ) → wanted ≡ Some n → n ≤ length found → (new_ending ≡ endings.First) × (new_found ≡ take n found)
  pub all : IsBelow (length found) wanted → (new_ending ≡ ending) × (new_found ≡ found)

-- what jobs come to, and later ones behind them, is what all of them come to
abbrev pub Joins : Option ℕ → Ending → List Analysis → Ending → List Analysis → Ending → List Analysis → Type 0
Joins wanted e f later more ending found =
    (jobs others : List Asked) → IsSplit wanted jobs e f → IsSplit wanted others later more → IsSplit wanted (jobs ++ others) ending found
