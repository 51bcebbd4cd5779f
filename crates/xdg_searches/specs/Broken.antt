-- Which analyses a judge finds broken.
use Rattle.std.specs.Prelude.{◌≡◌, ◌+◌, ℕ, Bool, true, false, cond, List, [], ◌∷◌}
use Rattle.std.specs.List.{list_any}
use Rattle.xdg_judge.specs.declared.verdict.Verdict.{Verdict}
use Rattle.xdg_judge.specs.declared.verdict.Verdict.TheVariants as verdicts
use Rattle.xdg_judge.specs.Verdicts.{AreVerdicts}
use Rattle.xdg_problem.specs.declared.analysis.Analysis.{Analysis}
use Rattle.xdg_problem.specs.declared.parts.Parts.{Parts}

-- a verdict names a broken condition
abbrev pub is_broken : Verdict → Bool
is_broken verdicts.Kept = false
is_broken (verdicts.Broken condition tuple) = true

-- one of the verdicts does
abbrev pub has_broken : List Verdict → Bool
has_broken given = list_any is_broken given

-- on how many of some analyses one does, by the verdicts on each
abbrev pub count_broken : List (List Verdict) → ℕ
count_broken [] = 0
count_broken (given ∷ more) = cond (has_broken given) 1 0 + count_broken more

-- the verdicts on an analysis, one on each principle use, have a broken one among them or don't
pub record IsJudged (parts : Parts) (analysis : Analysis) (broken : Bool) : Type 0 where
  pub verdicts : List Verdict
  pub are : AreVerdicts parts analysis parts.groups verdicts
  pub says : broken ≡ has_broken verdicts
