-- The step of a command that reads an analysis.
use Rattle.std.specs.Prelude.{ℕ, List}
use Rattle.xdg_inputs.specs.Meanings.{Meaning}
use Rattle.xdg_inputs.specs.Outcomes.{Files}
use Rattle.xdg_inputs.specs.Stages.{Behind}
use Rattle.xdg_inputs.specs.declared.status.Status.TheVariants as statuses
use Rattle.xdg_inputs.specs.declared.status.Status.{Status}
use Rattle.xdg_inputs.specs.Analyses.{Analysed, HasAnalysis, HasBadAnalysis}

-- a file has an analysis of the grammar
abbrev pub AnalysisThen : Files → List ℕ → (Analysed → Status → List ℕ → Type 0) → Meaning → Status → List ℕ → Type 0
AnalysisThen files name next m = Behind Analysed statuses.BadAnalysis (HasBadAnalysis files name m) (HasAnalysis files name m) next
