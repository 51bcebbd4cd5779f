-- Analyses and whole vectors are one to one.
use Rattle.std.specs.Prelude.{◌≡◌, ℕ, List, length}
use Rattle.xdg_facts.specs.Fits.{Fits}
use Rattle.xdg_problem.specs.declared.analysis.Analysis.{Analysis}
use Rattle.xdg_problem.specs.declared.parts.Parts.{Parts}
use Rattle.xdg_problem.specs.Vectors.{shape, vector, analysis_of}
use Rattle.xdg_problem.specs.Analyses.{IsAnalysis}

-- each analysis has a whole vector, each whole vector stands for an analysis, and each gives the other back
pub record IsOneToOne (parts : Parts) : Type 0 where
  pub fits : (analysis : Analysis) → IsAnalysis parts analysis → Fits (shape parts) (vector parts analysis)
  pub whole : (analysis : Analysis) → IsAnalysis parts analysis → length (vector parts analysis) ≡ length (shape parts)
  pub analysis : (numbers : List ℕ) → Fits (shape parts) numbers → length numbers ≡ length (shape parts) → IsAnalysis parts (analysis_of parts numbers)
  pub back : (numbers : List ℕ) → Fits (shape parts) numbers → length numbers ≡ length (shape parts) → vector parts (analysis_of parts numbers) ≡ numbers
  pub forth : (analysis : Analysis) → IsAnalysis parts analysis → analysis_of parts (vector parts analysis) ≡ analysis
