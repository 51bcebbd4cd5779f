-- Reading and fitting together: exactly the blocks of analyses.
use Rattle.std.specs.Prelude.{◌≡◌, ◌⊎◌, ◌↔◌, ℕ, ◌<◌, ◌≤◌, ◌^◌, Ok, List, length, map, IsUtf8}
use Rattle.xdg_problem.specs.declared.analysis.Analysis.{Analysis}
use Rattle.xdg_problem.specs.declared.parts.Parts.{Parts}
use Rattle.xdg_problem.specs.declared.parts.SentenceWord.{SentenceWord}
use Rattle.xdg_problem.specs.Analyses.{IsAnalysis}
use Rattle.xdg_problem.specs.Problems.{IsProblem}
use Rattle.xdg_reading.specs.declared.texts.AnalysisText.{AnalysisText}
use Rattle.xdg_reading.specs.Texts as reading
use Rattle.xdg_text.specs.Blocks.{block, block2}
use Rattle.xdg_reading.specs.Fits as fitting

-- the words of a text are those of the problem
abbrev pub HasWords : Parts → AnalysisText → Type 0
HasWords parts t = map (λ (w : SentenceWord). w.text) t.words ≡ map (λ (w : SentenceWord). w.text) parts.words

-- the bytes are read as a text of the problem's words that shows this analysis
abbrev pub IsReadBack : Parts → List ℕ → Analysis → Type 0
IsReadBack parts bytes a = (t : AnalysisText) × reading.IsAnswer bytes (Ok t) × HasWords parts t × fitting.IsAnswer parts t (Ok a)

-- the bytes are text 1 or text 2 of this analysis, with some number
abbrev pub IsBlock : Parts → List ℕ → Analysis → Type 0
IsBlock parts bytes a = (number : ℕ) × (1 ≤ number) × (number ≤ 2000000000000) × ((bytes ≡ block parts number a) ⊎ (bytes ≡ block2 parts number a))

-- what is read back are exactly the texts of analyses, so an analysis has one spelling a text and a number
abbrev pub ReadsBack : Type 0
ReadsBack =
    (parts : Parts) (bytes : List ℕ) (a : Analysis) → IsProblem parts → IsUtf8 bytes → length bytes < 2 ^ 32
    → IsReadBack parts bytes a ↔ (IsAnalysis parts a × IsBlock parts bytes a)
