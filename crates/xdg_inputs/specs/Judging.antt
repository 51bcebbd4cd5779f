-- An analysis to be judged.
use Rattle.std.specs.Prelude.{◌≡◌, None, Some, Ok, Err, Result}
use Rattle.xdg_base.specs.declared.faults.Cause.TheVariants as causes
use Rattle.xdg_base.specs.declared.faults.Fault.{Fault}
use Rattle.xdg_base.specs.declared.faults.Stop.{Stop}
use Rattle.xdg_base.specs.declared.faults.Stop.TheVariants as stops
use Rattle.xdg_build.specs.Compiled.{compiled}
use Rattle.xdg_build.specs.Refusals.{refusal}
use Rattle.xdg_base.specs.Faults.{fault_reaching}
use Rattle.xdg_build.specs.Solutions.{KeepsSolutions}
use Rattle.xdg_reading.specs.Fits as fitting
use Rattle.xdg_build.specs.Grammars.{Grammar}
use Rattle.xdg_problem.specs.declared.analysis.Analysis.{Analysis}
use Rattle.xdg_reading.specs.declared.texts.AnalysisText.{AnalysisText}
use Rattle.xdg_inputs.specs.Analyses.{Analysed}
use Rattle.xdg_inputs.specs.declared.analysis.Judgeable.{Judgeable}

abbrev pub analysed_of : Judgeable → Analysed
analysed_of judgeable = record { parts = judgeable.problem; analysis = judgeable.analysis }

-- what is wrong with an analysis text where its words are refused for this
abbrev pub of_words : Stop → Stop
of_words (stops.Fault f) = stops.Fault (fault_reaching causes.NotAnalysis f.at 0)
of_words stops.OutOfMemory = stops.OutOfMemory

-- the text shows this analysis of its words, and no other
pub record IsJudged (g : Grammar) (t : AnalysisText) (made : Judgeable) : Type 0 where
  pub known : refusal g t.words ≡ None
  pub parts_are : made.problem ≡ compiled g t.words
  pub keeps : KeepsSolutions g t.words made.problem
  pub fits : fitting.IsAnswer made.problem t (Ok made.analysis)
  pub one : (answer : Result Analysis Fault) → fitting.IsAnswer made.problem t answer → answer ≡ Ok made.analysis

-- the text has a word without entry, or doesn't fit
pub data IsNotJudged (g : Grammar) (t : AnalysisText) : Stop → Type 0 where
  no_memory : IsNotJudged g t stops.OutOfMemory
  word_unknown : (w : Fault) → refusal g t.words ≡ Some w → IsNotJudged g t (stops.Fault (fault_reaching causes.NotAnalysis w.at 0))
  not_fit : (f : Fault) → refusal g t.words ≡ None → fitting.IsAnswer (compiled g t.words) t (Err f)
      → ((answer : Result Analysis Fault) → fitting.IsAnswer (compiled g t.words) t answer → answer ≡ Err f) → IsNotJudged g t (stops.Fault f)
