-- Which files have an analysis of a grammar, and with which fault the others are refused.
use Rattle.std.specs.Prelude.{◌≡◌, ℕ, ◌+◌, ◌<◌, ◌≤◌, List, length, Option, Some, None, Ok, Err}
use Rattle.xdg_base.specs.declared.faults.Cause.TheVariants as causes
use Rattle.xdg_base.specs.declared.faults.Fault.{Fault}
use Rattle.xdg_problem.specs.declared.analysis.Analysis.{Analysis}
use Rattle.xdg_problem.specs.declared.parts.Parts.{Parts}
use Rattle.xdg_packed.specs.Entries.{IsWordPlace}
use Rattle.xdg_build.specs.Grammars.{Grammar}
use Rattle.xdg_build.specs.Compiled.{compiled}
use Rattle.xdg_build.specs.Refusals.{refusal}
use Rattle.xdg_base.specs.Faults.{fault_reaching}
use Rattle.xdg_build.specs.Solutions.{KeepsSolutions}
use Rattle.xdg_reading.specs.declared.texts.AnalysisText.{AnalysisText}
use Rattle.xdg_reading.specs.Texts as reading
use Rattle.xdg_reading.specs.Fits as fitting
use Rattle.xdg_inputs.specs.Meanings.{Meaning}
use Rattle.xdg_inputs.specs.Grammars.{with_words}

-- how many bytes the file of an analysis may have
abbrev pub analysis_limit : ℕ
analysis_limit = 4294967295

-- A text is no analysis of a grammar: it is too long, or else it is no analysis text, or else it has a word without entry, or else
-- its lines are not those of an analysis of its words.
pub data IsNoAnalysis (g : Grammar) (text : List ℕ) (refused : Fault) : Type 0 where
  too_long : analysis_limit < length text → refused ≡ fault_reaching causes.TooLong 0 (analysis_limit + 1) → IsNoAnalysis g text refused
  unreadable : length text ≤ analysis_limit → reading.IsAnswer text (Err refused) → IsNoAnalysis g text refused
  unknown_word : (t : AnalysisText) (f : Fault) → length text ≤ analysis_limit → reading.IsAnswer text (Ok t) → refusal g t.words ≡ Some f
      → refused ≡ fault_reaching causes.NotAnalysis f.at 0 → IsNoAnalysis g text refused
  unfit : (t : AnalysisText) → length text ≤ analysis_limit → reading.IsAnswer text (Ok t) → refusal g t.words ≡ None
      → fitting.IsAnswer (compiled g t.words) t (Err refused) → IsNoAnalysis g text refused

-- the file of this name is there, and has no analysis
pub record HasBadAnalysis (files : List ℕ → Option (List ℕ)) (name : List ℕ) (m : Meaning) (text : List ℕ) (refused : Fault) : Type 0 where
  pub dim : ℕ
  pub field : ℕ
  pub place : IsWordPlace m.table dim field
  pub file : files name ≡ Some text
  pub because : IsNoAnalysis (with_words m dim field) text refused

-- an analysis with the problem of its words
pub record Analysed : Type 0 where
  pub parts : Parts
  pub analysis : Analysis

-- the file of this name has a text of this analysis of its words, whose problem is this
pub record HasAnalysis (files : List ℕ → Option (List ℕ)) (name : List ℕ) (m : Meaning) (analysed : Analysed) : Type 0 where
  pub dim : ℕ
  pub field : ℕ
  pub place : IsWordPlace m.table dim field
  pub bytes : List ℕ
  pub file : files name ≡ Some bytes
  pub within : length bytes ≤ analysis_limit
  pub read : AnalysisText
  pub reads : reading.IsAnswer bytes (Ok read)
  pub known : refusal (with_words m dim field) read.words ≡ None
  pub parts_are : analysed.parts ≡ compiled (with_words m dim field) read.words
  pub fits : fitting.IsAnswer analysed.parts read (Ok analysed.analysis)
  pub keeps : KeepsSolutions (with_words m dim field) read.words analysed.parts
