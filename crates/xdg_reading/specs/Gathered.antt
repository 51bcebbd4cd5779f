-- What lines say, put together.
use Rattle.std.specs.Prelude.{◌≡◌, false, ℕ, ◌+◌, Result, Ok, Err, List, [], ◌∷◌, ◌++◌, length}
use Rattle.std.specs.List.{flat_map}
use Rattle.xdg_base.specs.declared.ids.EntryNo.{EntryNo}
use Rattle.xdg_problem.specs.declared.parts.SentenceWord.{SentenceWord}
use Rattle.xdg_reading.specs.declared.line.Line.{Line}
use Rattle.xdg_reading.specs.declared.line.Line.TheVariants as lines
use Rattle.xdg_reading.specs.declared.refused.Refused.{Refused}
use Rattle.xdg_reading.specs.declared.refused.Refused.TheVariants as refused
use Rattle.xdg_reading.specs.declared.stage.Stage.{Stage}
use Rattle.xdg_reading.specs.declared.stage.Stage.TheVariants as stages
use Rattle.xdg_reading.specs.declared.texts.AnalysisText.{AnalysisText}
use Rattle.xdg_reading.specs.declared.texts.AttrLine.{AttrLine}
use Rattle.xdg_reading.specs.declared.texts.EdgeLine.{EdgeLine}
use Rattle.xdg_reading.specs.Lines.{text_of}
use Rattle.xdg_reading.specs.Stages.{Goes, OffendsAt, has_ended}

abbrev pub word_in : Line → List SentenceWord
word_in (lines.Word node word entry) = word ∷ []
word_in _ = []

abbrev pub entry_in : Line → List EntryNo
entry_in (lines.Word node word entry) = entry ∷ []
entry_in _ = []

abbrev pub attr_in : Line → List AttrLine
attr_in (lines.Attr a) = a ∷ []
attr_in _ = []

abbrev pub edge_in : Line → List EdgeLine
edge_in (lines.Edge e) = e ∷ []
edge_in _ = []

-- the text holds what these lines say
pub record Holds (t : AnalysisText) (read : List Line) : Type 0 where
  pub words : t.words ≡ flat_map word_in read
  pub entries : t.entries ≡ flat_map entry_in read
  pub attrs : t.attrs ≡ flat_map attr_in read
  pub edges : t.edges ≡ flat_map edge_in read

-- what one line more adds
pub record Adds (old new : AnalysisText) (line : Line) : Type 0 where
  pub words : new.words ≡ old.words ++ word_in line
  pub entries : new.entries ≡ old.entries ++ entry_in line
  pub attrs : new.attrs ≡ old.attrs ++ attr_in line
  pub edges : new.edges ≡ old.edges ++ edge_in line

-- lines were read up to a stage, and these bytes are left
pub record SoFar (bytes : List ℕ) (stage : Stage) (left : List ℕ) (t : AnalysisText) : Type 0 where
  pub lines : List Line
  pub goes : Goes 0 stages.Start lines stage
  pub parts : bytes ≡ text_of lines ++ left
  pub holds : Holds t lines
  pub goes_on : has_ended stage ≡ false

-- the bytes are lines of which the last is at the end, and the text holds what they say
pub record Whole (bytes : List ℕ) (t : AnalysisText) : Type 0 where
  pub lines : List Line
  pub goes : Goes 0 stages.Start lines stages.Ended
  pub parts : bytes ≡ text_of lines
  pub holds : Holds t lines
  pub end : t.end + 4 ≡ length bytes

-- the answer of the reading of lines
abbrev pub Answers : List ℕ → Result AnalysisText Refused → Type 0
Answers bytes (Ok t) = Whole bytes t
Answers bytes (Err (refused.At at)) = OffendsAt bytes at
Answers bytes (Err refused.Memory) = Unit {0}
