-- Which bytes are an analysis text, and which lines it has.
use Rattle.std.specs.Prelude.{◌≡◌, ◌⊎◌, ℕ, suc, ◌+◌, ◌<◌, Result, Ok, Err, List, [], ◌∷◌, ◌++◌, length, map, IsUtf8}
use Rattle.std.specs.Str.{IsValidUpTo}
use Rattle.xdg_base.specs.Faults.{fault_at}
use Rattle.xdg_base.specs.declared.faults.Fault.{Fault}
use Rattle.xdg_base.specs.declared.faults.Cause.TheVariants as causes
use Rattle.xdg_base.specs.declared.faults.Stop.{Stop}
use Rattle.xdg_base.specs.declared.ids.EntryNo.{EntryNo}
use Rattle.xdg_base.specs.Told.{TellsOf}
use Rattle.xdg_problem.specs.declared.parts.SentenceWord.{SentenceWord}
use Rattle.xdg_reading.specs.declared.line.Line.{Line}
use Rattle.xdg_reading.specs.declared.line.Line.TheVariants as lines
use Rattle.xdg_reading.specs.declared.texts.AnalysisText.{AnalysisText}
use Rattle.xdg_reading.specs.Lines.{line_text, text_of, IsLine}
use Rattle.xdg_reading.specs.Stages.{OffendsAt}

-- the lines of words and their entries, from the node of this number on
abbrev pub word_lines : ℕ → List SentenceWord → List EntryNo → List Line
word_lines node [] entries = []
word_lines node (word ∷ words) [] = []
word_lines node (word ∷ words) (entry ∷ entries) = lines.Word (record { 0 = node }) word entry ∷ word_lines (suc node) words entries

-- the lines of the words, of the attributes and of the edges, and the last line
abbrev pub body : AnalysisText → List Line
body t = word_lines 0 t.words t.entries ++ (map lines.Attr t.attrs ++ (map lines.Edge t.edges ++ lines.End ∷ []))

-- the lines of text 1
abbrev pub lines_of : ℕ → AnalysisText → List Line
lines_of number t = lines.Analysis number ∷ body t

-- the lines of text 2
abbrev pub lines2_of : ℕ → AnalysisText → List Line
lines2_of number t = lines.Version ∷ lines.Analysis number ∷ lines.Counts (length t.words) (length t.attrs) (length t.edges) ∷ body t

-- each line has its numbers in range, and knows the place where it begins
abbrev pub Placed : ℕ → List Line → Type 0
Placed at [] = Unit {0}
Placed at (line ∷ lines) = IsLine at line × Placed (at + length (line_text line)) lines

-- the bytes are these lines, which have the words, the attributes and the edges of the text
pub record HasLines (bytes : List ℕ) (t : AnalysisText) (all : List Line) : Type 0 where
  pub parts : bytes ≡ text_of all
  pub placed : Placed 0 all
  pub some : 0 < length t.words
  pub each : length t.entries ≡ length t.words
  pub end : t.end + 4 ≡ length bytes

-- the bytes are text 1 or text 2 of what the text says, with some number
abbrev pub IsText : List ℕ → AnalysisText → Type 0
IsText bytes t = (number : ℕ) × (HasLines bytes t (lines_of number t) ⊎ HasLines bytes t (lines2_of number t))

-- The bytes are not UTF-8, from the first byte on that belongs to no whole character; or else a line offends first.
pub data IsRefused (bytes : List ℕ) : Fault → Type 0 where
  no_text : (at : ℕ) → (IsUtf8 bytes → ⊥) → IsValidUpTo bytes at → IsRefused bytes (fault_at causes.BadUtf8 at)
  no_analysis : (at : ℕ) → IsUtf8 bytes → OffendsAt bytes at → IsRefused bytes (fault_at causes.NotAnalysis at)

-- the bytes say so, or are refused so
abbrev pub IsAnswer : List ℕ → Result AnalysisText Fault → Type 0
IsAnswer bytes (Ok t) = IsUtf8 bytes × IsText bytes t
IsAnswer bytes (Err fault) = IsRefused bytes fault

-- a call answers so, unless memory ran out
abbrev pub Tells : List ℕ → Result AnalysisText Stop → Type 0
Tells bytes = TellsOf (IsAnswer bytes)
