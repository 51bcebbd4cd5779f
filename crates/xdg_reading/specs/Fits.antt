-- Which analysis of a problem the lines of a text show, and which line offends first.
use Rattle.std.specs.Prelude.{◌≡◌, ◌<◌, ℕ, Option, Some, None, Result, Ok, Err, List, [], ◌∷◌, length, Contains, slice_index_or}
use Rattle.xdg_base.specs.Faults.{fault_at}
use Rattle.xdg_base.specs.declared.faults.Fault.{Fault}
use Rattle.xdg_base.specs.declared.faults.Cause.TheVariants as causes
use Rattle.xdg_base.specs.declared.faults.Stop.{Stop}
use Rattle.xdg_base.specs.declared.ids.EntryNo.{EntryNo}
use Rattle.xdg_base.specs.Told.{TellsOf}
use Rattle.xdg_problem.specs.declared.analysis.Analysis.{Analysis}
use Rattle.xdg_problem.specs.declared.analysis.Edge.{Edge}
use Rattle.xdg_problem.specs.declared.parts.DimPlan.{DimPlan}
use Rattle.xdg_problem.specs.declared.parts.Parts.{Parts}
use Rattle.xdg_problem.specs.declared.parts.SentenceWord.{SentenceWord}
use Rattle.xdg_problem.specs.Analyses.{HasCandidates, IsPlace, Before, IsAnalysis}
use Rattle.xdg_problem.specs.Places.{nodes}
use Rattle.xdg_reading.specs.declared.texts.AnalysisText.{AnalysisText}
use Rattle.xdg_reading.specs.declared.texts.AttrLine.{AttrLine}
use Rattle.xdg_reading.specs.declared.texts.EdgeLine.{EdgeLine}
use Rattle.xdg_problem.specs.Arguments.{no_plan}
use Rattle.xdg_text.specs.Blocks.{no_value}
use Rattle.xdg_reading.specs.Slots.{Asked, slots}

-- a line says that an attribute has the value of this number
pub record SaysValue (asked : Asked) (line : AttrLine) (value : ℕ) : Type 0 where
  pub dim : line.dim ≡ asked.dim
  pub node : line.node.0 ≡ asked.node
  pub attr : line.attr ≡ asked.attr.name
  pub within : value < length asked.attr.values
  pub is : slice_index_or asked.attr.values value no_value ≡ line.value

-- a line says that this edge is there
pub record SaysEdge (dims : List DimPlan) (line : EdgeLine) (e : Edge) : Type 0 where
  pub dim : (slice_index_or dims e.dim.0 no_plan).name ≡ line.dim
  pub mother : e.mother ≡ line.mother
  pub label : slice_index_or (slice_index_or dims e.dim.0 no_plan).labels e.label.0 [] ≡ line.label
  pub daughter : e.daughter ≡ line.daughter

-- an edge is decided after the one before it
abbrev pub Follows : Option Edge → Edge → Type 0
Follows None e = Unit {0}
Follows (Some before) e = Before before e

-- a line says that this edge is there, which may stand behind those before
pub record NextEdge (parts : Parts) (before : Option Edge) (line : EdgeLine) (e : Edge) : Type 0 where
  pub says : SaysEdge parts.dims line e
  pub stands : IsPlace parts e
  pub follows : Follows before e

-- the lines say the value of each attribute, in the order of the attributes
abbrev pub SayValues : List Asked → List AttrLine → List ℕ → Type 0
SayValues [] [] [] = Unit {0}
SayValues (asked ∷ more) (line ∷ lines) (value ∷ values) = SaysValue asked line value × SayValues more lines values
SayValues _ _ _ = ⊥

-- the lines say these edges, each of which may stand behind those before
abbrev pub SayEdges : Parts → Option Edge → List EdgeLine → List Edge → Type 0
SayEdges parts before [] [] = Unit {0}
SayEdges parts before [] (e ∷ edges) = ⊥
SayEdges parts before (line ∷ lines) [] = ⊥
SayEdges parts before (line ∷ lines) (e ∷ edges) = NextEdge parts before line e × SayEdges parts (Some e) lines edges

-- the lines of a text are those of the analysis
pub record Shows (parts : Parts) (t : AnalysisText) (a : Analysis) : Type 0 where
  pub entries : a.entries ≡ t.entries
  pub candidates : HasCandidates parts.candidates t.entries
  pub attrs : SayValues (slots (nodes parts) parts.dims) t.attrs a.attrs
  pub edges : SayEdges parts None t.edges a.edges

-- the first line of a word that has an entry of another word
pub data WordOffends : List (List EntryNo) → List SentenceWord → List EntryNo → ℕ → Type 0 where
  this_word : (candidates : List EntryNo) (more : List (List EntryNo)) (word : SentenceWord) (words : List SentenceWord) (entry : EntryNo)
      (entries : List EntryNo)
      → (Contains candidates entry → ⊥) → WordOffends (candidates ∷ more) (word ∷ words) (entry ∷ entries) word.at
  later_word : (candidates : List EntryNo) (more : List (List EntryNo)) (word : SentenceWord) (words : List SentenceWord) (entry : EntryNo)
      (entries : List EntryNo) (at : ℕ)
      → Contains candidates entry → WordOffends more words entries at → WordOffends (candidates ∷ more) (word ∷ words) (entry ∷ entries) at

-- the first line of an attribute that isn't the next one or has no value of it, one too many, or the line in place of one that is missing
pub data AttrOffends (behind : ℕ) : List Asked → List AttrLine → ℕ → Type 0 where
  one_more : (line : AttrLine) (lines : List AttrLine) → AttrOffends behind [] (line ∷ lines) line.at
  missing : (asked : Asked) (more : List Asked) → AttrOffends behind (asked ∷ more) [] behind
  this_attr : (asked : Asked) (more : List Asked) (line : AttrLine) (lines : List AttrLine) → ((value : ℕ) → SaysValue asked line value → ⊥)
      → AttrOffends behind (asked ∷ more) (line ∷ lines) line.at
  later_attr : (asked : Asked) (more : List Asked) (line : AttrLine) (lines : List AttrLine) (value at : ℕ) → SaysValue asked line value
      → AttrOffends behind more lines at → AttrOffends behind (asked ∷ more) (line ∷ lines) at

-- the first line of an edge that says no edge which may stand behind those before
pub data EdgeOffends (parts : Parts) : Option Edge → List EdgeLine → ℕ → Type 0 where
  this_edge : (before : Option Edge) (line : EdgeLine) (lines : List EdgeLine) → ((e : Edge) → NextEdge parts before line e → ⊥)
      → EdgeOffends parts before (line ∷ lines) line.at
  later_edge : (before : Option Edge) (line : EdgeLine) (lines : List EdgeLine) (e : Edge) (at : ℕ) → NextEdge parts before line e
      → EdgeOffends parts (Some e) lines at → EdgeOffends parts before (line ∷ lines) at

-- where the line behind the last attribute begins
abbrev pub behind_attrs : AnalysisText → List EdgeLine → ℕ
behind_attrs t [] = t.end
behind_attrs t (line ∷ lines) = line.at

-- the first line that offends begins at this place
pub data Offends (parts : Parts) (t : AnalysisText) (at : ℕ) : Type 0 where
  word : WordOffends parts.candidates t.words t.entries at → Offends parts t at
  attr : HasCandidates parts.candidates t.entries → AttrOffends (behind_attrs t t.edges) (slots (nodes parts) parts.dims) t.attrs at → Offends parts t at
  edge : (values : List ℕ) → HasCandidates parts.candidates t.entries → SayValues (slots (nodes parts) parts.dims) t.attrs values
      → EdgeOffends parts None t.edges at → Offends parts t at

-- the text shows this analysis, or a line offends
abbrev pub IsAnswer : Parts → AnalysisText → Result Analysis Fault → Type 0
IsAnswer parts t (Ok a) = IsAnalysis parts a × Shows parts t a
IsAnswer parts t (Err fault) = (at : ℕ) × (fault ≡ fault_at causes.NotAnalysis at) × Offends parts t at

-- a call answers so, unless memory ran out
abbrev pub Tells : Parts → AnalysisText → Result Analysis Stop → Type 0
Tells parts t = TellsOf (IsAnswer parts t)
