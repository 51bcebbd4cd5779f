-- Which lines a text has, one after the other.
use Rattle.std.specs.Prelude.{◌≡◌, ℕ, ◌+◌, ◌-◌, ◌==◌, ◌&&◌, nat_lt, Bool, true, false, cond, Option, Some, None, List, [], ◌∷◌, ◌++◌, length}
use Rattle.xdg_reading.specs.declared.line.Line.{Line}
use Rattle.xdg_reading.specs.declared.line.Line.TheVariants as lines
use Rattle.xdg_reading.specs.declared.stage.Stage.{Stage}
use Rattle.xdg_reading.specs.declared.stage.Stage.TheVariants as stages
use Rattle.xdg_reading.specs.Lines.{line_text, text_of, IsLine}

-- a text begins with the line of its number, or with that of text 2
abbrev pub begins : Line → Option Stage
begins lines.Version = Some stages.Second
begins (lines.Analysis number) = Some (stages.Words 0)
begins _ = None

-- in text 2 the line of the number comes next
abbrev pub numbered : Line → Option Stage
numbered (lines.Analysis number) = Some stages.Numbered
numbered _ = None

-- and then the counts
abbrev pub counted : Line → Option Stage
counted (lines.Counts words attrs edges) = Some (stages.Left 0 words attrs edges)
counted _ = None

-- in text 1, behind so many words, the next word comes, or, where there is one, what follows the words
abbrev pub after_words : ℕ → Line → Option Stage
after_words read (lines.Word node word entry) = cond (node.0 == read) (Some (stages.Words (node.0 + 1))) None
after_words read (lines.Attr a) = cond (read == 0) None (Some stages.Attrs)
after_words read (lines.Edge e) = cond (read == 0) None (Some stages.Edges)
after_words read lines.End = cond (read == 0) None (Some stages.Ended)
after_words read _ = None

abbrev pub after_attrs : Line → Option Stage
after_attrs (lines.Attr a) = Some stages.Attrs
after_attrs (lines.Edge e) = Some stages.Edges
after_attrs lines.End = Some stages.Ended
after_attrs _ = None

abbrev pub after_edges : Line → Option Stage
after_edges (lines.Edge e) = Some stages.Edges
after_edges lines.End = Some stages.Ended
after_edges _ = None

-- in text 2, behind so many words, the lines come that the counts still ask for
abbrev pub after_left : ℕ → ℕ → ℕ → ℕ → Line → Option Stage
after_left read words attrs edges (lines.Word node word entry) =
    cond (nat_lt 0 words && (node.0 == read)) (Some (stages.Left (node.0 + 1) (words - 1) attrs edges)) None
after_left read words attrs edges (lines.Attr a) = cond ((words == 0) && nat_lt 0 attrs) (Some (stages.Left read words (attrs - 1) edges)) None
after_left read words attrs edges (lines.Edge e) = cond ((words == 0) && (attrs == 0) && nat_lt 0 edges) (Some (stages.Left read words attrs (edges - 1))) None
after_left read words attrs edges lines.End = cond ((words == 0) && (attrs == 0) && (edges == 0)) (Some stages.Ended) None
after_left read words attrs edges _ = None

-- the stage behind a line, where the line may come next
abbrev pub next : Stage → Line → Option Stage
next stages.Start line = begins line
next stages.Second line = numbered line
next stages.Numbered line = counted line
next (stages.Words read) line = after_words read line
next stages.Attrs line = after_attrs line
next stages.Edges line = after_edges line
next (stages.Left read words attrs edges) line = after_left read words attrs edges line
next stages.Ended line = None

abbrev pub has_ended : Stage → Bool
has_ended stages.Ended = true
has_ended _ = false

-- lines that come one after the other, from a place and a stage to a stage
abbrev pub Goes : ℕ → Stage → List Line → Stage → Type 0
Goes at stage [] later = stage ≡ later
Goes at stage (line ∷ lines) later = IsLine at line × ((then : Stage) × (next stage line ≡ Some then) × Goes (at + length (line_text line)) then lines later)

-- From this stage, at this place, no line that stands at the front of what is left may come next, and not all is read.
pub record Stuck (at : ℕ) (stage : Stage) (left : List ℕ) : Type 0 where
  pub none : (line : Line) (more : List ℕ) (later : Stage) → IsLine at line → left ≡ line_text line ++ more → next stage line ≡ Some later → ⊥
  pub unread : stage ≡ stages.Ended → left ≡ [] → ⊥

-- The first line that offends begins at this place: the lines before it come one after the other, and none may come there.
pub record OffendsAt (bytes : List ℕ) (at : ℕ) : Type 0 where
  pub lines : List Line
  pub stage : Stage
  pub left : List ℕ
  pub goes : Goes 0 stages.Start lines stage
  pub parts : bytes ≡ text_of lines ++ left
  pub place : at ≡ length (text_of lines)
  pub stuck : Stuck at stage left
