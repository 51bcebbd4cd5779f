-- What stands in a group for its lines.
use Rattle.std.specs.Prelude.{◌≡◌, ℕ, ◌+◌, ◌≤◌, List, [], ◌∷◌, ◌++◌, length, slice_get, Option, None, Some}
use Rattle.std.specs.List.{AllZip}
use Rattle.xdg_command.specs.declared.commands.CorpusOptions.{CorpusOptions}
use Rattle.xdg_inputs.specs.Meanings.{Meaning}
use Rattle.xdg_inputs.specs.Sentences.{AcceptsWords, RejectsWords}
use Rattle.xdg_inputs.specs.Places.{line_column}
use Rattle.xdg_problem.specs.declared.parts.Parts.{Parts}
use Rattle.xdg_split.specs.Asked.{Asked, asked}
use Rattle.xdg_split.specs.declared.answer.Answer.{Answer}
use Rattle.xdg_text.specs.Lines.{fault_text}
use Rattle.xdg_corpus.specs.Lines.{lines}
use Rattle.xdg_corpus.specs.Texts.{sentence_line}
use Rattle.xdg_corpus.specs.declared.group.Group.{Group}
use Rattle.xdg_corpus.specs.declared.group.Sentence.{Sentence}
use Rattle.xdg_corpus.specs.declared.group.Sentence.TheVariants as sentences

-- the search of a line: its problem, and what is asked of each line
pub record AsksFor (m : Meaning) (options : CorpusOptions) (sentence : List ℕ) (job : Asked) : Type 0 where
  pub parts : Parts
  pub accepts : AcceptsWords m options.segment sentence parts
  pub is : job ≡ asked parts options.budget options.first

-- what stands for a line among the jobs of its group: its fault, or the place of its job
abbrev pub StandsFor : Meaning → CorpusOptions → List Asked → List ℕ → Sentence → Type 0
StandsFor m options jobs line (sentences.Refused f place) = RejectsWords m options.segment line f × (place ≡ line_column line f)
StandsFor m options jobs line (sentences.Job place) = (job : Asked) × (slice_get jobs place ≡ Some job) × AsksFor m options line job

-- the group has these lines
abbrev pub HasLines : Meaning → CorpusOptions → List (List ℕ) → Group → Type 0
HasLines m options lines group = AllZip (StandsFor m options group.jobs.items) lines group.sentences.items

-- The group has the first lines of a text, and those of the rest come behind them. Each line has a byte in the text, where its line feed
-- counts as one; a text that has a line loses some.
pub record TakesLines (m : Meaning) (options : CorpusOptions) (text : List ℕ) (group : Group) (rest : List ℕ) : Type 0 where
  pub taken : List (List ℕ)
  pub has : HasLines m options taken group
  pub lines_are : lines text ≡ taken ++ lines rest
  pub fewer : length taken + length rest ≤ length text

-- ---- what is written of a group

-- what an answer prints, where there is one
abbrev pub answer_text : Option Answer → List ℕ
answer_text None = []
answer_text (Some answer) = answer.bytes

-- the text of a line, by the answers to the jobs of its group
abbrev pub own_text : List Answer → Sentence → List ℕ
own_text answers (sentences.Refused f place) = fault_text f place
own_text answers (sentences.Job place) = answer_text (slice_get answers place)

-- the texts of lines, of which the first has this number
abbrev pub group_text : List Answer → ℕ → List Sentence → List ℕ
group_text answers number [] = []
group_text answers number (sentence ∷ more) = (sentence_line number ++ own_text answers sentence) ++ group_text answers (number + 1) more
