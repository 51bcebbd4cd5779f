-- The status and the text of `parse`, `resume` and `drill`, as the files and the input alone determine them.
use Rattle.std.specs.Prelude.{◌≡◌, ℕ, Bool, true, false, List, [], ◌∷◌, length, Option, Some, codes, decimal}
use Rattle.xdg_split.specs.Printed.{Prints}
use Rattle.xdg_text.specs.declared.form.Form.{Form}
use Rattle.xdg_searches.specs.Branched.{PrintsBranches}
use Rattle.xdg_command.specs.Commands.{default_budget}
use Rattle.xdg_command.specs.declared.commands.ParseOptions.{ParseOptions}
use Rattle.xdg_command.specs.declared.commands.ResumeOptions.{ResumeOptions}
use Rattle.xdg_searches.specs.Counted.{AreCounts}
use Rattle.xdg_searches.specs.declared.counting.Counts.{Counts}
use Rattle.xdg_formula.specs.declared.tree.Rules.{Rules}
use Rattle.xdg_searches.specs.Generated.{grammar_text, sentence_text}
use Rattle.xdg_inputs.specs.Meanings.{Meaning}
use Rattle.xdg_facts.specs.declared.Ending.{Ending}
use Rattle.xdg_facts.specs.declared.Ending.TheVariants as endings
use Rattle.xdg_problem.specs.declared.analysis.Analysis.{Analysis}
use Rattle.xdg_problem.specs.declared.parts.Parts.{Parts}
use Rattle.xdg_inputs.specs.RuledSteps.{RulesThen, WithRules}
use Rattle.xdg_problem.specs.Vectors.{vector}
use Rattle.xdg_text.specs.Lines.{line}
use Rattle.xdg_inputs.specs.Outcomes.{Files, GrammarThen}
use Rattle.xdg_inputs.specs.Stages.{Behind}
use Rattle.xdg_inputs.specs.declared.status.Status.TheVariants as statuses
use Rattle.xdg_inputs.specs.declared.status.Status.{Status}
use Rattle.xdg_inputs.specs.Analyses.{Analysed}
use Rattle.xdg_inputs.specs.AnalysisSteps.{AnalysisThen}
use Rattle.xdg_inputs.specs.Sentences.{HasProblem, IsBadSentence}

-- ---- `parse` and `resume`

-- the status of a search that ended so
abbrev pub status_of : Ending → Status
status_of endings.Complete = statuses.Done
status_of endings.First = statuses.Done
status_of endings.Spent = statuses.Spent

-- what the search of a problem from behind a start on prints
pub record Searched (form : Form) (budget : ℕ) (wanted : Option ℕ) (parts : Parts) (start : List ℕ) (status : Status) (text : List ℕ) : Type 0 where
  pub ending : Ending
  pub prints : Prints ending form budget wanted parts start text
  pub status_is : status ≡ status_of ending

-- what the search of a problem by the branches of its first word prints
pub record SearchedBranches (form : Form) (budget : ℕ) (wanted : Option ℕ) (parts : Parts) (status : Status) (text : List ℕ) : Type 0 where
  pub ending : Ending
  pub prints : PrintsBranches ending form budget wanted parts text
  pub status_is : status ≡ status_of ending

-- the search of a problem from its beginning on, by branches or not
abbrev pub ParsedBy : Bool → ParseOptions → Parts → Status → List ℕ → Type 0
ParsedBy true options parts = SearchedBranches options.text options.budget options.first parts
ParsedBy false options parts = Searched options.text options.budget options.first parts []

abbrev pub Parsed : ParseOptions → Parts → Status → List ℕ → Type 0
Parsed options parts = ParsedBy options.split options parts

-- the search of a problem from behind an analysis of it on
abbrev pub SearchedBehind : ResumeOptions → Analysis → Parts → Status → List ℕ → Type 0
SearchedBehind options analysis parts = Searched options.text options.budget options.first parts (vector parts analysis)

-- the search of the problem of an analysis with rules, from behind the analysis on
abbrev pub Resumed : ResumeOptions → Rules → Meaning → Analysed → Status → List ℕ → Type 0
Resumed options rules m analysed = WithRules m rules.rules analysed.parts (SearchedBehind options analysed.analysis)

-- the input is a sentence, and its problem with rules is searched
abbrev pub SentenceThen : ParseOptions → List ℕ → Rules → Meaning → Status → List ℕ → Type 0
SentenceThen options input rules m =
    Behind Parts statuses.BadSentence (IsBadSentence m options.segment input) (HasProblem m options.segment input)
    (λ parts. WithRules m rules.rules parts (Parsed options))

-- a file has an analysis, and its problem with rules is searched
abbrev pub ResumeThen : ResumeOptions → Files → Rules → Meaning → Status → List ℕ → Type 0
ResumeThen options files rules m = AnalysisThen files options.analysis (Resumed options rules m) m

abbrev pub ParseOf : ParseOptions → Files → List ℕ → Status → List ℕ → Type 0
ParseOf options files input = GrammarThen files options.grammar (λ read. RulesThen files options.rules (SentenceThen options input))

abbrev pub ResumeOf : ResumeOptions → Files → Status → List ℕ → Type 0
ResumeOf options files = GrammarThen files options.grammar (λ read. RulesThen files options.rules (ResumeThen options files))

-- ---- `drill`

-- each name is that of a file with the generated grammar
abbrev pub generated : ℕ → Files
generated number name = Some (grammar_text number)

-- the word behind the counts where the budget is spent
abbrev pub spent_word : Ending → List (List ℕ)
spent_word endings.Complete = []
spent_word endings.First = []
spent_word endings.Spent = codes "spent" ∷ []

-- A analyses were found, B of them with a broken verdict
abbrev pub counts_words : Counts → List (List ℕ)
counts_words counts = codes "analyses" ∷ decimal counts.analyses ∷ codes "broken" ∷ decimal counts.broken ∷ spent_word counts.ending

-- `drill N words W entries E analyses A broken B`, and `spent` where the budget is
abbrev pub drill_line : ℕ → ℕ → ℕ → Counts → List ℕ
drill_line number words entries counts =
    line (codes "drill") (decimal number ∷ codes "words" ∷ decimal words ∷ codes "entries" ∷ decimal entries ∷ counts_words counts)

-- the analyses of a problem are counted and judged, with the budget that a search has where none is given
pub record Drilled (number : ℕ) (m : Meaning) (parts : Parts) (status : Status) (text : List ℕ) : Type 0 where
  pub counts : Counts
  pub are : AreCounts default_budget parts counts
  pub status_is : status ≡ status_of counts.ending
  pub text_is : text ≡ drill_line number (length parts.words) (length m.entries) counts

-- a text is a sentence of the grammar, with words between white space, and its problem comes next
abbrev pub ProblemThen : List ℕ → Meaning → (Parts → Status → List ℕ → Type 0) → Status → List ℕ → Type 0
ProblemThen input m next = Behind Parts statuses.BadSentence (IsBadSentence m false input) (HasProblem m false input) next

-- so is the generated sentence, and its problem is searched
abbrev pub DrillSentence : ℕ → Meaning → Status → List ℕ → Type 0
DrillSentence number m = ProblemThen (sentence_text number) m (Drilled number m)

abbrev pub DrillOf : ℕ → Status → List ℕ → Type 0
DrillOf number = GrammarThen (generated number) [] (λ read. DrillSentence number)
