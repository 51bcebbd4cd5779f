-- The status and the text of a run, as its words, the files and the input alone determine them.
use Rattle.std.specs.Prelude.{◌≡◌, ◌≤◌, ℕ, List}
use Rattle.xdg_split.specs.Written.{IsSome}
use Rattle.xdg_arrange.specs.Outcomes.{ArrangeOf}
use Rattle.xdg_searches.specs.Branched.{CanBranch}
use Rattle.xdg_best.specs.Outcomes.{BestOf}
use Rattle.xdg_command.specs.Commands.{IsCommand}
use Rattle.xdg_command.specs.declared.commands.Command.{Command}
use Rattle.xdg_command.specs.declared.commands.Command.TheVariants as commands
use Rattle.xdg_corpus.specs.Outcomes.{CorpusOf}
use Rattle.xdg_corpus.specs.Texts.{CanSearch}
use Rattle.xdg_text.specs.Lines.{usage_line}
use Rattle.xdg_inputs.specs.Outcomes.{Files}
use Rattle.xdg_inputs.specs.declared.status.Status.TheVariants as statuses
use Rattle.xdg_inputs.specs.declared.status.Status.{Status}
use Rattle.xdg_reports.specs.Outcomes.{ExplainOf, ReportOf}
use Rattle.xdg_reports.specs.declared.reports.Report.TheVariants as reports
use Rattle.xdg_searches.specs.Outcomes.{ParseOf, ResumeOf, DrillOf}

-- where a command is asked for a number of analyses, it is at least one, and a sentence can be searched by branches, and each line of a
-- corpus, and a search for the cheapest analysis has some budget
abbrev pub WantsSome : Command → Type 0
WantsSome (commands.Parse options) = CanBranch options.budget options.first
WantsSome (commands.Resume options) = IsSome options.first
WantsSome (commands.Corpus options) = CanSearch options
WantsSome (commands.Best options) = 1 ≤ options.budget
WantsSome command = Unit {0}

abbrev pub CommandOf : Command → Files → List ℕ → Status → List ℕ → Type 0
CommandOf (commands.Parse options) files input = ParseOf options files input
CommandOf (commands.Resume options) files input = ResumeOf options files
CommandOf (commands.Explain options) files input = ExplainOf options files
CommandOf (commands.Check grammar) files input = ReportOf reports.Check grammar files
CommandOf (commands.Lexicon grammar) files input = ReportOf reports.Lexicon grammar files
CommandOf (commands.Print grammar) files input = ReportOf reports.Print grammar files
CommandOf (commands.Drill number) files input = DrillOf number
CommandOf (commands.Corpus options) files input = CorpusOf options files input
CommandOf (commands.Arrange options) files input = ArrangeOf options files input
CommandOf (commands.Best options) files input = BestOf options files input

abbrev pub IsNoCommand : List (List ℕ) → Type 0
IsNoCommand given = (command : Command) → IsCommand given command → ⊥

-- the outcome of words that are no command
abbrev pub IsUsage : Status → List ℕ → Type 0
IsUsage status text = (status ≡ statuses.Usage) × (text ≡ usage_line)

-- the status and the text of a run
pub data OutcomeOf (given : List (List ℕ)) (files : Files) (input : List ℕ) (status : Status) (text : List ℕ) : Type 0 where
  usage : IsNoCommand given → status ≡ statuses.Usage → text ≡ usage_line → OutcomeOf given files input status text
  commanded : (command : Command) → IsCommand given command → CommandOf command files input status text → OutcomeOf given files input status text
