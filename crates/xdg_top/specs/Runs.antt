-- What a command reads, and how it can end.
use Rattle.std.specs.Prelude.{◌≡◌, ◌≢◌, ◌⊎◌, ℕ, List, Option, Some}
use Rattle.xdg_arrange.specs.Outcomes.{ArrangeEnds}
use Rattle.xdg_best.specs.Runs.{BestEnds}
use Rattle.xdg_command.specs.Commands.{IsCommand}
use Rattle.xdg_command.specs.declared.commands.Command.{Command}
use Rattle.xdg_command.specs.declared.commands.Command.TheVariants as commands
use Rattle.xdg_corpus.specs.Outcomes.{CorpusEnds}
use Rattle.xdg_corpus.specs.Runs.{LeavesPart}
use Rattle.xdg_io.specs.Rose.{Rose}
use Rattle.xdg_inputs.specs.Runs.{Leaves, Unwritten}
use Rattle.xdg_inputs.specs.declared.status.Status.{Status}
use Rattle.xdg_inputs.specs.declared.status.Status.TheVariants as statuses
use Rattle.xdg_reports.specs.Runs.{ExplainEnds, EndsOf}
use Rattle.xdg_reports.specs.declared.reports.Report.TheVariants as reports
use Rattle.xdg_searches.specs.Runs.{ParseEnds, ResumeEnds, DrillEnds}

-- ---- what a command reads

-- the names of the files that a command reads
abbrev pub ReadsFile : Command → List ℕ → Type 0
ReadsFile (commands.Parse options) name = (name ≡ options.grammar) ⊎ (options.rules ≡ Some name)
ReadsFile (commands.Resume options) name = (name ≡ options.grammar) ⊎ ((options.rules ≡ Some name) ⊎ (name ≡ options.analysis))
ReadsFile (commands.Explain options) name = (name ≡ options.grammar) ⊎ ((options.rules ≡ Some name) ⊎ (name ≡ options.analysis))
ReadsFile (commands.Check grammar) name = name ≡ grammar
ReadsFile (commands.Lexicon grammar) name = name ≡ grammar
ReadsFile (commands.Print grammar) name = name ≡ grammar
ReadsFile (commands.Drill number) name = ⊥
ReadsFile (commands.Corpus options) name = name ≡ options.grammar
ReadsFile (commands.Arrange options) name = name ≡ options.grammar
ReadsFile (commands.Best options) name = (name ≡ options.grammar) ⊎ (name ≡ options.costs)

-- the command reads the input
abbrev pub ReadsInput : Command → Type 0
ReadsInput (commands.Parse options) = Unit {0}
ReadsInput (commands.Corpus options) = Unit {0}
ReadsInput (commands.Arrange options) = Unit {0}
ReadsInput (commands.Best options) = Unit {0}
ReadsInput command = ⊥

-- a grammar, rules or costs are refused, all of which are read before the input
abbrev pub IsRefusedFile : Status → Type 0
IsRefusedFile status = (status ≡ statuses.BadText) ⊎ ((status ≡ statuses.BadGrammar) ⊎ ((status ≡ statuses.BadRules) ⊎ (status ≡ statuses.BadCosts)))

-- a read of the command failed: the count of the shelf rose for a file that it reads, or that of the input, where it reads that
pub data FailsToRead (command : Command) (shelf_old shelf_new : List ℕ → ℕ) (input_old input_new : ℕ) : Type 0 where
  of_file : (name : List ℕ) → ReadsFile command name → Rose (shelf_old name) (shelf_new name) → FailsToRead command shelf_old shelf_new input_old input_new
  of_input : ReadsInput command → Rose input_old input_new → FailsToRead command shelf_old shelf_new input_old input_new

-- the words are a command, and a read of it failed
pub record ReadFailed (given : List (List ℕ)) (shelf_old shelf_new : List ℕ → ℕ) (input_old input_new : ℕ) : Type 0 where
  pub command : Command
  pub is : IsCommand given command
  pub failed : FailsToRead command shelf_old shelf_new input_old input_new

-- ---- whatever the devices tell

-- the statuses with which each command can end
abbrev pub EndsWith : Command → Status → Type 0
EndsWith (commands.Parse options) = ParseEnds
EndsWith (commands.Resume options) = ResumeEnds
EndsWith (commands.Explain options) = ExplainEnds
EndsWith (commands.Check grammar) = EndsOf reports.Check
EndsWith (commands.Lexicon grammar) = EndsOf reports.Lexicon
EndsWith (commands.Print grammar) = EndsOf reports.Print
EndsWith (commands.Drill number) = DrillEnds
EndsWith (commands.Corpus options) = CorpusEnds
EndsWith (commands.Arrange options) = ArrangeEnds
EndsWith (commands.Best options) = BestEnds

-- ---- what a command leaves

-- The commands that write some of their text before they have taken all memory: `corpus` the texts of a group, `arrange` what it finds of an
-- arrangement. Each other command takes all of it before it writes.
abbrev pub IsEarly : Command → Type 0
IsEarly (commands.Corpus options) = Unit {0}
IsEarly (commands.Arrange options) = Unit {0}
IsEarly command = ⊥

-- what a command leaves
abbrev pub LeavesOf : Command → (Status → List ℕ → Type 0) → Status → Option (List ℕ) → Option (List ℕ) → Type 0
LeavesOf (commands.Corpus options) O status old new = LeavesPart O status old new
LeavesOf (commands.Arrange options) O status old new = LeavesPart O status old new
LeavesOf command O status old new = Leaves O status old new

-- the words are one of those
abbrev pub AreEarly : List (List ℕ) → Type 0
AreEarly given = (command : Command) × IsCommand given command × IsEarly command

-- What words leave: where they aren't one of those, all memory was taken before something was written.
pub record LeavesBy (given : List (List ℕ)) (O : Status → List ℕ → Type 0) (status : Status) (old new : Option (List ℕ)) : Type 0 where
  pub part : LeavesPart O status old new
  pub at_once : (AreEarly given → ⊥) → Leaves O status old new

-- after a failed read nothing was added, and for want of memory nothing by another command than those
abbrev pub UnwrittenBy : Command → Status → Option (List ℕ) → Option (List ℕ) → Type 0
UnwrittenBy (commands.Corpus options) status old new = status ≡ statuses.ReadFault → new ≡ old
UnwrittenBy (commands.Arrange options) status old new = status ≡ statuses.ReadFault → new ≡ old
UnwrittenBy command status old new = Unwritten status old new

-- A command ends with one of its statuses. The count of the sink's failures stays, unless a write failed.
pub record CommandWrote (command : Command) (status : Status) (count_old count_new : ℕ) (old new : Option (List ℕ)) : Type 0 where
  pub ends : EndsWith command status
  pub unwritten : UnwrittenBy command status old new
  pub quiet : status ≢ statuses.WriteFault → count_new ≡ count_old
