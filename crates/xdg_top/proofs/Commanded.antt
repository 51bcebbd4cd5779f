-- What a run leaves, from what its command leaves.
use Rattle.std.proofs.Common.{◌≡◌, ◌<◌, ◌≤◌, ◌⊎◌, inl, inr, ℕ, List, Some, None, refl, sym, subst, arith}
use Rattle.std.specs.Prelude.{◌≢◌, Option, codes}
use Rattle.xdg_command.specs.Answers.{IsExactly}
use Rattle.xdg_split.specs.Written.{IsSome}
use Rattle.xdg_command.specs.Commands.{HasBudget, HasFirst, IsCommand}
use Rattle.xdg_command.specs.Items.{value_of}
use Rattle.xdg_command.specs.declared.commands.Command.{Command}
use Rattle.xdg_command.specs.declared.commands.Command.TheVariants as commands
use Rattle.xdg_corpus.specs.Outcomes.{CorpusEnds}
use Rattle.xdg_corpus.specs.Runs.{LeavesPart}
use Rattle.xdg_corpus.proofs.Parting.{leaves_part, memory_part}
use Rattle.xdg_io.specs.Rose.{Rose}
use Rattle.xdg_text.specs.Lines.{usage_line}
use Rattle.xdg_inputs.specs.Outcomes.{Files}
use Rattle.xdg_inputs.specs.Files.{RoseFor}
use Rattle.xdg_top.specs.Outcomes.{CommandOf, IsNoCommand, IsUsage, OutcomeOf, WantsSome, usage, commanded}
use Rattle.xdg_inputs.specs.Runs.{Ends, Leaves, LeavesFront, Unwritten, Wrote}
use Rattle.xdg_top.specs.Runs.{AreEarly, CommandWrote, EndsWith, FailsToRead, IsRefusedFile, LeavesBy, LeavesOf, ReadsFile, ReadsInput, UnwrittenBy, of_file, of_input}
use Rattle.xdg_inputs.specs.declared.status.Status.{Status}
use Rattle.xdg_inputs.specs.declared.status.Status.TheVariants as statuses
use Rattle.xdg_inputs.proofs.Leaving.{IsOnly}

-- the outcomes of words that are a command are those of the command
of_command : (given : List (List ℕ)) (files : Files) (input : List ℕ) (command : Command) → IsCommand given command → ((b : Command) → IsCommand given b → b ≡ command) → (status : Status) (text : List ℕ) → OutcomeOf given files input status text → CommandOf command files input status text
of_command given files input command is one status text (usage none s t) = absurd (none command is)
of_command given files input command is one status text (commanded other q o) = subst (λ z. CommandOf z files input status text) (one other q) o

command_ends : (given : List (List ℕ)) (files : Files) (input : List ℕ) (command : Command) (result : Status) (old new : Option (List ℕ)) → IsCommand given command → ((b : Command) → IsCommand given b → b ≡ command) → Ends (CommandOf command files input) result old new → Ends (OutcomeOf given files input) result old new
command_ends given files input command result old new is one e = record {
  text = e.text;
  outcome = commanded command is e.outcome;
  only = λ other more o. e.only other more (of_command given files input command is one other more o);
  appends = e.appends;
}

pub run_leaves : (given : List (List ℕ)) (files : Files) (input : List ℕ) (command : Command) (result : Status) (old new : Option (List ℕ)) → IsCommand given command → ((b : Command) → IsCommand given b → b ≡ command) → Leaves (CommandOf command files input) result old new → Leaves (OutcomeOf given files input) result old new
run_leaves given files input command statuses.ReadFault old new is one e = e
run_leaves given files input command statuses.OutOfMemory old new is one e = e
run_leaves given files input command statuses.WriteFault old new is one e = λ status text o. e status text (of_command given files input command is one status text o)
run_leaves given files input command result old new is one e = command_ends given files input command result old new is one e

run_part : (given : List (List ℕ)) (files : Files) (input : List ℕ) (command : Command) (result : Status) (old new : Option (List ℕ)) → IsCommand given command → ((b : Command) → IsCommand given b → b ≡ command) → LeavesPart (CommandOf command files input) result old new
    → LeavesPart (OutcomeOf given files input) result old new
run_part given files input command statuses.ReadFault old new is one e = e
run_part given files input command statuses.OutOfMemory old new is one e = λ status text o. e status text (of_command given files input command is one status text o)
run_part given files input command statuses.WriteFault old new is one e = λ status text o. e status text (of_command given files input command is one status text o)
run_part given files input command result old new is one e = command_ends given files input command result old new is one e

-- what a command leaves that takes all its memory before it writes
at_once : (given : List (List ℕ)) (files : Files) (input : List ℕ) (command : Command) (result : Status) (old new : Option (List ℕ)) → IsCommand given command → ((b : Command) → IsCommand given b → b ≡ command) → Leaves (CommandOf command files input) result old new
    → LeavesBy given (OutcomeOf given files input) result old new
at_once given files input command result old new is one leaves =
    let all = run_leaves given files input command result old new is one leaves in
    record { part = leaves_part (OutcomeOf given files input) result old new all; at_once = λ other. all }

-- what a command leaves is what its words leave
pub words_leave : (given : List (List ℕ)) (files : Files) (input : List ℕ) (command : Command) (result : Status) (old new : Option (List ℕ)) → IsCommand given command → ((b : Command) → IsCommand given b → b ≡ command) → LeavesOf command (CommandOf command files input) result old new
    → LeavesBy given (OutcomeOf given files input) result old new
words_leave given files input (commands.Corpus options) result old new is one leaves =
    record { part = run_part given files input (commands.Corpus options) result old new is one leaves; at_once = λ other. absurd (other (commands.Corpus options, is, tt)) }
words_leave given files input (commands.Arrange options) result old new is one leaves =
    record { part = run_part given files input (commands.Arrange options) result old new is one leaves; at_once = λ other. absurd (other (commands.Arrange options, is, tt)) }
words_leave given files input command result old new is one leaves = at_once given files input command result old new is one leaves

-- for want of memory nothing was added
pub memory_leaves : (given : List (List ℕ)) (O : Status → List ℕ → Type 0) (held : Option (List ℕ)) → LeavesBy given O statuses.OutOfMemory held held
memory_leaves given O held = record { part = memory_part O held; at_once = λ other. refl }

pub memory_left : (command : Command) (O : Status → List ℕ → Type 0) (held : Option (List ℕ)) → LeavesOf command O statuses.OutOfMemory held held
memory_left (commands.Corpus options) O held = memory_part O held
memory_left (commands.Arrange options) O held = memory_part O held
memory_left other O held = refl

-- words that are no command write the usage line, or nothing
pub usage_leaves : (given : List (List ℕ)) (O : Status → List ℕ → Type 0) (result : Status) (old new : Option (List ℕ)) → Leaves O result old new → LeavesBy given O result old new
usage_leaves given O result old new leaves = record { part = leaves_part O result old new leaves; at_once = λ other. leaves }

-- the line of words that are no command
pub usage_alone : IsOnly IsUsage statuses.Usage usage_line
usage_alone = record { is = (refl, refl); only = λ other more o. (sym o.0, sym o.1) }

-- words that are no command
pub only_usage : (given : List (List ℕ)) (files : Files) (input : List ℕ) → IsNoCommand given → IsOnly (OutcomeOf given files input) statuses.Usage usage_line
only_usage given files input none = record { is = usage none refl refl; only = λ other more o. same other more o }
  where
    same : (other : Status) (more : List ℕ) → OutcomeOf given files input other more → (statuses.Usage ≡ other) × (usage_line ≡ more)
    same other more (usage none_too s t) = (sym s, sym t)
    same other more (commanded command q o) = absurd (none command q)

-- ---- what the words say

-- the command of the words, which is this one
abbrev pub IsTheCommand : List (List ℕ) → Command → Type 0
IsTheCommand given command = IsCommand given command × ((b : Command) → IsCommand given b → b ≡ command)

pub the_command : (given : List (List ℕ)) (told : Option Command) (command : Command) → told ≡ Some command → IsExactly (IsCommand given) told → IsTheCommand given command
the_command given told command e exact = subst (IsExactly (IsCommand given)) e exact

pub the_none : (given : List (List ℕ)) (told : Option Command) → told ≡ None → IsExactly (IsCommand given) told → IsNoCommand given
the_none given told e exact = subst (IsExactly (IsCommand given)) e exact

some_first : (told : Option (List ℕ)) (first : Option ℕ) → HasFirst told first → IsSome first
some_first None None has = tt
some_first None (Some first) has = absurd has
some_first (Some text) None has = tt
some_first (Some text) (Some first) has = has.above

-- a budget is in its range
in_range : (told : Option (List ℕ)) (budget : ℕ) → HasBudget told budget → (1 ≤ budget) × (budget ≤ 1000000000)
in_range None budget has = (omega (arith, has), omega (arith, has))
in_range (Some text) budget has = (has.above, has.below)

-- a command that words are asks for no analyses or for some
pub wants_some : (given : List (List ℕ)) (command : Command) → IsCommand given command → WantsSome command
wants_some given (commands.Parse options) is =
    let range = in_range (value_of (codes "budget") is.items) options.budget is.says.budget in
    record { some = range.0; most = range.1; first = some_first (value_of (codes "first") is.items) options.first is.says.first }
wants_some given (commands.Resume options) is = some_first (value_of (codes "first") is.items) options.first is.says.first
wants_some given (commands.Corpus options) is =
    let range = in_range (value_of (codes "budget") is.items) options.budget is.says.budget in
    record { some = range.0; most = range.1; first = some_first (value_of (codes "first") is.items) options.first is.says.first }
wants_some given (commands.Best options) is = (in_range (value_of (codes "budget") is.items) options.budget is.says.budget).0
wants_some given command is = tt

-- what is left for the command is left for any that the words are
pub asked_leaves : (given : List (List ℕ)) (files : Files) (input : List ℕ) (command asked : Command) (result : Status) (old new : Option (List ℕ)) → IsTheCommand given command → IsCommand given asked → LeavesOf command (CommandOf command files input) result old new → LeavesOf asked (CommandOf asked files input) result old new
asked_leaves given files input command asked result old new exact is leaves = subst (λ z. LeavesOf z (CommandOf z files input) result old new) (sym (exact.1 asked is)) leaves

-- no command ends as words that are none
never_usage : (command : Command) → EndsWith command statuses.Usage → ⊥
never_usage (commands.Parse options) e = e
never_usage other e = e

-- each may end for want of memory
pub memory_ends : (command : Command) → EndsWith command statuses.OutOfMemory
memory_ends (commands.Parse options) = tt
memory_ends other = tt

pub not_usage : (command : Command) (result : Status) → EndsWith command result → result ≡ statuses.Usage → ⊥
not_usage command result ends e = never_usage command (subst (EndsWith command) e ends)

-- a corpus whose lines are searched is done
pub corpus_done : (result : Status) → CorpusEnds result → (result ≡ statuses.Done) ⊎ (result ≡ statuses.Spent) → result ≡ statuses.Done
corpus_done result ends (inl done) = done
corpus_done result ends (inr spent) = absurd (subst CorpusEnds spent ends)

-- where a front was added for want of memory, the rest is left
pub front_part : (O : Status → List ℕ → Type 0) (result : Status) (old new : Option (List ℕ)) → LeavesFront O result old new → LeavesPart O result old new
front_part O statuses.ReadFault old new e = e
front_part O statuses.OutOfMemory old new e = λ status text o. let f = e status text o in (f.rest, record { front = f.front; parts = f.parts; appends = f.appends })
front_part O statuses.WriteFault old new e = e
front_part O result old new e = e

-- a count that rose though only a failed read raises it
pub read_won : (status : Status) (old new : ℕ) → (status ≢ statuses.ReadFault → new ≡ old) → old < new → status ≡ statuses.ReadFault
read_won statuses.ReadFault old new quiet rose = refl
read_won status old new quiet rose = absurd (let same : new ≡ old = quiet (λ e. cc) in omega (arith, rose, same))

-- ---- the command that is given

pub said_leaves : (files : Files) (input : List ℕ) (command said : Command) (result : Status) (old new : Option (List ℕ)) → command ≡ said → LeavesOf said (CommandOf said files input) result old new → LeavesOf command (CommandOf command files input) result old new
said_leaves files input command said result old new e leaves = subst (λ z. LeavesOf z (CommandOf z files input) result old new) (sym e) leaves

pub said_wrote : (command said : Command) (result : Status) (count_old count_new : ℕ) (old new : Option (List ℕ)) → command ≡ said → (Unwritten result old new → UnwrittenBy said result old new) → Wrote (EndsWith said) result count_old count_new old new
    → CommandWrote command result count_old count_new old new
said_wrote command said result count_old count_new old new e by wrote =
    record { ends = subst (λ z. EndsWith z result) (sym e) wrote.ends; unwritten = subst (λ z. UnwrittenBy z result old new) (sym e) (by wrote.unwritten); quiet = wrote.quiet }

-- the same of one that may have written before
pub early_wrote : (command said : Command) (result : Status) (count_old count_new : ℕ) (old new : Option (List ℕ)) → command ≡ said → EndsWith said result → UnwrittenBy said result old new → (result ≢ statuses.WriteFault → count_new ≡ count_old)
    → CommandWrote command result count_old count_new old new
early_wrote command said result count_old count_new old new e ends unwritten quiet =
    record { ends = subst (λ z. EndsWith z result) (sym e) ends; unwritten = subst (λ z. UnwrittenBy z result old new) (sym e) unwritten; quiet = quiet }

without : (given : List (List ℕ)) (result : Status) → (result ≡ statuses.ReadFault) ⊎ ((result ≡ statuses.OutOfMemory) × (AreEarly given → ⊥)) → (result ≡ statuses.ReadFault) ⊎ (result ≡ statuses.OutOfMemory)
without given result (inl read) = inl read
without given result (inr memory) = inr memory.0

-- nothing was added
pub nothing_added : (given : List (List ℕ)) (command : Command) (result : Status) (old new : Option (List ℕ)) → IsCommand given command → UnwrittenBy command result old new → (result ≡ statuses.ReadFault) ⊎ ((result ≡ statuses.OutOfMemory) × (AreEarly given → ⊥)) → new ≡ old
nothing_added given (commands.Corpus options) result old new is unwritten (inl read) = unwritten read
nothing_added given (commands.Corpus options) result old new is unwritten (inr memory) = absurd (memory.1 (commands.Corpus options, is, tt))
nothing_added given (commands.Arrange options) result old new is unwritten (inl read) = unwritten read
nothing_added given (commands.Arrange options) result old new is unwritten (inr memory) = absurd (memory.1 (commands.Arrange options, is, tt))
nothing_added given command result old new is unwritten ended = unwritten (without given result ended)

pub said_reads : (command said : Command) → command ≡ said → ReadsInput said → ReadsInput command
said_reads command said e reads = subst ReadsInput (sym e) reads

-- a file that the command reads failed
pub file_failed : (command said : Command) (name : List ℕ) (shelf_old shelf_new : List ℕ → ℕ) (input_old input_new : ℕ) → command ≡ said → ReadsFile said name → Rose (shelf_old name) (shelf_new name) → FailsToRead command shelf_old shelf_new input_old input_new
file_failed command said name shelf_old shelf_new input_old input_new e reads rose = of_file name (subst (λ z. ReadsFile z name) (sym e) reads) rose

-- the file that is given failed
given_failed : (command said : Command) (given : Option (List ℕ)) (shelf_old shelf_new : List ℕ → ℕ) (input_old input_new : ℕ) → command ≡ said → ((name : List ℕ) → given ≡ Some name → ReadsFile said name) → RoseFor given shelf_old shelf_new → FailsToRead command shelf_old shelf_new input_old input_new
given_failed command said None shelf_old shelf_new input_old input_new e reads rose = absurd rose
given_failed command said (Some name) shelf_old shelf_new input_old input_new e reads rose = file_failed command said name shelf_old shelf_new input_old input_new e (reads name refl) rose

-- a read of a command that reads a grammar, rules where they are given, and something else failed
pub ruled_failed : (command said : Command) (grammar : List ℕ) (given : Option (List ℕ)) (Other : Type 0) (shelf_old shelf_new : List ℕ → ℕ) (input_old input_new : ℕ) → command ≡ said → ReadsFile said grammar → ((name : List ℕ) → given ≡ Some name → ReadsFile said name)
    → (Other → FailsToRead command shelf_old shelf_new input_old input_new) → Rose (shelf_old grammar) (shelf_new grammar) ⊎ (RoseFor given shelf_old shelf_new ⊎ Other) → FailsToRead command shelf_old shelf_new input_old input_new
ruled_failed command said grammar given Other shelf_old shelf_new input_old input_new e file rules other (inl rose) = file_failed command said grammar shelf_old shelf_new input_old input_new e file rose
ruled_failed command said grammar given Other shelf_old shelf_new input_old input_new e file rules other (inr (inl rose)) = given_failed command said given shelf_old shelf_new input_old input_new e rules rose
ruled_failed command said grammar given Other shelf_old shelf_new input_old input_new e file rules other (inr (inr failed)) = other failed

-- a read of a command that reads a grammar and the input failed
pub reads_failed : (command said : Command) (grammar : List ℕ) (shelf_old shelf_new : List ℕ → ℕ) (input_old input_new : ℕ) → command ≡ said → ReadsFile said grammar → ReadsInput said → Rose (shelf_old grammar) (shelf_new grammar) ⊎ Rose input_old input_new
    → FailsToRead command shelf_old shelf_new input_old input_new
reads_failed command said grammar shelf_old shelf_new input_old input_new e file input (inl rose) = file_failed command said grammar shelf_old shelf_new input_old input_new e file rose
reads_failed command said grammar shelf_old shelf_new input_old input_new e file input (inr rose) = of_input (said_reads command said e input) rose

-- and of one that reads another file between them
pub all_failed : (command said : Command) (grammar other : List ℕ) (shelf_old shelf_new : List ℕ → ℕ) (input_old input_new : ℕ) → command ≡ said → ReadsFile said grammar → ReadsFile said other → ReadsInput said
    → Rose (shelf_old grammar) (shelf_new grammar) ⊎ (Rose (shelf_old other) (shelf_new other) ⊎ Rose input_old input_new) → FailsToRead command shelf_old shelf_new input_old input_new
all_failed command said grammar other shelf_old shelf_new input_old input_new e file further input (inl rose) = file_failed command said grammar shelf_old shelf_new input_old input_new e file rose
all_failed command said grammar other shelf_old shelf_new input_old input_new e file further input (inr rose) = reads_failed command said other shelf_old shelf_new input_old input_new e further input rose

-- ---- the input stays

-- a command that ends without some of these statuses
pub refused_file : (P : Status → Type 0) (result : Status) (Same : Type 0) → P result → (P statuses.BadRules → result ≡ statuses.BadRules → Same) → (P statuses.BadCosts → result ≡ statuses.BadCosts → Same) → ((result ≡ statuses.BadText) ⊎ (result ≡ statuses.BadGrammar) → Same) → IsRefusedFile result → Same
refused_file P result Same ends rules costs grammar (inl text) = grammar (inl text)
refused_file P result Same ends rules costs grammar (inr (inl bad)) = grammar (inr bad)
refused_file P result Same ends rules costs grammar (inr (inr (inl bad))) = rules (subst P bad ends) bad
refused_file P result Same ends rules costs grammar (inr (inr (inr bad))) = costs (subst P bad ends) bad
