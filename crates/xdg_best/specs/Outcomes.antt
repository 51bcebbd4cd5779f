-- The status and the text of `best`, as the files and the input alone determine them.
use Rattle.std.specs.Prelude.{◌≡◌, ℕ, Bool, true, false, List, length}
use Rattle.xdg_best.specs.declared.rounds.BestAnswer.{BestAnswer}
use Rattle.xdg_best.specs.Best.{IsAnswer}
use Rattle.xdg_best.specs.Costed.{HasBadCosts, HasCosts}
use Rattle.xdg_best.specs.CheapestTexts.{answer_text}
use Rattle.xdg_command.specs.declared.commands.BestOptions.{BestOptions}
use Rattle.xdg_inputs.specs.Meanings.{Meaning}
use Rattle.xdg_inputs.specs.Sentences.{HasProblem, IsBadSentence}
use Rattle.xdg_inputs.specs.Outcomes.{Files, GrammarThen}
use Rattle.xdg_inputs.specs.Stages.{Behind}
use Rattle.xdg_inputs.specs.declared.status.Status.{Status}
use Rattle.xdg_inputs.specs.declared.status.Status.TheVariants as statuses
use Rattle.xdg_problem.specs.Costs.{CostLists}
use Rattle.xdg_problem.specs.declared.parts.Parts.{Parts}

abbrev pub status_of : Bool → Status
status_of true = statuses.Spent
status_of false = statuses.Done

-- the rounds of a search with a budget come to an answer, and this is what is printed of it
pub record Searched (budget : ℕ) (costs : CostLists) (parts : Parts) (status : Status) (text : List ℕ) : Type 0 where
  pub answer : BestAnswer
  pub is : IsAnswer parts costs budget answer
  pub status_is : status ≡ status_of answer.spent
  pub text_is : text ≡ answer_text parts answer

-- the input is a sentence, and its problem is searched
abbrev pub CostedThen : BestOptions → List ℕ → Meaning → CostLists → Status → List ℕ → Type 0
CostedThen options input m costs =
    Behind Parts statuses.BadSentence (IsBadSentence m options.segment input) (HasProblem m options.segment input) (Searched options.budget costs)

-- a file has costs for the grammar
abbrev pub CostsThen : BestOptions → Files → List ℕ → Meaning → Status → List ℕ → Type 0
CostsThen options files input m =
    Behind CostLists statuses.BadCosts (HasBadCosts files options.costs m.table (length m.entries)) (HasCosts files options.costs m.table (length m.entries))
    (CostedThen options input m)

abbrev pub BestOf : BestOptions → Files → List ℕ → Status → List ℕ → Type 0
BestOf options files input = GrammarThen files options.grammar (λ read. CostsThen options files input)
