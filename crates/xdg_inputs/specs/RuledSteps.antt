-- The steps of a command that reads rules, and searches or judges with them.
use Rattle.std.specs.Prelude.{ℕ, List, Option}
use Rattle.xdg_packed.specs.Entries.{IsWordPlace}
use Rattle.xdg_formula.specs.declared.tree.Rule.{Rule}
use Rattle.xdg_formula.specs.declared.tree.Rules.{Rules}
use Rattle.xdg_inputs.specs.Meanings.{Meaning}
use Rattle.xdg_inputs.specs.Grammars.{with_words}
use Rattle.xdg_inputs.specs.Outcomes.{Files}
use Rattle.xdg_inputs.specs.Stages.{Behind}
use Rattle.xdg_inputs.specs.declared.status.Status.{Status}
use Rattle.xdg_inputs.specs.declared.status.Status.TheVariants as statuses
use Rattle.xdg_problem.specs.declared.parts.Parts.{Parts}
use Rattle.xdg_inputs.specs.Files.{HasBadRules, HasRules}
use Rattle.xdg_inputs.specs.Ruled.{KeepsRules, ruled}

-- the file that is given has rules for the grammar, or there are none where none is given
abbrev pub RulesThen : Files → Option (List ℕ) → (Rules → Meaning → Status → List ℕ → Type 0) → Meaning → Status → List ℕ → Type 0
RulesThen files given next m = Behind Rules statuses.BadRules (HasBadRules files given m.table) (HasRules files given m.table) (λ rules. next rules m)

-- What comes next goes by a problem with rules. Its solutions are those in which each rule is true.
pub record WithRules (m : Meaning) (rules : List Rule) (parts : Parts) (next : Parts → Status → List ℕ → Type 0) (status : Status) (text : List ℕ) : Type 0
  where
    pub dim : ℕ
    pub field : ℕ
    pub place : IsWordPlace m.table dim field
    pub keeps : KeepsRules (with_words m dim field) rules parts (ruled (with_words m dim field) rules parts)
    pub follows : next (ruled (with_words m dim field) rules parts) status text
