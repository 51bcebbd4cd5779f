-- The outcome of `arrange`, and with which statuses it can end.
use Rattle.std.specs.Prelude.{ℕ, List}
use Rattle.xdg_command.specs.declared.commands.ArrangeOptions.{ArrangeOptions}
use Rattle.xdg_inputs.specs.Meanings.{Meaning}
use Rattle.xdg_inputs.specs.Outcomes.{Files, GrammarThen}
use Rattle.xdg_inputs.specs.Stages.{Behind}
use Rattle.xdg_inputs.specs.declared.status.Status.{Status}
use Rattle.xdg_inputs.specs.declared.status.Status.TheVariants as statuses
use Rattle.xdg_arrange.specs.Lists.{HasList, IsBadList, Listed}
use Rattle.xdg_arrange.specs.Texts.{AreArranged}

-- the input has words, and their arrangements are printed
abbrev pub ListThen : ArrangeOptions → List ℕ → Meaning → Status → List ℕ → Type 0
ListThen options input m = Behind Listed statuses.BadSentence (IsBadList m options.segment input) (HasList m options.segment input) (AreArranged options.budget)

abbrev pub ArrangeOf : ArrangeOptions → Files → List ℕ → Status → List ℕ → Type 0
ArrangeOf options files input = GrammarThen files options.grammar (λ read. ListThen options input)

-- the statuses with which it can end: all but these
abbrev pub ArrangeEnds : Status → Type 0
ArrangeEnds statuses.Usage = ⊥
ArrangeEnds statuses.BadAnalysis = ⊥
ArrangeEnds statuses.BadRules = ⊥
ArrangeEnds statuses.BadCosts = ⊥
ArrangeEnds status = Unit {0}
