-- The number with which the program ends.
use Rattle.std.specs.Prelude.{ℕ}
use Rattle.xdg_inputs.specs.declared.status.Status.{Status}
use Rattle.xdg_inputs.specs.declared.status.Status.TheVariants as statuses

abbrev pub code_of : Status → ℕ
code_of statuses.Done = 0
code_of statuses.Usage = 2
code_of statuses.BadText = 3
code_of statuses.BadGrammar = 4
code_of statuses.BadSentence = 5
code_of statuses.Spent = 6
code_of statuses.ReadFault = 7
code_of statuses.WriteFault = 8
code_of statuses.OutOfMemory = 9
code_of statuses.BadAnalysis = 10
code_of statuses.BadRules = 11
code_of statuses.BadCosts = 12
