-- The statuses with which `best` can end: all but these.
use Rattle.xdg_inputs.specs.declared.status.Status.{Status}
use Rattle.xdg_inputs.specs.declared.status.Status.TheVariants as statuses

abbrev pub BestEnds : Status → Type 0
BestEnds statuses.Usage = ⊥
BestEnds statuses.BadAnalysis = ⊥
BestEnds statuses.BadRules = ⊥
BestEnds status = Unit {0}
