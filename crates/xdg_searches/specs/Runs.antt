-- The statuses with which `parse`, `resume` and `drill` can end: all but these.
use Rattle.xdg_inputs.specs.declared.status.Status.TheVariants as statuses
use Rattle.xdg_inputs.specs.declared.status.Status.{Status}

abbrev pub ParseEnds : Status → Type 0
ParseEnds statuses.Usage = ⊥
ParseEnds statuses.BadAnalysis = ⊥
ParseEnds statuses.BadCosts = ⊥
ParseEnds status = Unit {0}

abbrev pub ResumeEnds : Status → Type 0
ResumeEnds statuses.Usage = ⊥
ResumeEnds statuses.BadSentence = ⊥
ResumeEnds statuses.BadCosts = ⊥
ResumeEnds status = Unit {0}

-- `drill`, which reads nothing
abbrev pub DrillEnds : Status → Type 0
DrillEnds statuses.Usage = ⊥
DrillEnds statuses.ReadFault = ⊥
DrillEnds statuses.BadAnalysis = ⊥
DrillEnds statuses.BadRules = ⊥
DrillEnds statuses.BadCosts = ⊥
DrillEnds status = Unit {0}
