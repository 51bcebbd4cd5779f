-- The statuses with which `check`, `lexicon`, `print` and `explain` can end: all but these.
use Rattle.xdg_inputs.specs.declared.status.Status.TheVariants as statuses
use Rattle.xdg_inputs.specs.declared.status.Status.{Status}
use Rattle.xdg_reports.specs.declared.reports.Report.{Report}
use Rattle.xdg_reports.specs.declared.reports.Report.TheVariants as reports

abbrev pub ExplainEnds : Status → Type 0
ExplainEnds statuses.Usage = ⊥
ExplainEnds statuses.BadSentence = ⊥
ExplainEnds statuses.Spent = ⊥
ExplainEnds statuses.BadCosts = ⊥
ExplainEnds status = Unit {0}

-- `check` and `lexicon`
abbrev pub ReportEnds : Status → Type 0
ReportEnds statuses.Usage = ⊥
ReportEnds statuses.BadSentence = ⊥
ReportEnds statuses.Spent = ⊥
ReportEnds statuses.BadAnalysis = ⊥
ReportEnds statuses.BadRules = ⊥
ReportEnds statuses.BadCosts = ⊥
ReportEnds status = Unit {0}

abbrev pub PrintEnds : Status → Type 0
PrintEnds statuses.Usage = ⊥
PrintEnds statuses.BadGrammar = ⊥
PrintEnds statuses.BadSentence = ⊥
PrintEnds statuses.Spent = ⊥
PrintEnds statuses.BadAnalysis = ⊥
PrintEnds statuses.BadRules = ⊥
PrintEnds statuses.BadCosts = ⊥
PrintEnds status = Unit {0}

abbrev pub EndsOf : Report → Status → Type 0
EndsOf reports.Print = PrintEnds
EndsOf report = ReportEnds
