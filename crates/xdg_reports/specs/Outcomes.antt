-- The status and the text of `check`, `lexicon`, `print` and `explain`, as the files alone determine them.
use Rattle.std.specs.Prelude.{◌≡◌, ℕ, List, [], ◌∷◌, length, codes, decimal}
use Rattle.xdg_ast.specs.Canon.{canon}
use Rattle.xdg_classes.specs.Definitions.{classes}
use Rattle.xdg_command.specs.declared.commands.ExplainOptions.{ExplainOptions}
use Rattle.xdg_formula.specs.declared.tree.Rules.{Rules}
use Rattle.xdg_inputs.specs.Meanings.{Meaning}
use Rattle.xdg_judge.specs.declared.verdict.Verdict.{Verdict}
use Rattle.xdg_judge.specs.Verdicts.{AreVerdicts}
use Rattle.xdg_print.specs.LexiconText.{lexicon_text}
use Rattle.xdg_problem.specs.declared.analysis.Analysis.{Analysis}
use Rattle.xdg_problem.specs.declared.parts.Parts.{Parts}
use Rattle.xdg_inputs.specs.RuledSteps.{RulesThen, WithRules}
use Rattle.xdg_text.specs.Lines.{line}
use Rattle.xdg_reports.specs.VerdictsText.{verdicts_text}
use Rattle.xdg_inputs.specs.Outcomes.{Files, ReadThen, MeaningThen, GrammarThen, IsDone}
use Rattle.xdg_inputs.specs.GrammarFiles.{ReadText}
use Rattle.xdg_inputs.specs.declared.status.Status.TheVariants as statuses
use Rattle.xdg_inputs.specs.declared.status.Status.{Status}
use Rattle.xdg_inputs.specs.Analyses.{Analysed}
use Rattle.xdg_inputs.specs.AnalysisSteps.{AnalysisThen}
use Rattle.xdg_reports.specs.declared.reports.Report.{Report}
use Rattle.xdg_reports.specs.declared.reports.Report.TheVariants as reports

-- ---- `explain`

-- the verdicts on an analysis of a problem, whose last uses are these rules
pub record Judged (rules : Rules) (analysis : Analysis) (parts : Parts) (status : Status) (text : List ℕ) : Type 0 where
  pub done : status ≡ statuses.Done
  pub verdicts : List Verdict
  pub are : AreVerdicts parts analysis parts.groups verdicts
  pub text_is : text ≡ verdicts_text parts rules.rules verdicts

-- the analysis of a file is judged, and the rules with the uses of its problem
abbrev pub Explained : Rules → Meaning → Analysed → Status → List ℕ → Type 0
Explained rules m analysed = WithRules m rules.rules analysed.parts (Judged rules analysed.analysis)

-- a file has an analysis, which is judged
abbrev pub ExplainThen : ExplainOptions → Files → Rules → Meaning → Status → List ℕ → Type 0
ExplainThen options files rules m = AnalysisThen files options.analysis (Explained rules m) m

abbrev pub ExplainOf : ExplainOptions → Files → Status → List ℕ → Type 0
ExplainOf options files = GrammarThen files options.grammar (λ read. RulesThen files options.rules (ExplainThen options files))

-- ---- `check`, `lexicon` and `print`

-- `ok dims D classes C entries E`
abbrev pub counts_line : ℕ → ℕ → ℕ → List ℕ
counts_line dims classes entries = line (codes "ok") (codes "dims" ∷ decimal dims ∷ codes "classes" ∷ decimal classes ∷ codes "entries" ∷ decimal entries ∷ [])

-- the numbers of used dimensions, of classes and of entries
abbrev pub check_line : ReadText → Meaning → List ℕ
check_line read m = counts_line (length m.table.used) (length (classes read.tree.statements)) (length m.entries)

-- what a report tells of a grammar that was read
abbrev pub ReportThen : Report → ReadText → Status → List ℕ → Type 0
ReportThen reports.Check read = MeaningThen read (λ m. IsDone (check_line read m))
ReportThen reports.Lexicon read = MeaningThen read (λ m. IsDone (lexicon_text m.table m.entries))
ReportThen reports.Print read = IsDone (canon read.tree)

abbrev pub ReportOf : Report → List ℕ → Files → Status → List ℕ → Type 0
ReportOf report grammar files = ReadThen files grammar (ReportThen report)
