-- That the verdicts on an analysis have one text.
use Rattle.std.specs.Prelude.{◌≡◌, List}
use Rattle.xdg_formula.specs.declared.tree.Rule.{Rule}
use Rattle.xdg_problem.specs.declared.analysis.Analysis.{Analysis}
use Rattle.xdg_problem.specs.declared.parts.Parts.{Parts}
use Rattle.xdg_judge.specs.declared.verdict.Verdict.{Verdict}
use Rattle.xdg_judge.specs.Verdicts.{AreVerdicts}
use Rattle.xdg_reports.specs.VerdictsText.{verdicts_text}

-- whatever verdicts on an analysis are right, what is printed of them is one text
abbrev pub IsOneText : Parts → List Rule → Type 0
IsOneText parts rules =
    (a : Analysis) (one other : List Verdict) → AreVerdicts parts a parts.groups one → AreVerdicts parts a parts.groups other
    → verdicts_text parts rules one ≡ verdicts_text parts rules other
