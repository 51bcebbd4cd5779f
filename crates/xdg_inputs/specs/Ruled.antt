-- Problems with rules, and what they keep.
use Rattle.std.specs.Prelude.{◌≡◌, ◌↔◌, List, [], ◌∷◌, ◌++◌, All}
use Rattle.std.specs.List.{AllZip}
use Rattle.xdg_build.specs.Formulas.{formulas_of}
use Rattle.xdg_build.specs.Truths.{RuleHolds}
use Rattle.xdg_formula.specs.declared.tree.Rule.{Rule}
use Rattle.xdg_build.specs.Grammars.{Grammar}
use Rattle.xdg_problem.specs.declared.analysis.Analysis.{Analysis}
use Rattle.xdg_problem.specs.declared.parts.Group.{Group}
use Rattle.xdg_problem.specs.declared.parts.Parts.{Parts}
use Rattle.xdg_problem.specs.Analyses.{IsAnalysis}
use Rattle.xdg_problem.specs.Further.{rules_of, with_uses}
use Rattle.xdg_problem.specs.Places.{nodes}
use Rattle.xdg_problem.specs.Relations.{Relation}
use Rattle.xdg_problem.specs.Solutions.{IsSolution}
use Rattle.xdg_problem.specs.Vectors.{vector}

-- a problem of a grammar with rules: the formulas of these behind its principle uses, and the problem itself where there are none
abbrev pub ruled : Grammar → List Rule → Parts → Parts
ruled g [] parts = parts
ruled g (rule ∷ rules) parts = with_uses parts (rules_of parts (formulas_of g.table g.lexicon parts (rule ∷ rules)))

-- a use of a problem is kept by the analyses in which the rule is true, and by no other
abbrev pub IsUseOf : Grammar → Parts → Parts → Rule → Group → Type 0
IsUseOf g parts made rule group = (a : Analysis) → IsAnalysis parts a → Relation made group a ↔ RuleHolds g.table g.lexicon (nodes parts) a rule

-- the last uses of a problem, one for each rule
pub record HasUses (g : Grammar) (rules : List Rule) (parts made : Parts) : Type 0 where
  pub uses : List Group
  pub groups_are : made.groups ≡ parts.groups ++ uses
  pub each : AllZip (IsUseOf g parts made) rules uses

-- With rules a problem keeps its analyses and their order. Its solutions are those of the problem in which each rule is true.
pub record KeepsRules (g : Grammar) (rules : List Rule) (parts made : Parts) : Type 0 where
  pub fits : (a : Analysis) → IsAnalysis made a ↔ IsAnalysis parts a
  pub vectors : (a : Analysis) → vector made a ≡ vector parts a
  pub solutions : (a : Analysis) → IsSolution made a ↔ (IsSolution parts a × All (RuleHolds g.table g.lexicon (nodes parts) a) rules)
  pub uses : HasUses g rules parts made
