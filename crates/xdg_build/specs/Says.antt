-- What a formula of a problem says, beside what a rule says.
use Rattle.std.specs.Prelude.{◌≡◌, ◌↔◌, ℕ, ◌<◌, List, [], length, get_or, Contains}
use Rattle.std.specs.List.{AllZip}
use Rattle.xdg_packed.specs.Lexicon.{Lexicon}
use Rattle.xdg_problem.specs.declared.analysis.Analysis.{Analysis}
use Rattle.xdg_problem.specs.declared.formula.Formula.{Formula}
use Rattle.xdg_problem.specs.declared.parts.Parts.{Parts}
use Rattle.xdg_problem.specs.Analyses.{IsAnalysis}
use Rattle.xdg_problem.specs.Claims.{Claim, IsOf, IsBound, Suits}
use Rattle.xdg_problem.specs.Places.{nodes}
use Rattle.xdg_problem.specs.Truths.{IsTrueIn, FormulaHolds}
use Rattle.xdg_types.specs.Table.{Table}
use Rattle.xdg_formula.specs.declared.tree.Rule.{Rule}
use Rattle.xdg_formula.specs.Written.{Tree}
use Rattle.xdg_build.specs.Truths.{Binding, IsTrue, RuleHolds}

-- ---- formulas

-- the number of each name that is bound stands for the node that the name stands for
abbrev pub Agree : ℕ → List (List ℕ) → Binding → (ℕ → ℕ) → Type 0
Agree count scope b numbered = (i : ℕ) → i < length scope → (numbered i ≡ b (get_or scope i [])) × (numbered i < count)

-- A claim says of each analysis of the problem what the formula says, the names that are bound being numbered in their order; what it names is
-- there.
pub record Says (table : Table) (lexicon : Lexicon) (parts : Parts) (scope : List (List ℕ)) (t : Tree) (c : Claim) : Type 0 where
  pub is_of : IsOf parts c
  pub bound : (numbers : List ℕ) → ((i : ℕ) → i < length scope → Contains numbers i) → IsBound numbers c
  pub same : (a : Analysis) → IsAnalysis parts a → (b : Binding) (numbered : ℕ → ℕ) → Agree (nodes parts) scope b numbered
      → IsTrueIn parts a c numbered ↔ IsTrue table lexicon (nodes parts) a t b

-- ---- rules

-- the formula suits the problem, and is true in each analysis of it in which the rule is true, and in no other
pub record Keeps (table : Table) (lexicon : Lexicon) (parts : Parts) (rule : Rule) (formula : Formula) : Type 0 where
  pub suits : Suits parts formula
  pub same : (a : Analysis) → IsAnalysis parts a → FormulaHolds parts a formula ↔ RuleHolds table lexicon (nodes parts) a rule

-- one formula for each rule, in their order
abbrev pub KeepsEach : Table → Lexicon → Parts → List Rule → List Formula → Type 0
KeepsEach table lexicon parts = AllZip (Keeps table lexicon parts)
