-- What the branches of a problem keep.
use Rattle.std.specs.Prelude.{◌≡◌, ◌↔◌, ℕ, suc, List, [], ◌∷◌, ◌++◌, length}
use Rattle.xdg_facts.specs.Order.{Less}
use Rattle.xdg_problem.specs.declared.analysis.Analysis.{Analysis}
use Rattle.xdg_problem.specs.declared.parts.Group.{Group}
use Rattle.xdg_problem.specs.declared.parts.Parts.{Parts}
use Rattle.xdg_problem.specs.Analyses.{IsAnalysis}
use Rattle.xdg_problem.specs.Branches.{BeginsAt, branch_group, branch_of, first_candidates}
use Rattle.xdg_problem.specs.Problems.{IsProblem}
use Rattle.xdg_problem.specs.Relations.{Relation}
use Rattle.xdg_problem.specs.Solutions.{IsSolution, IsSolutionList}
use Rattle.xdg_problem.specs.Vectors.{vector}

-- the vector of an analysis begins with the place of its first node's candidate, and in the branch with 0; else they are the same
pub record DifferInFirst (parts : Parts) (place : ℕ) (analysis : Analysis) : Type 0 where
  pub more : List ℕ
  pub whole : vector parts analysis ≡ place ∷ more
  pub branch : vector (branch_of parts place) analysis ≡ 0 ∷ more

-- what the branch at a place keeps
pub record BranchLaws (parts : Parts) (place : ℕ) : Type 0 where
  pub problem : IsProblem (branch_of parts place)
  -- an analysis fits the branch exactly where it fits the problem and begins with that candidate
  pub fits : (analysis : Analysis) → IsAnalysis (branch_of parts place) analysis ↔ (IsAnalysis parts analysis × BeginsAt parts place analysis)
  pub vectors : (analysis : Analysis) → IsAnalysis (branch_of parts place) analysis → DifferInFirst parts place analysis
  -- a principle use asks the same of it
  pub relations :
      (group : Group) (analysis : Analysis) → IsAnalysis (branch_of parts place) analysis
      → Relation (branch_of parts place) (branch_group place group) analysis ↔ Relation parts group analysis
  -- it is a solution of the branch exactly where it is one of the problem that begins so
  pub solutions : (analysis : Analysis) → IsSolution (branch_of parts place) analysis ↔ (IsSolution parts analysis × BeginsAt parts place analysis)
  -- the order among such analyses is the same
  pub order :
      (a b : Analysis) → IsAnalysis (branch_of parts place) a → IsAnalysis (branch_of parts place) b
      → Less (vector (branch_of parts place) a) (vector (branch_of parts place) b) ↔ Less (vector parts a) (vector parts b)

-- the lists of the solutions of the branches from a place on
abbrev pub AreBranchLists : Parts → ℕ → List (List Analysis) → Type 0
AreBranchLists parts place [] = Unit {0}
AreBranchLists parts place (list ∷ lists) = IsSolutionList (branch_of parts place) [] list × AreBranchLists parts (suc place) lists

-- lists one after another
abbrev pub joined : List (List Analysis) → List Analysis
joined [] = []
joined (list ∷ lists) = list ++ joined lists

-- the lists of all branches one after another are the list of the solutions
abbrev pub BranchesJoin : Parts → Type 0
BranchesJoin parts =
    (lists : List (List Analysis)) → length lists ≡ length (first_candidates parts) → AreBranchLists parts 0 lists → IsSolutionList parts [] (joined lists)
