-- What values of claims in boxes keep.
use Rattle.std.specs.Prelude.{◌≡◌, ℕ, Bool, List, Option, Some, None, Contains}
use Rattle.xdg_problem.specs.declared.analysis.Analysis.{Analysis}
use Rattle.xdg_problem.specs.declared.parts.Parts.{Parts}
use Rattle.xdg_problem.specs.Analyses.{IsAnalysis}
use Rattle.xdg_problem.specs.Boxes.{IsBox, LiesIn, IsSingle, IsIn}
use Rattle.xdg_problem.specs.Vectors.{shape, vector, analysis_of}
use Rattle.xdg_rules.specs.Boxed.{first_numbers}
use Rattle.xdg_problem.specs.Claims.{Claim}
use Rattle.xdg_problem.specs.Truths.{IsTrueIn, HasTruth}
use Rattle.xdg_rules.specs.Worths.{IsWorth}

-- a claim has one value in a box, and no other
pub record HasOneWorth (parts : Parts) (box : List (List Bool)) (c : Claim) (b : ℕ → ℕ) : Type 0 where
  pub value : Option Bool
  pub is : IsWorth parts box c b value
  pub only : (other : Option Bool) → IsWorth parts box c b other → other ≡ value

-- what the value of a claim keeps
pub record WorthLaws (parts : Parts) (c : Claim) (b : ℕ → ℕ) : Type 0 where
  -- it is one in each box
  pub one : (box : List (List Bool)) → IsBox (shape parts) box → HasOneWorth parts box c b
  -- where it isn't open, each analysis of the box has that truth
  pub truth :
      (box : List (List Bool)) (value : Bool) → IsWorth parts box c b (Some value) → (analysis : Analysis) → IsAnalysis parts analysis
      → IsIn box (vector parts analysis) → HasTruth value (IsTrueIn parts analysis c b)
  -- and each box that lies in the box has that value
  pub smaller : (small large : List (List Bool)) → IsBox (shape parts) small → LiesIn small large → (value : Bool) → IsWorth parts large c b (Some value)
      → IsWorth parts small c b (Some value)
  -- in a box of single values it isn't open
  pub single : (box : List (List Bool)) → IsBox (shape parts) box → IsSingle box → IsWorth parts box c b None → ⊥
  -- it is the truth that their analysis has
  pub alone :
      (box : List (List Bool)) → IsBox (shape parts) box → IsSingle box → (value : Bool)
      → HasTruth value (IsTrueIn parts (analysis_of parts (first_numbers box)) c b)
      → IsWorth parts box c b (Some value)

-- two bindings agree on some names
abbrev pub Agree : List ℕ → (ℕ → ℕ) → (ℕ → ℕ) → Type 0
Agree scope a b = (name : ℕ) → Contains scope name → a name ≡ b name

-- what a claim is goes by its bound names alone, so a formula, all of whose names are bound by its quantifiers, is true or false
-- and has its value whatever names stand for
pub record NameLaws (parts : Parts) (scope : List ℕ) (c : Claim) : Type 0 where
  pub truth : (analysis : Analysis) (a b : ℕ → ℕ) → Agree scope a b → IsTrueIn parts analysis c a → IsTrueIn parts analysis c b
  pub worth : (box : List (List Bool)) (value : Option Bool) (a b : ℕ → ℕ) → Agree scope a b → IsWorth parts box c a value → IsWorth parts box c b value
