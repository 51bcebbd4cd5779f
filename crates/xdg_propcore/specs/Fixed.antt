-- The greatest closed box inside a box.
use Rattle.std.specs.Prelude.{◌≢◌, ℕ, List, Bool, All}
use Rattle.xdg_problem.specs.declared.parts.Parts.{Parts}
use Rattle.xdg_problem.specs.declared.analysis.Analysis.{Analysis}
use Rattle.xdg_problem.specs.Analyses.{IsAnalysis}
use Rattle.xdg_problem.specs.Boxes.{IsBox, IsIn, LiesIn}
use Rattle.xdg_problem.specs.Vectors.{shape, vector}
use Rattle.xdg_store.specs.States.{State}
use Rattle.xdg_propcore.specs.Uses.{IsClosedBy, Satisfies}
use Rattle.xdg_propcore.specs.declared.fixpoint.Fixpoint.{Fixpoint}
use Rattle.xdg_propcore.specs.declared.fixpoint.Fixpoint.TheVariants as fixpoints

-- a box of the sentence's shape that is closed for all propagators
pub record IsClosedByAll {P : Type 0} (stands : P → Parts → ℕ → Type 0) (props : List P) (parts : Parts) (box : List (List Bool)) : Type 0 where
  pub is : IsBox (shape parts) box
  pub closed : All (λ p. IsClosedBy (stands p) parts box) props

-- the greatest box inside another one that is closed for all propagators
pub record IsGreatest {P : Type 0} (stands : P → Parts → ℕ → Type 0) (props : List P) (parts : Parts) (start box : List (List Bool)) : Type 0 where
  pub closed : IsClosedByAll stands props parts box
  pub inside : LiesIn box start
  pub greatest : (other : List (List Bool)) → IsClosedByAll stands props parts other → LiesIn other start → LiesIn other box

-- what an answer says of the box, and of the one that stood before
abbrev pub Settles : {P : Type 0} → Fixpoint → (P → Parts → ℕ → Type 0) → List P → State → State → Type 0
Settles fixpoints.Settled stands props old new = IsGreatest stands props old.parts old.now new.now
-- no box inside is closed for all propagators
Settles fixpoints.Dead stands props old new = (box : List (List Bool)) → IsClosedByAll stands props old.parts box → LiesIn box old.now → ⊥

-- each analysis of the box that satisfies all principle uses for which the propagators stand stays in the box, and then it
-- isn't dead
abbrev pub KeepsAll : {P : Type 0} → Fixpoint → (P → Parts → ℕ → Type 0) → List P → State → State → Type 0
KeepsAll fixpoint stands props old new =
    (analysis : Analysis) → IsAnalysis old.parts analysis → All (λ p. Satisfies (stands p) old.parts analysis) props → IsIn old.now (vector old.parts analysis)
    → (fixpoint ≢ fixpoints.Dead) × IsIn new.now (vector old.parts analysis)

-- no propagator has anything left to do
abbrev pub AreStill : {P : Type 0} → Fixpoint → (P → Parts → List (List Bool) → Type 0) → List P → State → Type 0
AreStill fixpoints.Settled still props new = All (λ p. still p new.parts new.now) props
AreStill fixpoints.Dead still props new = Unit {0}
