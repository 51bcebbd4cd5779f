-- What a step of a propagator does.
use Rattle.std.specs.Prelude.{◌≡◌, ◌≢◌, ℕ, Bool, List, ◌++◌}
use Rattle.xdg_problem.specs.declared.parts.Parts.{Parts}
use Rattle.xdg_problem.specs.declared.analysis.Analysis.{Analysis}
use Rattle.xdg_problem.specs.Analyses.{IsAnalysis}
use Rattle.xdg_problem.specs.Boxes.{IsBox, IsIn, LiesIn}
use Rattle.xdg_problem.specs.Relations.{Relation}
use Rattle.xdg_problem.specs.Vectors.{shape, vector}
use Rattle.xdg_rules.specs.Rules.{IsClosedFor}
use Rattle.xdg_store.specs.States.{State}
use Rattle.xdg_propcore.specs.Losses.{Loses}
use Rattle.xdg_propcore.specs.Uses.{StandsFor, use_at}
use Rattle.xdg_propcore.specs.declared.moved.Moved.{Moved}
use Rattle.xdg_propcore.specs.declared.moved.Moved.TheVariants as moves

-- the sentence is the same, the boxes that stood are the first ones still, and no value came back
pub record Extends (old new : State) : Type 0 where
  pub same : new.parts ≡ old.parts
  pub more : List (List (List Bool))
  pub grown : new.history ≡ old.history ++ more
  pub inside : LiesIn new.now old.now

-- each box inside that is closed for a principle use for which the propagator stands stays inside, and then it isn't dead
abbrev pub KeepsBoxes : (Parts → ℕ → Type 0) → Parts → Moved → List (List Bool) → List (List Bool) → Type 0
KeepsBoxes stands parts moved old new =
    (number : ℕ) → StandsFor stands parts number
    → (box : List (List Bool)) → IsBox (shape parts) box → IsClosedFor parts (use_at parts number) box → LiesIn box old
    → (moved ≢ moves.Dead) × LiesIn box new

-- each analysis of the box that satisfies such a principle use stays in the box, and then it isn't dead
abbrev pub KeepsAnalyses : (Parts → ℕ → Type 0) → Parts → Moved → List (List Bool) → List (List Bool) → Type 0
KeepsAnalyses stands parts moved old new =
    (number : ℕ) → StandsFor stands parts number
    → (analysis : Analysis) → IsAnalysis parts analysis → Relation parts (use_at parts number) analysis → IsIn old (vector parts analysis)
    → (moved ≢ moves.Dead) × IsIn new (vector parts analysis)

-- what a step keeps
pub record Keeps (stands : Parts → ℕ → Type 0) (moved : Moved) (old new : State) : Type 0 where
  pub boxes : KeepsBoxes stands old.parts moved old.now new.now
  pub analyses : KeepsAnalyses stands old.parts moved old.now new.now

-- what an answer says of the box
abbrev pub Moves : Moved → State → State → Type 0
-- it is as it was
Moves moves.Same old new = new.now ≡ old.now
-- it lost values of exactly these kinds
Moves (moves.Changed wakes) old new = Loses old.parts wakes.0 old.now new.now
Moves moves.Dead old new = Unit {0}
