-- What a part of a step does.
use Rattle.std.specs.Prelude.{ℕ, Bool, List}
use Rattle.xdg_problem.specs.declared.parts.Group.{Group}
use Rattle.xdg_problem.specs.declared.parts.Parts.{Parts}
use Rattle.xdg_problem.specs.Boxes.{IsBox, LiesIn}
use Rattle.xdg_problem.specs.Vectors.{shape}
use Rattle.xdg_rules.specs.Rules.{Takes}
use Rattle.xdg_store.specs.States.{State, Known}
use Rattle.xdg_propcore.specs.Passes.{Progress, Goes, IsQuiet}

-- it goes on from a store and a progress to others, and where still nothing was taken, something holds of the box
pub record Sweeps (group : Group) (Done : List (List Bool) → Type 0) (p : Progress) (old : State) (q : Progress) (new : State) : Type 0 where
  pub goes : Goes group p old q new
  pub known : Known new
  pub done : IsQuiet q → Done new.now

-- in each box inside, the principle use takes those values of a decision that lack what they need
abbrev pub TakesInside : Parts → Group → List (List Bool) → ℕ → (List (List Bool) → ℕ → Type 0) → Type 0
TakesInside parts group start d Lacks =
    (box : List (List Bool)) → IsBox (shape parts) box → LiesIn box start → (v : ℕ) → Lacks box v → Takes parts group box d v
