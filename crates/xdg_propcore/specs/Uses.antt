-- For which principle uses a propagator stands.
use Rattle.std.specs.Prelude.{ℕ, ◌<◌, Bool, List, [], length, slice_index_or, All, Contains}
use Rattle.xdg_problem.specs.declared.analysis.Analysis.{Analysis}
use Rattle.xdg_problem.specs.declared.parts.Group.{Group}
use Rattle.xdg_problem.specs.declared.parts.Parts.{Parts}
use Rattle.xdg_problem.specs.declared.parts.Principle.TheVariants as principles
use Rattle.xdg_problem.specs.Relations.{Relation}
use Rattle.xdg_rules.specs.Rules.{IsClosedFor}

-- a principle use where there is none
abbrev pub no_use : Group
no_use = record { principle = principles.Graph; dims = []; attrs = []; order = []; truths = []; feats = [] }

-- the principle use with a number, from 0
abbrev pub use_at : Parts → ℕ → Group
use_at parts number = slice_index_or parts.groups number no_use

-- the number is one of a principle use of the sentence, and the propagator stands for it
abbrev pub StandsFor : (Parts → ℕ → Type 0) → Parts → ℕ → Type 0
StandsFor stands parts number = (number < length parts.groups) × stands parts number

-- the propagator stands for a principle use of the sentence
abbrev pub StandsIn : (Parts → ℕ → Type 0) → Parts → Type 0
StandsIn stands parts = (number : ℕ) × StandsFor stands parts number

-- the box is closed for each principle use for which the propagator stands
abbrev pub IsClosedBy : (Parts → ℕ → Type 0) → Parts → List (List Bool) → Type 0
IsClosedBy stands parts box = (number : ℕ) → StandsFor stands parts number → IsClosedFor parts (use_at parts number) box

-- the analysis satisfies each principle use for which the propagator stands
abbrev pub Satisfies : (Parts → ℕ → Type 0) → Parts → Analysis → Type 0
Satisfies stands parts analysis = (number : ℕ) → StandsFor stands parts number → Relation parts (use_at parts number) analysis

-- each propagator stands for a principle use of the sentence, and each principle use has one that stands for it
pub record AllStandIn {P : Type 0} (stands : P → Parts → ℕ → Type 0) (props : List P) (parts : Parts) : Type 0 where
  pub each : All (λ p. StandsIn (stands p) parts) props
  pub all : (number : ℕ) → number < length parts.groups → (p : P) × Contains props p × stands p parts number
