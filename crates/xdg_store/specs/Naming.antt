-- Of which decisions values were removed.
use Rattle.std.specs.Prelude.{◌≡◌, ◌≢◌, ℕ, ◌<◌, ◌≤◌, ◌+◌, Bool, List, [], ◌∷◌, ◌++◌, All, Contains, length, sum, slice_index_or}
use Rattle.xdg_problem.specs.declared.parts.Parts.{Parts}
use Rattle.xdg_problem.specs.Boxes.{Has}
use Rattle.xdg_problem.specs.Vectors.{shape}
use Rattle.xdg_store.specs.Decisions.{IsDecision, number_of}
use Rattle.xdg_store.specs.declared.change.Change.{Change}
use Rattle.xdg_store.specs.declared.change.Change.TheVariants as changes
use Rattle.xdg_store.specs.declared.decision.Decision.{Decision}

-- the decisions with one more, where one of its values was removed
abbrev pub noted : Change → List Decision → Decision → List Decision
noted changes.Same removed decision = removed
noted changes.Changed removed decision = removed ++ (decision ∷ [])
noted changes.Emptied removed decision = removed

-- no value of a decision other than d is lost
abbrev pub LosesOf : List (List Bool) → List (List Bool) → ℕ → Type 0
LosesOf old new d = (e v : ℕ) → Has old e v → e ≢ d → Has new e v

-- every decision other than d is as it was
abbrev pub SameBut : List (List Bool) → List (List Bool) → ℕ → Type 0
SameBut old new d = (e : ℕ) → e ≢ d → slice_index_or new e [] ≡ slice_index_or old e []

-- the k-th of some decisions is one on the sentence, and from the k-th box of a history to the next every other is as it was
abbrev pub IsStep : Parts → List (List (List Bool)) → List Decision → ℕ → Type 0
IsStep parts history removed k =
    (d : Decision)
    → IsDecision parts (slice_index_or removed k d)
    × SameBut (slice_index_or history k []) (slice_index_or history (k + 1) []) (number_of parts (slice_index_or removed k d))

-- decisions for the steps from box to box of a history, with room for as many as there can be
pub record AreSteps (parts : Parts) (history : List (List (List Bool))) (removed : List Decision) (room : ℕ) : Type 0 where
  pub count : length history ≡ length removed + 1
  pub each : (k : ℕ) → k < length removed → IsStep parts history removed k
  pub most : sum (shape parts) ≤ room + length (shape parts)

-- decisions on a sentence, and each that has lost a value is among them
pub record Names (parts : Parts) (old new : List (List Bool)) (decisions : List Decision) : Type 0 where
  pub each : All (IsDecision parts) decisions
  pub all : (d v : ℕ) → Has old d v → (Has new d v → ⊥) → (decision : Decision) × Contains decisions decision × (number_of parts decision ≡ d)
