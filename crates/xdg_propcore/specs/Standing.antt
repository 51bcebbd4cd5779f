-- Boxes on which propagators were still.
use Rattle.std.specs.Prelude.{◌≡◌, ℕ, ◌<◌, Bool, List, [], Option, Some, None, All, length, slice_index_or}
use Rattle.xdg_problem.specs.declared.parts.Parts.{Parts}
use Rattle.xdg_problem.specs.Boxes.{IsBox, LiesIn}
use Rattle.xdg_problem.specs.Vectors.{shape}
use Rattle.xdg_store.specs.States.{State}
use Rattle.xdg_propcore.specs.Flags.{IsOn}
use Rattle.xdg_propcore.specs.Losses.{LosesWithin}

-- each propagator that sleeps is still
abbrev pub SleepersStill : {P : Type 0} → (P → Parts → List (List Bool) → Type 0) → List P → List Bool → Parts → List (List Bool) → Type 0
SleepersStill {P} still props awake parts box = (at : ℕ) (d : P) → at < length props → (IsOn awake at → ⊥) → still (slice_index_or props at d) parts box

-- the box at a mark of the history
abbrev pub box_at : State → ℕ → List (List Bool)
box_at s mark = slice_index_or s.history mark []

-- the present box lies in one of the history, on which something held
pub record Held (still : Parts → List (List Bool) → Type 0) (s : State) (mark : ℕ) : Type 0 where
  pub within : mark < length s.history
  pub is : IsBox (shape s.parts) (box_at s mark)
  pub inside : LiesIn s.now (box_at s mark)
  pub calm : still s.parts (box_at s mark)

-- the same, where there is such a mark
abbrev pub HeldIf : (Parts → List (List Bool) → Type 0) → State → Option ℕ → Type 0
HeldIf still s since = (mark : ℕ) → since ≡ Some mark → Held still s mark

-- each propagator was still at its mark, if it has one
pub record AreHeld {P : Type 0} (still : P → Parts → List (List Bool) → Type 0) (props : List P) (s : State) (marks : List (Option ℕ)) : Type 0 where
  pub count : length marks ≡ length props
  pub each : (at : ℕ) (d : P) → at < length props → HeldIf (still (slice_index_or props at d)) s (slice_index_or marks at None)

-- all propagators were still at a mark, and what is lost since then has a kind of the wake set
pub record WereStill {P : Type 0} (still : P → Parts → List (List Bool) → Type 0) (props : List P) (s : State) (mark lost : ℕ) : Type 0 where
  pub held : All (λ p. Held (still p) s mark) props
  pub kinds : LosesWithin s.parts lost (box_at s mark) s.now
