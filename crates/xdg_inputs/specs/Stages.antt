-- The steps of a command, one behind the other.
use Rattle.std.specs.Prelude.{◌≡◌, ℕ, List}
use Rattle.xdg_base.specs.declared.faults.Fault.{Fault}
use Rattle.xdg_text.specs.Lines.{fault_text}
use Rattle.xdg_inputs.specs.Places.{line_column}
use Rattle.xdg_inputs.specs.declared.status.Status.{Status}

-- A step of a command, and what comes next. What is read is refused, and the outcome is the status of such a refusal and the fault
-- line, with the place in the text that is refused; or something is accepted, and the outcome is that of what comes next.
pub data Behind (A : Type 0) (bad : Status) (Refused : List ℕ → Fault → Type 0) (Has : A → Type 0) (next : A → Status → List ℕ → Type 0) (status : Status)
    (line : List ℕ) : Type 0 where
  refused : (text : List ℕ) (f : Fault) → Refused text f → status ≡ bad → line ≡ fault_text f (line_column text f) → Behind A bad Refused Has next status line
  accepted : (a : A) → Has a → next a status line → Behind A bad Refused Has next status line

-- the step accepts this, nothing else, and refuses nothing
pub record Accepts (A : Type 0) (Refused : List ℕ → Fault → Type 0) (Has : A → Type 0) (a : A) : Type 0 where
  pub has : Has a
  pub one : (b : A) → Has b → b ≡ a
  pub never : (text : List ℕ) (f : Fault) → Refused text f → ⊥

-- the step refuses this text for this fault, no other, and accepts nothing
pub record Rejects (A : Type 0) (Refused : List ℕ → Fault → Type 0) (Has : A → Type 0) (text : List ℕ) (f : Fault) : Type 0 where
  pub is : Refused text f
  pub one : (other : List ℕ) (g : Fault) → Refused other g → (other ≡ text) × (g ≡ f)
  pub never : (b : A) → Has b → ⊥
