-- What a run leaves behind.
use Rattle.std.specs.Prelude.{◌≡◌, ◌≢◌, ◌⊎◌, ℕ, List, Option}
use Rattle.xdg_io.specs.Held.{Appends, AppendsFront}
use Rattle.xdg_inputs.specs.declared.status.Status.{Status}
use Rattle.xdg_inputs.specs.declared.status.Status.TheVariants as statuses

-- O says which status and text are the outcome. Its text was added, and there is no other outcome.
pub record Ends (O : Status → List ℕ → Type 0) (status : Status) (old new : Option (List ℕ)) : Type 0 where
  pub text : List ℕ
  pub outcome : O status text
  pub only : (other : Status) (more : List ℕ) → O other more → (status ≡ other) × (text ≡ more)
  pub appends : Appends old new text

-- A run that nothing interrupts ends with the outcome's status and text. Where a read fails or memory is wanting nothing was
-- added, and where the sink fails a front of the outcome's text, not all of it.
abbrev pub Leaves : (Status → List ℕ → Type 0) → Status → Option (List ℕ) → Option (List ℕ) → Type 0
Leaves O statuses.ReadFault old new = new ≡ old
Leaves O statuses.OutOfMemory old new = new ≡ old
Leaves O statuses.WriteFault old new = (status : Status) (text : List ℕ) → O status text → AppendsFront old new text
Leaves O status old new = Ends O status old new

-- The same of a run that writes some of its text before it has taken all its memory: for want of memory, as where the sink fails, a
-- front of the outcome's text was added, not all of it.
abbrev pub LeavesFront : (Status → List ℕ → Type 0) → Status → Option (List ℕ) → Option (List ℕ) → Type 0
LeavesFront O statuses.ReadFault old new = new ≡ old
LeavesFront O statuses.OutOfMemory old new = (status : Status) (text : List ℕ) → O status text → AppendsFront old new text
LeavesFront O statuses.WriteFault old new = (status : Status) (text : List ℕ) → O status text → AppendsFront old new text
LeavesFront O status old new = Ends O status old new

-- ---- whatever the devices tell

-- after a failed read and for want of memory nothing was added
abbrev pub Unwritten : Status → Option (List ℕ) → Option (List ℕ) → Type 0
Unwritten status old new = (status ≡ statuses.ReadFault) ⊎ (status ≡ statuses.OutOfMemory) → new ≡ old

-- A command ends with one of these statuses. The count of the sink's failures stays, unless a write failed.
pub record Wrote (CanEnd : Status → Type 0) (status : Status) (count_old count_new : ℕ) (old new : Option (List ℕ)) : Type 0 where
  pub ends : CanEnd status
  pub unwritten : Unwritten status old new
  pub quiet : status ≢ statuses.WriteFault → count_new ≡ count_old
