-- What a run leaves that writes some of its text before it has taken all its memory.
use Rattle.std.specs.Prelude.{◌≡◌, ℕ, List, Option}
use Rattle.xdg_io.specs.Held.{AppendsFront, WrittenSoFar}
use Rattle.xdg_inputs.specs.Runs.{Ends}
use Rattle.xdg_inputs.specs.declared.status.Status.{Status}
use Rattle.xdg_inputs.specs.declared.status.Status.TheVariants as statuses

-- A run that nothing interrupts ends with the outcome's status and text. Where a read fails nothing was added, where memory is wanting
-- all of the outcome's text but some rest, and where the sink fails a front of it, not all of it.
abbrev pub LeavesPart : (Status → List ℕ → Type 0) → Status → Option (List ℕ) → Option (List ℕ) → Type 0
LeavesPart O statuses.ReadFault old new = new ≡ old
LeavesPart O statuses.OutOfMemory old new = (status : Status) (text : List ℕ) → O status text → (rest : List ℕ) × WrittenSoFar old new text rest
LeavesPart O statuses.WriteFault old new = (status : Status) (text : List ℕ) → O status text → AppendsFront old new text
LeavesPart O status old new = Ends O status old new
