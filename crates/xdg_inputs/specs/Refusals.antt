-- Why a run ends before anything is printed, and what that leaves.
use Rattle.std.specs.Prelude.{◌≡◌, ◌⊎◌, ℕ, List, Option}
use Rattle.xdg_base.specs.declared.faults.Fault.{Fault}
use Rattle.xdg_base.specs.declared.faults.Stop.{Stop}
use Rattle.xdg_base.specs.declared.faults.Stop.TheVariants as stops
use Rattle.xdg_base.specs.declared.places.LineColumn.{LineColumn}
use Rattle.xdg_io.specs.Held.{Appends, AppendsFront}
use Rattle.xdg_io.specs.Rose.{Rose}
use Rattle.xdg_text.specs.Lines.{fault_text}
use Rattle.xdg_inputs.specs.Places.{line_column}
use Rattle.xdg_inputs.specs.Stages.{Rejects}
use Rattle.xdg_inputs.specs.declared.refusals.Refusal.{Refusal}
use Rattle.xdg_inputs.specs.declared.refusals.Refusal.TheVariants as refusals
use Rattle.xdg_inputs.specs.declared.status.Status.{Status}
use Rattle.xdg_inputs.specs.declared.status.Status.TheVariants as statuses

-- a step rejects a text for this fault, which stands at this place
pub record RejectsAt (A : Type 0) (Refused : List ℕ → Fault → Type 0) (Has : A → Type 0) (f : Fault) (place : LineColumn) : Type 0 where
  pub text : List ℕ
  pub rejects : Rejects A Refused Has text f
  pub place_is : place ≡ line_column text f

-- Why a step came to nothing: the device's count rose, or memory was wanting, or the step rejects a text, where the devices tell
-- what they hold.
abbrev pub Stops : (Told : Type 0) → ℕ → ℕ → (A : Type 0) → (List ℕ → Fault → Type 0) → (A → Type 0) → Refusal → Type 0
Stops Told old new A Refused Has refusals.Read = Rose old new
Stops Told old new A Refused Has refusals.Memory = Unit {0}
Stops Told old new A Refused Has (refusals.Text f place) = Told → RejectsAt A Refused Has f place

-- what the refusal of a text leaves in the sink, with the status that goes with it
abbrev pub Refuses : Status → Status → Refusal → Option (List ℕ) → Option (List ℕ) → Type 0
Refuses result status refusals.Read old new = (result ≡ statuses.ReadFault) × (new ≡ old)
Refuses result status refusals.Memory old new = (result ≡ statuses.OutOfMemory) × (new ≡ old)
Refuses result status (refusals.Text refused place) old new =
    ((result ≡ status) × Appends old new (fault_text refused place)) ⊎ ((result ≡ statuses.WriteFault) × AppendsFront old new (fault_text refused place))

-- the refusal of a text for what stopped a call
abbrev pub refusal_of : List ℕ → Stop → Refusal
refusal_of text (stops.Fault f) = refusals.Text f (line_column text f)
refusal_of text stops.OutOfMemory = refusals.Memory
