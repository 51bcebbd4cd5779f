-- What a run leaves that may have written a front of its text where memory is wanting, from what its steps left.
use Rattle.std.proofs.Common.{◌<◌, ℕ, List, length, refl, arith}
use Rattle.std.specs.Prelude.{Option, codes}
use Rattle.xdg_base.specs.declared.faults.Fault.{Fault}
use Rattle.xdg_inputs.specs.Refusals.{Refuses, Stops}
use Rattle.xdg_inputs.specs.Runs.{Ends, Leaves, LeavesFront}
use Rattle.xdg_inputs.specs.Stages.{Behind, accepted, refused}
use Rattle.xdg_inputs.specs.declared.refusals.Refusal.{Refusal}
use Rattle.xdg_inputs.specs.declared.status.Status.{Status}
use Rattle.xdg_inputs.specs.declared.status.Status.TheVariants as statuses
use Rattle.xdg_inputs.proofs.Leaving.{leaves_front, stopped_leaves}
use Rattle.xdg_facts.proofs.Fronts.{front_said}

-- no outcome has an empty text
abbrev pub IsSaid : (Status → List ℕ → Type 0) → Type 0
IsSaid O = (status : Status) (text : List ℕ) → O status text → 0 < length text

-- want of memory before anything is written
pub memory_front : (O : Status → List ℕ → Type 0) (held : Option (List ℕ)) → IsSaid O → LeavesFront O statuses.OutOfMemory held held
memory_front O held said = leaves_front O statuses.OutOfMemory held held said refl

module _ (A : Type 0) (bad : Status) (Refused : List ℕ → Fault → Type 0) (Has : A → Type 0) (next : A → Status → List ℕ → Type 0) (said : (a : A) → IsSaid (next a)) where
  -- a step has no empty text where none of what comes next has
  pub behind_said : IsSaid (Behind A bad Refused Has next)
  behind_said status text (refused t f r s l) = front_said text (codes "fault") _ l (omega arith)
  behind_said status text (accepted a h n) = said a status text n

  -- why a step came to nothing
  pub stopped_front : (Told : Type 0) (before after : ℕ) (result : Status) (refusal : Refusal) (old new : Option (List ℕ)) → Told → (Ends (Behind A bad Refused Has next) bad old new → Leaves (Behind A bad Refused Has next) bad old new)
      → Stops Told before after A Refused Has refusal → Refuses result bad refusal old new → LeavesFront (Behind A bad Refused Has next) result old new
  stopped_front Told before after result refusal old new told build s r =
      leaves_front (Behind A bad Refused Has next) result old new behind_said (stopped_leaves A bad Refused Has next Told before after result refusal old new told build s r)
