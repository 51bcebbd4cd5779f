-- A device whose count of failures stays 0 never failed.
use Rattle.std.proofs.Common.{◌≡◌, ◌≢◌, ℕ, List}
use Rattle.xdg_command.specs.declared.commands.Command.{Command}
use Rattle.xdg_io.specs.Rose.{Rose}
use Rattle.xdg_io.proofs.Counts.{still}
use Rattle.xdg_inputs.specs.declared.status.Status.{Status}
use Rattle.xdg_inputs.specs.declared.status.Status.TheVariants as statuses
use Rattle.xdg_top.specs.Runs.{FailsToRead, ReadFailed, of_file, of_input}

never_failed : (command : Command) → FailsToRead command (λ _. 0) (λ _. 0) 0 0 → ⊥
never_failed command (of_file name reads rose) = still rose
never_failed command (of_input reads rose) = still rose

pub no_read : (given : List (List ℕ)) (status : Status) → (status ≡ statuses.ReadFault → ReadFailed given (λ _. 0) (λ _. 0) 0 0) → status ≢ statuses.ReadFault
no_read given status told is = (let failed = told is in never_failed failed.command failed.failed)

pub no_write : (status : Status) → (status ≡ statuses.WriteFault → Rose 0 0) → status ≢ statuses.WriteFault
no_write status told is = still (told is)
