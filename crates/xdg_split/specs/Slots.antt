-- Answers on the way to their jobs, as the code keeps them: a slot each.
use Rattle.std.specs.Prelude.{◌≡◌, List, Option, None, Some, slice_get}
use Rattle.xdg_split.specs.Answers.{IsAnswer}
use Rattle.xdg_split.specs.Asked.{Asked}
use Rattle.xdg_split.specs.declared.answer.Answer.{Answer}
use Rattle.xdg_split.specs.declared.slots.Placed.{Placed}

-- it answers the job at its place
abbrev pub IsPlaced : List Asked → Placed → Type 0
IsPlaced jobs found = (job : Asked) → slice_get jobs found.place ≡ Some job → IsAnswer job found.answer

-- a slot is empty, or has the answer of the job
abbrev pub Fits : Asked → Option Answer → Type 0
Fits job None = Unit {0}
Fits job (Some answer) = IsAnswer job answer
